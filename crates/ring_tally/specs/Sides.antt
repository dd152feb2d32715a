-- The side of a ring, by the sign of its float area.
use Rattle.std.specs.Prelude.{ℕ, Bool, true, false, List, pos, Float}
use Rattle.std.specs.Float.{fin}
use Rattle.std.specs.Float.Ieee.{lt}
use Rattle.rules.specs.Ringing.{Side, Enclosed as enclosed_side, Open as open_side, Flat as flat_side, area_in, side_number_lem, side_area_lem}
use Rattle.ring_tally.specs.declared.side.RingSide.{RingSide}
use Rattle.ring_tally.specs.declared.side.RingSide.TheVariants.{Enclosed, Open, Flat}

-- the rules' side that each case of the enum says
abbrev pub side_of : RingSide → Side
side_of (Enclosed a) = enclosed_side a
side_of (Open a) = open_side a
side_of Flat = flat_side

-- above 0.0, below it, or neither
abbrev pub side_where : Bool → Bool → Float → RingSide
side_where true below a = Enclosed a
side_where false true a = Open a
side_where false false a = Flat

-- the side by the sign of the float area
abbrev pub sign_side : Float → RingSide
sign_side a = side_where (lt (fin false 0 (pos 0)) a) (lt a (fin false 0 (pos 0))) a

-- the side of a ring whose half-edges start at the nodes of a table with these x and y
abbrev pub side_in : List ℕ → List Float → List Float → List ℕ → RingSide
side_in source xs ys ring = sign_side (area_in source xs ys ring)

-- the number of its side
abbrev pub number_in : List ℕ → List Float → List Float → List ℕ → ℕ
number_in source xs ys ring = side_number_lem (side_of (side_in source xs ys ring))

-- and the area that is replied of it, 0.0 where flat
abbrev pub shown_in : List ℕ → List Float → List Float → List ℕ → Float
shown_in source xs ys ring = side_area_lem (side_of (side_in source xs ys ring))
