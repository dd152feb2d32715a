-- The holes of rings depend on where nodes below a bound lie alone, so whole numbers out of tables of floats give the same.
use Prim.Native.Nat.{ℕ, ◌<◌, ◌≤◌}
use mathlib.Core.Path.{◌≡◌, refl}
use mathlib.Core.List.{List, map}
use lib.IntN.{ℤ}
use lib.ListN.{length, take}
use lib.Ieee.{Float}
use Rattle.lists.specs.Lists.{over}
use Rattle.geometry.specs.Angle.{Point}
use Rattle.geometry.specs.Coordinate.{value}
use Rattle.rules.specs.Face.{Ring}
use Rattle.rules.specs.State.{point_in}
use Rattle.rules.specs.Holes.{ring_at, holes_of}
use Rattle.rules.proofs.HolesAgree.{SameLines, holes_agree}
use Rattle.inside.specs.Spots.{spot, spot_in, RingWithin}
use Rattle.inside.proofs.Tables.{written_at}
use Rattle.holding.specs.Maps.{origins}
use Rattle.holder_search.proofs.HoldingLaws.{line-within}

-- the lines of a ring join nodes below the bound
same_lines : (ring source : List ℕ) (bound : ℕ) → RingWithin ring source bound → SameLines (origins source) (origins source) bound ring
same_lines ring source bound within h m =
    let l = line-within ring source bound within h m in
    record { start = refl; finish = refl; start_low = l.start; finish_low = l.finish }

-- points that agree below the bound give the same holes
pub holes-within : (source : List ℕ) (rs : List Ring) (bound : ℕ) (at at' : ℕ → Point) → ((i : ℕ) → i < length rs → RingWithin (ring_at rs i).half_edges_lem source bound)
    → ((n : ℕ) → n < bound → at n ≡ at' n) → holes_of at (origins source) rs ≡ holes_of at' (origins source) rs
holes-within source rs bound at at' within placed =
    holes_agree (origins source) (origins source) bound at at' placed rs (λ i l. same_lines (ring_at rs i).half_edges_lem source bound (within i l))

-- a table of x and one of y, of which the first entries were written as whole numbers, place a node where the floats do
pub whole_spots : (X Y : List Float) (bound : ℕ) → bound ≤ length X → bound ≤ length Y → (xs ys : List ℤ) (n : ℕ) → n < bound
    → spot_in (over (take bound (map value X)) xs) (over (take bound (map value Y)) ys) n ≡ point_in X Y n
whole_spots X Y bound in_x in_y xs ys n low = λ i. spot (written_at X xs bound in_x n low i) (written_at Y ys bound in_y n low i)
