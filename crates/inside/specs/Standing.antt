-- How a point stands to a ring that is given by its nodes, as the code answers it: line by line, each from a node to the next.
use Rattle.std.specs.Prelude.{ℕ, Bool, true, false, cond, not, List, [], ◌∷◌}
use Rattle.geometry.specs.Angle.{Point}
use Rattle.inside.specs.Meeting.{meets_of}
use Rattle.inside.specs.declared.lines.Meets.{Meets}
use Rattle.inside.specs.declared.lines.Meets.TheVariants.{OnLine, Right, Apart}
use Rattle.inside.specs.declared.rings.Stands.{Stands}
use Rattle.inside.specs.declared.rings.Stands.TheVariants.{Inside, Outside, OnRing}

-- once all lines are passed: an odd number of them crossed to the right of the point, or an even one
abbrev pub ended : Bool → Stands
ended odd = cond odd Inside Outside

-- a line with the point on it decides; one that crosses to the right, and one that does not, leave it to the others
abbrev pub after : Meets → Stands → Stands → Stands
after OnLine crossed apart = OnRing
after Right crossed apart = crossed
after Apart crossed apart = apart

-- the lines from node a to the first of the list, from that to the next, and so on, where an odd number crossed before them, or an even one
abbrev pub stands_from : (ℕ → Point) → Point → Bool → ℕ → List ℕ → Stands
stands_from at p odd a [] = ended odd
stands_from at p odd a (b ∷ l) = after (meets_of (at a) (at b) p) (stands_from at p (not odd) b l) (stands_from at p odd b l)

-- strictly inside
abbrev pub is_inside : Stands → Bool
is_inside Inside = true
is_inside Outside = false
is_inside OnRing = false
