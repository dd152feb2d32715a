-- `sides_of` meets its contract. The invariant: the sides are those of the nodes gone through.
use Prim.Native.Nat.{◌-◌, ◌≤◌}
use lib.ListN.{length, take}
use Rattle.corners.specs.Boxes.{Outermost}
use Rattle.corners.proofs.boxes.sides_of.Given as goal

abbrev pub invariant-loop-k : goal.invariant-loop-k
invariant-loop-k l = (l.k ≤ length l.nodes) × Outermost l.xs l.ys (take l.k l.nodes) l.sides

abbrev pub decreases-loop-k : goal.decreases-loop-k
decreases-loop-k l = length l.nodes - l.k
