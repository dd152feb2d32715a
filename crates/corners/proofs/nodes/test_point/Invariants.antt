-- `test_point` meets its contract. The invariant: the point is the leftmost without the stamp among the nodes gone through.
use Prim.Native.Nat.{◌-◌, ◌≤◌}
use lib.ListN.{length, take}
use Rattle.inside.specs.Spots.{spot_in}
use Rattle.corners.specs.Nodes.{unstamped, Leftmost}
use Rattle.corners.proofs.nodes.test_point.Given as goal

abbrev pub invariant-loop-node : goal.invariant-loop-node
invariant-loop-node l = (l.node-index ≤ length l.nodes) × Leftmost (spot_in l.xs l.ys) (unstamped l.stamp l.stamps (take l.node-index l.nodes)) l.point

abbrev pub decreases-loop-node : goal.decreases-loop-node
decreases-loop-node l = length l.nodes - l.node-index
