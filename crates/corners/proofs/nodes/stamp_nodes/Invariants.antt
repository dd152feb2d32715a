-- `stamp_nodes` meets its contract. The invariant: the nodes gone through are stamped.
use Prim.Native.Nat.{◌-◌, ◌≤◌}
use lib.ListN.{length, take}
use Rattle.corners.specs.Nodes.{Stamped}
use Rattle.corners.proofs.nodes.stamp_nodes.Given as goal

abbrev pub invariant-loop-node : goal.invariant-loop-node
invariant-loop-node l = (l.node-index ≤ length l.nodes) × Stamped (take l.node-index l.nodes) l.stamp l.initial.stamps l.stamps

abbrev pub decreases-loop-node : goal.decreases-loop-node
decreases-loop-node l = length l.nodes - l.node-index
