-- `ring_labels::links::link_successors` meets its contract. The invariant: the stars of the first n nodes are linked.
use Prim.Native.Nat.{◌-◌, ◌≤◌}
use mathlib.Core.Path.{◌≡◌}
use lib.ListN.{length}
use Rattle.stars.specs.Groups.{unmarked}
use Rattle.ring_labels.proofs.Linking.{link_nodes}
use Rattle.ring_labels.proofs.links.link_successors.Given as goal

abbrev pub invariant-loop-n : goal.invariant-loop-n
invariant-loop-n l = (l.n ≤ l.nodes) × (length l.next ≡ length l.initial.next) × (l.next ≡ link_nodes (unmarked l.dir_edges_marked) l.offsets l.grouped l.n l.initial.next)

abbrev pub decreases-loop-n : goal.decreases-loop-n
decreases-loop-n l = l.nodes - l.n
