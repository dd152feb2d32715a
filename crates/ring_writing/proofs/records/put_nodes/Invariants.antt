-- `put_nodes` meets its contract. The invariant: the node numbers from `i` on are left.
use Prim.Native.Nat.{◌-◌, ◌≤◌}
use lib.ListN.{drop}
use Rattle.lists.proofs.Buffers.{Left}
use Rattle.ring_writing.specs.Rings.{nodes_in}
use Rattle.ring_writing.proofs.Bytes.{words}
use Rattle.ring_writing.proofs.records.put_nodes.Given as goal

abbrev pub invariant-loop-i : goal.invariant-loop-i
invariant-loop-i l = (l.i ≤ l.count) × Left l.at (words (nodes_in l.nodes l.first l.count)) l.initial.out l.place (words (drop l.i (nodes_in l.nodes l.first l.count))) l.out

abbrev pub decreases-loop-i : goal.decreases-loop-i
decreases-loop-i l = l.count - l.i
