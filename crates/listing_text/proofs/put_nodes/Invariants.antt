-- `put_nodes` meets its contract. The invariant: the nodes of the half-edges from `i` on are left.
use Prim.Native.Nat.{◌-◌, ◌≤◌}
use lib.ListN.{take, drop}
use Rattle.file_rules.specs.Lines.{spaced, starting_nodes}
use Rattle.lists.proofs.Buffers.{Left}
use Rattle.listing_text.proofs.put_nodes.Given as goal

abbrev pub invariant-loop-i : goal.invariant-loop-i
invariant-loop-i l =
    (l.i ≤ l.ring_length)
    × Left l.at (spaced (starting_nodes l.dir_edges_src (take l.ring_length (drop l.first l.half_edges)))) l.initial.out l.place
    (spaced (starting_nodes l.dir_edges_src (drop l.i (take l.ring_length (drop l.first l.half_edges))))) l.out

abbrev pub decreases-loop-i : goal.decreases-loop-i
decreases-loop-i l = l.ring_length - l.i
