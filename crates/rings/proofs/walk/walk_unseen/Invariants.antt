-- The loop over the half-edges. The invariant: after k of them, what the procedure that marks has listed (`Held`).
use Prim.Native.Nat.{◌-◌, ◌*◌, ◌≤◌}
use mathlib.Core.Path.{◌≡◌}
use lib.ListN.{length}
use Rattle.rings.specs.Listing.{rows_of}
use Rattle.rings.proofs.Rows.{Held}
use Rattle.rings.proofs.walk.walk_unseen.Given as goal

abbrev pub invariant-loop-k : goal.invariant-loop-k
invariant-loop-k l = (length l.seen ≡ length l.initial.seen) × (length l.half_edges ≡ length l.initial.half_edges) × (length l.keys ≡ length l.initial.keys) × (length l.ring_first ≡ length l.initial.ring_first) × (length l.ring_length ≡ length l.initial.ring_length)
    × (length l.ring_side ≡ length l.initial.ring_side) × (length l.ring_area ≡ length l.initial.ring_area) × (l.k ≤ 2 * l.edges) × (l.count ≤ l.k)
    × Held l.edges l.next l.dir_edges_src l.dir_edges_marked l.nodes_x l.nodes_y l.initial.seen l.initial.half_edges l.initial.keys (rows_of l.initial.ring_first l.initial.ring_length l.initial.ring_side l.initial.ring_area) l.seen l.half_edges l.keys (rows_of l.ring_first l.ring_length l.ring_side l.ring_area) l.count l.at l.k

abbrev pub decreases-loop-k : goal.decreases-loop-k
decreases-loop-k l = 2 * l.edges - l.k
