-- `list_enclosed` meets its contract. The invariant: the rings gone through are listed, where they are enclosed.
use Prim.Native.Nat.{◌-◌}
use Rattle.candidates.proofs.Listing.{Gone}
use Rattle.candidates.proofs.list_enclosed.Given as goal

abbrev pub invariant-loop-i : goal.invariant-loop-i
invariant-loop-i l = Gone l.nodes l.xs l.ys l.ring_first l.ring_length l.ring_side l.ring_area l.node_count l.count l.initial.rings l.initial.numbers l.i l.rings l.numbers l.n

abbrev pub decreases-loop-i : goal.decreases-loop-i
decreases-loop-i l = l.count - l.i
