-- `list_holes` meets its contract. The invariant: the open ones of the rings gone through are recorded.
use Prim.Native.Nat.{◌-◌}
use Rattle.holding.specs.Maps.{map_of}
use Rattle.hole_listing.proofs.ListingLaws.{Gone}
use Rattle.hole_listing.proofs.list_holes.Given as goal

abbrev pub invariant-loop-i : goal.invariant-loop-i
invariant-loop-i l = Gone (map_of l.dir_edges_src l.xs l.ys l.half_edges l.nodes l.ring_first l.ring_length l.ring_face) l.slope l.rings l.numbers l.count l.ring_side l.ring_area l.ring_count l.i l.list l.stamps l.k

abbrev pub decreases-loop-i : goal.decreases-loop-i
decreases-loop-i l = l.ring_count - l.i
