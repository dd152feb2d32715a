-- The walk around a ring. The invariant: what is left to do from `cur` gives what the whole walk gives (`Walking`). The measure is what is left of the walk.
use Prim.Native.Nat.{◌<◌}
use mathlib.Core.Path.{◌≡◌}
use lib.ListN.{length}
use Rattle.rules.specs.Cycles.{walk}
use Rattle.splitting.specs.Splits.{entry_of}
use Rattle.rings.proofs.Walking.{Walking}
use Rattle.rings.proofs.walk.walk_ring.Given as goal

abbrev pub invariant-loop-cur : goal.invariant-loop-cur
invariant-loop-cur l = (length l.seen ≡ length l.initial.seen) × (length l.half_edges ≡ length l.initial.half_edges) × (length l.keys ≡ length l.initial.keys) × (l.cur < length l.next) × (l.cur < length l.initial.seen)
    × Walking (entry_of l.next) (length l.next) l.start.0 l.at l.dir_edges_src l.nodes_x l.nodes_y l.initial.seen l.initial.half_edges l.initial.keys l.seen l.half_edges l.keys l.tally l.cur

abbrev pub decreases-loop-cur : goal.decreases-loop-cur
decreases-loop-cur l = length (walk (entry_of l.next) (length l.next) l.start.0 l.cur)
