-- `ring_labels::labels::stamp_ring` meets its contract. The invariant: the walk is in the cycle of its start, and what is left to write gives what the whole walk gives. The measure is what is left of the walk.
use Prim.Native.Nat.{◌<◌}
use mathlib.Core.Path.{◌≡◌}
use lib.ListN.{length}
use Rattle.lists.specs.Lists.{In}
use Rattle.rules.specs.Cycles.{walk, cycle}
use Rattle.rules.proofs.Marking.{stamp}
use Rattle.ring_labels.specs.Labels.{entry_of}
use Rattle.ring_labels.proofs.labels.stamp_ring.Given as goal

abbrev pub invariant-loop-cur : goal.invariant-loop-cur
invariant-loop-cur l = (length l.labels ≡ length l.initial.labels) × (l.cur < length l.next) × (l.cur < length l.labels) × In l.cur (cycle (entry_of l.next) (length l.next) l.first)
    × (stamp (entry_of l.next) l.label (length l.next) l.first l.cur l.labels ≡ stamp (entry_of l.next) l.label (length l.next) l.first l.first l.initial.labels)

abbrev pub decreases-loop-cur : goal.decreases-loop-cur
decreases-loop-cur l = length (walk (entry_of l.next) (length l.next) l.first l.cur)
