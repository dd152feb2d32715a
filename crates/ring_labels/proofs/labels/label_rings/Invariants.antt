-- `ring_labels::labels::label_rings` meets its contract. The invariant: after k half-edges, what the procedure of the rules has after k.
use Prim.Native.Nat.{◌-◌, ◌*◌, ◌≤◌}
use mathlib.Core.Path.{◌≡◌}
use lib.ListN.{length}
use Rattle.rules.specs.Sane.{Permutes}
use Rattle.stars.specs.Groups.{unmarked}
use Rattle.ring_labels.specs.Labels.{entry_of}
use Rattle.ring_labels.proofs.Labelling.{Held}
use Rattle.ring_labels.proofs.labels.label_rings.Given as goal

abbrev pub invariant-loop-h : goal.invariant-loop-h
invariant-loop-h l = (length l.labels ≡ length l.initial.labels) × (l.h ≤ l.halves) × (l.used ≤ l.h)
    × ((t : Permutes (entry_of l.next) (2 * l.edges) (unmarked l.dir_edges_marked)) → Held l.edges l.next l.dir_edges_marked l.initial.labels t l.labels l.used l.h)

abbrev pub decreases-loop-h : goal.decreases-loop-h
decreases-loop-h l = l.halves - l.h
