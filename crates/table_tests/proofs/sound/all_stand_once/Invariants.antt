-- `all_stand_once` meets its contract: `seen` says which half-edges stand among the entries passed.
use Prim.Native.Nat.{◌≤◌, ◌-◌, ◌*◌}
use mathlib.Core.Path.{◌≡◌}
use lib.ListN.{length}
use Rattle.rules.specs.Limits.{limits}
use Rattle.table_tests.proofs.Standing.{Seen}
use Rattle.table_tests.proofs.sound.all_stand_once.Given as goal

abbrev pub invariant-loop-i : goal.invariant-loop-i
invariant-loop-i l = (l.i ≤ l.halves) × (length l.seen ≡ (2 * limits.edges)) × Seen l.halves l.nodes_outgoing l.i l.seen

abbrev pub decreases-loop-i : goal.decreases-loop-i
decreases-loop-i l = l.halves - l.i
