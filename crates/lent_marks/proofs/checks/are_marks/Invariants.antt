-- `are_marks` meets its contract: so far it says whether every byte passed.
use Prim.Native.Nat.{◌≤◌, ◌-◌}
use mathlib.Core.Path.{◌≡◌}
use Rattle.lists.specs.Lists.{upto, all}
use Rattle.lent_marks.specs.Marks.{mark_at_lem}
use Rattle.lent_marks.proofs.checks.are_marks.Given as goal

abbrev pub invariant-loop-i : goal.invariant-loop-i
invariant-loop-i l = (l.i ≤ l.count) × (l.good ≡ all (mark_at_lem l.bytes) (upto l.i))

abbrev pub decreases-loop-i : goal.decreases-loop-i
decreases-loop-i l = l.count - l.i
