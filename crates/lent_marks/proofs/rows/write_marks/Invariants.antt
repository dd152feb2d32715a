-- `write_marks` meets its contract: so far the first marks are written.
use Prim.Native.Nat.{◌≤◌, ◌-◌}
use mathlib.Core.Path.{◌≡◌}
use lib.ListN.{length, take}
use Rattle.lent_marks.specs.Marks.{blended}
use Rattle.lent_marks.proofs.rows.write_marks.Given as goal

abbrev pub invariant-loop-i : goal.invariant-loop-i
invariant-loop-i l = (l.i ≤ length l.row) × (length l.bytes ≡ length l.initial.bytes) × (l.bytes ≡ blended (take l.i l.row) l.initial.bytes)

abbrev pub decreases-loop-i : goal.decreases-loop-i
decreases-loop-i l = length l.row - l.i
