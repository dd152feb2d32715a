-- `read_marks` meets its contract: so far the first marks are read.
use Prim.Native.Nat.{◌≤◌, ◌-◌}
use mathlib.Core.Path.{◌≡◌}
use mathlib.Core.List.{map}
use lib.ListN.{length, take}
use Rattle.lists.specs.Lists.{over}
use Rattle.rules.specs.Limits.{limits}
use Rattle.tables.specs.Regions.{least_marks}
use Rattle.lent_marks.specs.Marks.{is_set}
use Rattle.lent_marks.proofs.rows.read_marks.Given as goal

abbrev pub invariant-loop-i : goal.invariant-loop-i
invariant-loop-i l = (l.i ≤ least_marks limits) × (length l.initial.row ≡ least_marks limits) × (length l.row ≡ least_marks limits) × (l.row ≡ over (take l.i (map is_set l.bytes)) l.initial.row)

abbrev pub decreases-loop-i : goal.decreases-loop-i
decreases-loop-i l = least_marks limits - l.i
