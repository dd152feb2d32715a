-- `none_marked` meets its contract: so far it says whether every number passed.
use Prim.Native.Nat.{◌≤◌, ◌-◌}
use mathlib.Core.Path.{◌≡◌}
use Rattle.lists.specs.Lists.{upto, all}
use Rattle.table_tests.specs.Tests.{unmarked}
use Rattle.table_tests.proofs.sound.none_marked.Given as goal

abbrev pub invariant-loop-i : goal.invariant-loop-i
invariant-loop-i l = (l.i ≤ l.count) × (l.good ≡ all (unmarked l.marks) (upto l.i))

abbrev pub decreases-loop-i : goal.decreases-loop-i
decreases-loop-i l = l.count - l.i
