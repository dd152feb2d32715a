-- `all_lie_whole` meets its contract: so far it says whether every number passed.
use Prim.Native.Nat.{◌≤◌, ◌-◌}
use mathlib.Core.Path.{◌≡◌}
use Rattle.lists.specs.Lists.{upto, all}
use Rattle.rules.specs.Limits.{limits}
use Rattle.table_tests.specs.Tests.{lies_whole}
use Rattle.table_tests.proofs.sound.all_lie_whole.Given as goal

abbrev pub invariant-loop-n : goal.invariant-loop-n
invariant-loop-n l = (l.n ≤ l.nodes) × (l.good ≡ all (lies_whole limits.bound l.nodes_x l.nodes_y) (upto l.n))

abbrev pub decreases-loop-n : goal.decreases-loop-n
decreases-loop-n l = l.nodes - l.n
