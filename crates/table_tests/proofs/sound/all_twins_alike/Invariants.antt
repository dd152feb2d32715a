-- `all_twins_alike` meets its contract: so far it says whether every number passed.
use Prim.Native.Nat.{◌≤◌, ◌-◌}
use mathlib.Core.Path.{◌≡◌}
use Rattle.lists.specs.Lists.{upto, all}
use Rattle.table_tests.specs.Tests.{twins_alike}
use Rattle.table_tests.proofs.sound.all_twins_alike.Given as goal

abbrev pub invariant-loop-k : goal.invariant-loop-k
invariant-loop-k l = (l.k ≤ l.edges) × (l.good ≡ all (twins_alike l.dir_edges_marked) (upto l.k))

abbrev pub decreases-loop-k : goal.decreases-loop-k
decreases-loop-k l = l.edges - l.k
