-- `nodes_fresh` meets its contract: so far it says whether every number passed.
use Prim.Native.Nat.{◌≤◌, ◌-◌}
use mathlib.Core.Path.{◌≡◌}
use Rattle.lists.specs.Lists.{upto, all}
use Rattle.table_tests.specs.Tests.{node_fresh}
use Rattle.table_tests.proofs.sound.nodes_fresh.Given as goal

abbrev pub invariant-loop-n : goal.invariant-loop-n
invariant-loop-n l = (l.n ≤ l.nodes) × (l.good ≡ all (node_fresh l.nodes_marked l.nodes_degree l.counts) (upto l.n))

abbrev pub decreases-loop-n : goal.decreases-loop-n
decreases-loop-n l = l.nodes - l.n
