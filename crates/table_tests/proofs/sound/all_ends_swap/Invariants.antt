-- `all_ends_swap` meets its contract: so far it says whether every number passed.
use Prim.Native.Nat.{◌≤◌, ◌-◌}
use mathlib.Core.Path.{◌≡◌}
use Rattle.lists.specs.Lists.{upto, all}
use Rattle.table_tests.specs.Tests.{ends_swap_lem}
use Rattle.table_tests.proofs.sound.all_ends_swap.Given as goal

abbrev pub invariant-loop-k : goal.invariant-loop-k
invariant-loop-k l = (l.k ≤ l.edges) × (l.good ≡ all (ends_swap_lem l.nodes l.dir_edges_src l.dir_edges_dst) (upto l.k))

abbrev pub decreases-loop-k : goal.decreases-loop-k
decreases-loop-k l = l.edges - l.k
