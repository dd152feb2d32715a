-- `cycles::euler::count_edges` meets its contract. The invariant: the active ones of the first k edges are counted.
use Prim.Native.Nat.{◌+◌, ◌-◌, ◌*◌, ◌≤◌}
use mathlib.Core.Path.{◌≡◌}
use mathlib.Core.Bool.{◌&&◌}
use lib.ListN.{length}
use Rattle.lists.specs.Lists.{below}
use Rattle.stars.specs.Groups.{unmarked}
use Rattle.cycles.proofs.euler.count_edges.Given as goal

abbrev pub invariant-loop-k : goal.invariant-loop-k
invariant-loop-k l = (l.k ≤ l.n) × (l.count ≤ l.k) × (l.count ≡ length (below (λ j. unmarked l.dir_edges_marked (2 * j) && unmarked l.dir_edges_marked (2 * j + 1)) l.k))

abbrev pub decreases-loop-k : goal.decreases-loop-k
decreases-loop-k l = l.n - l.k
