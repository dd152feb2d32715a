-- `cycles::euler::count_vertices` meets its contract. The invariant: those of the first k nodes that have a number are counted.
use Prim.Native.Nat.{◌-◌, ◌≤◌}
use mathlib.Core.Path.{◌≡◌}
use lib.Dec.{ltb}
use lib.ListN.{length, get_or}
use Rattle.lists.specs.Lists.{below}
use Rattle.cycles.proofs.euler.count_vertices.Given as goal

abbrev pub invariant-loop-k : goal.invariant-loop-k
invariant-loop-k l = (l.k ≤ l.n) × (l.count ≤ l.k) × (l.count ≡ length (below (λ j. ltb 0 (get_or l.pieces j 0)) l.k))

abbrev pub decreases-loop-k : goal.decreases-loop-k
decreases-loop-k l = l.n - l.k
