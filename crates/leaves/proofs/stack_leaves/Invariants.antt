-- `leaves::stack_leaves` meets its contract. The loop's invariant: the leaves below n are stacked.
use Prim.Native.Nat.{◌-◌, ◌≤◌}
use mathlib.Core.Path.{◌≡◌}
use mathlib.Core.List.{reverse}
use lib.ListN.{length}
use Rattle.lists.specs.Lists.{below}
use Rattle.leaves.specs.Steps.{leaf, latest}
use Rattle.leaves.proofs.stack_leaves.Given as goal

abbrev pub invariant-loop-n : goal.invariant-loop-n
invariant-loop-n l = (l.n ≤ l.nodes) × (l.stacked ≤ l.n) × (length l.stack ≡ length l.initial.stack) × (latest l.stacked l.stack ≡ reverse (below (leaf l.nodes_degree l.nodes_marked) l.n))

abbrev pub decreases-loop-n : goal.decreases-loop-n
decreases-loop-n l = l.nodes - l.n
