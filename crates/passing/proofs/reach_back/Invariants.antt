-- `reach_back` meets its contract. The invariant: from a place on to k none reaches further to the right than that at k.
use Prim.Native.Nat.{◌≤◌}
use Rattle.passing.specs.Passing.{Within}
use Rattle.passing.proofs.reach_back.Given as goal

abbrev pub invariant-loop-from : goal.invariant-loop-from
invariant-loop-from l = (l.from ≤ l.k) × Within l.numbers l.order l.from l.k

abbrev pub decreases-loop-from : goal.decreases-loop-from
decreases-loop-from l = l.from
