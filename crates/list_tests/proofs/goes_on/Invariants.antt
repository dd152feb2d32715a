-- `goes_on` meets its contract: what is left to follow gives what the whole list gives.
use Prim.Native.Nat.{◌≤◌, ◌-◌}
use mathlib.Core.Path.{◌≡◌}
use Rattle.rules.specs.Limits.{limits}
use Rattle.list_tests.specs.Walks.{walk_from}
use Rattle.list_tests.proofs.goes_on.Given as goal

abbrev pub invariant-loop-steps : goal.invariant-loop-steps
invariant-loop-steps l = (l.steps ≤ limits.pairs) × (walk_from limits.pairs l.pair_ids l.links (limits.pairs - l.steps) l.at l.seen ≡ walk_from limits.pairs l.pair_ids l.links limits.pairs l.start l.initial.seen)

abbrev pub decreases-loop-steps : goal.decreases-loop-steps
decreases-loop-steps l = limits.pairs - l.steps
