-- Demand 1 of sorting: a refusal changes nothing lent.
use mathlib.Core.Path.{refl}
use Rattle.rules.specs.Limits.{Limits}
use Rattle.rules.specs.State.{State}
use Rattle.rules.specs.Stages.{sort}
use Rattle.calls.proofs.Refusals.{Keeps, success-keeps, step_keeps}

pub sort-keeps : (l : Limits) (s : State) → Keeps s (record {}) (sort l s)
unfolding sort
sort-keeps l s = step_keeps s (record {}) l 0 _ (success-keeps s (record {}) _ _ refl)
