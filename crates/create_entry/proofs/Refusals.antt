-- Demand 1 of creating: a refusal changes nothing lent.
use mathlib.Core.Path.{refl}
use Rattle.rules.specs.Limits.{Limits}
use Rattle.rules.specs.State.{State, roomy}
use Rattle.rules.specs.Stages.{create}
use Rattle.calls.proofs.Refusals.{Keeps, success-keeps, demand-keeps}

pub create-keeps : (l : Limits) (s : State) → Keeps s (record {}) (create l s)
unfolding create
create-keeps l s = demand-keeps s (record {}) (roomy l s) 6 _ (success-keeps s (record {}) _ _ refl)
