-- Demand 1 of resetting: a refusal changes nothing lent.
use mathlib.Core.Path.{refl}
use Rattle.rules.specs.Limits.{Limits}
use Rattle.rules.specs.State.{State, roomy, sound}
use Rattle.rules.specs.Stages.{reset}
use Rattle.calls.proofs.Refusals.{Keeps, success-keeps, demand-keeps}

pub reset-keeps : (l : Limits) (s : State) → Keeps s (record {}) (reset l s)
unfolding reset
reset-keeps l s = demand-keeps s (record {}) (roomy l s) 6 _ (demand-keeps s (record {}) (sound l s) 7 _ (success-keeps s (record {}) _ _ refl))
