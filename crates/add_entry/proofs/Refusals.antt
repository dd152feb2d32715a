-- Demand 1 of adding a line: a refusal changes nothing lent.
use mathlib.Core.Path.{refl}
use Rattle.geometry.specs.declared.Line3D.{Line3D}
use Rattle.rules.specs.Limits.{Limits}
use Rattle.rules.specs.State.{State}
use Rattle.rules.specs.Adding.{add}
use Rattle.rules.proofs.AddCases.{add_cases}
use Rattle.calls.proofs.Refusals.{Keeps, success-keeps}

pub add-keeps : (l : Limits) (g : Line3D) (s : State) → Keeps s (record {}) (add l g s)
add-keeps l g s = add_cases l g s (λ o. Keeps s (record {}) o)
    (λ n z. record { unchanged = λ m e. (refl, refl) })
    (λ f. success-keeps s (record {}) _ _ refl)
    (λ f. success-keeps s (record {}) _ _ refl)
