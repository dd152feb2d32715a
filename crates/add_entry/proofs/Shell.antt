-- An addition where its first tests fail: the first that does gives its refusal and leaves everything.
use mathlib.Core.Path.{◌≡◌}
use Rattle.geometry.specs.declared.Line3D.{Line3D}
use Rattle.rules.specs.Limits.{Limits}
use Rattle.rules.specs.State.{State}
use Rattle.rules.specs.Adding.{add}
use Rattle.tables.specs.declared.Refusal.{Refusal}
use Rattle.calls.specs.Checks.{stage_check, due}
use Rattle.calls.proofs.Shells.{turned_down_lem, step_stops}

-- an addition needs stage 0
pub add_stops : (l : Limits) (g : Line3D) (s : State) (why : Refusal) → due why ≡ stage_check l 0 s → turned_down_lem why s (record {}) ≡ add l g s
unfolding add
add_stops l g s why e = step_stops l 0 s (record {}) _ why e
