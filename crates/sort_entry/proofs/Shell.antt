-- Sorting where its tests fail: the first that does gives its refusal and leaves everything.
use mathlib.Core.Path.{◌≡◌}
use Rattle.rules.specs.Limits.{Limits}
use Rattle.rules.specs.State.{State}
use Rattle.rules.specs.Stages.{sort}
use Rattle.tables.specs.declared.Refusal.{Refusal}
use Rattle.calls.specs.Checks.{stage_check, due}
use Rattle.calls.proofs.Shells.{turned_down_lem, step_stops}

-- sorting needs stage 0
pub sort_stops : (l : Limits) (s : State) (why : Refusal) → due why ≡ stage_check l 0 s → turned_down_lem why s (record {}) ≡ sort l s
unfolding sort
sort_stops l s why e = step_stops l 0 s (record {}) _ why e
