-- Resetting where its tests fail: the first that does gives its refusal and leaves everything.
use mathlib.Core.Path.{◌≡◌}
use Rattle.rules.specs.Limits.{Limits}
use Rattle.rules.specs.State.{State}
use Rattle.rules.specs.Stages.{reset}
use Rattle.tables.specs.declared.Refusal.{Refusal}
use Rattle.calls.specs.Checks.{sound_check, due}
use Rattle.calls.proofs.Shells.{turned_down_lem, tested_stops}

-- numbers 6 and 7 alone
pub reset_stops : (l : Limits) (s : State) (why : Refusal) → due why ≡ sound_check l s → turned_down_lem why s (record {}) ≡ reset l s
unfolding reset
reset_stops l s why e = tested_stops l s (record {}) _ why e
