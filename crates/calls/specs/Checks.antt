-- The tests that a call begins with, as the first refusal that is due.
use Rattle.std.specs.Prelude.{ℕ, cond, eqb, Result}
use Rattle.std.specs.Prelude.{Ok, Err}
use Rattle.rules.specs.Limits.{Limits}
use Rattle.rules.specs.State.{State, roomy, sound}
use Rattle.tables.specs.declared.Refusal.{Refusal}
use Rattle.tables.specs.declared.Refusal.TheVariants.{TableTooShort, Unsound, WrongStage}

-- passed, or the refusal that is due
abbrev pub Checked : Type 0
Checked = Result (Unit {0}) Refusal

abbrev pub passed : Checked
passed = Ok tt

abbrev pub due : Refusal → Checked
due why = Err why

-- numbers 6 and 7, and what else is to be tested
abbrev pub sound_or : Limits → State → Checked → Checked
sound_or l s rest = cond (roomy l s) (cond (sound l s) rest (due Unsound)) (due TableTooShort)

-- numbers 6 and 7
abbrev pub sound_check : Limits → State → Checked
sound_check l s = sound_or l s passed

-- numbers 6, 7 and 5
abbrev pub stage_check : Limits → ℕ → State → Checked
stage_check l stage s = sound_or l s (cond (eqb s.stage stage) passed (due WrongStage))
