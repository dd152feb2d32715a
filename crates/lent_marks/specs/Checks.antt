-- The tests of bytes, as the first refusal that is due.
use Rattle.std.specs.Prelude.{ℕ, cond, List}
use Rattle.rules.specs.Limits.{Limits}
use Rattle.rules.specs.State.{State, roomy}
use Rattle.rules.specs.Adding.{Outcome, demand}
use Rattle.tables.specs.declared.Refusal.TheVariants.{TableTooShort, Unsound}
use Rattle.calls.specs.Checks.{Checked, passed, due}
use Rattle.lent_marks.specs.Marks.{plain}

-- number 6 of every slice, and number 7 of the bytes in use
abbrev pub marks_check : Limits → State → List ℕ → Checked
marks_check l s bytes = cond (roomy l s) (cond (plain l s.nodes s.edges bytes) passed (due Unsound)) (due TableTooShort)

-- the same before the outcome of a call
abbrev pub marks_tested : {A L : Type 0} → Limits → List ℕ → State → L → Outcome A L → Outcome A L
marks_tested l bytes s lists o = demand (roomy l s) 6 s lists (demand (plain l s.nodes s.edges bytes) 7 s lists o)
