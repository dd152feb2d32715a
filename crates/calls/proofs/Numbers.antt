-- The tests that a call begins with answer document 01's numbers, in its order: 6, 7 and, for a stage step, 5.
use Prim.Native.Nat.{ℕ}
use mathlib.Core.Path.{◌≡◌, refl}
use mathlib.Core.Bool.{Bool, true, false, cond}
use lib.Dec.{eqb}
use Rattle.geometry.specs.Reply.{success}
use Rattle.rules.specs.Limits.{Limits}
use Rattle.rules.specs.State.{State, roomy, sound}
use Rattle.rules.specs.Adding.{Outcome, Nothing, demand}
use Rattle.rules.specs.Stages.{step}
use Rattle.tables.specs.declared.Refusal.TheVariants.{TableTooShort, Unsound, WrongStage}
use Rattle.calls.specs.Checks.{sound_check, stage_check, passed, due}
use Rattle.calls.specs.Replies.{left, check_reply}

-- a call that does nothing and succeeds
abbrev idle : State → Outcome Nothing Nothing
idle s = left (success (record {})) s

pub sound-numbers : (l : Limits) (s : State) → check_reply (sound_check l s) ≡ (demand (roomy l s) 6 s (record {}) (demand (sound l s) 7 s (record {}) (idle s))).reply
sound-numbers l s = go (roomy l s) (sound l s)
  where
    go : (a b : Bool) → check_reply (cond a (cond b passed (due Unsound)) (due TableTooShort)) ≡ (demand a 6 s (record {}) (demand b 7 s (record {}) (idle s))).reply
    go false b = refl
    go true false = refl
    go true true = refl

pub stage-numbers : (l : Limits) (stage : ℕ) (s : State) → check_reply (stage_check l stage s) ≡ (step l stage s (record {}) (idle s)).reply
stage-numbers l stage s = go (roomy l s) (sound l s) (eqb s.stage stage)
  where
    go : (a b c : Bool) → check_reply (cond a (cond b (cond c passed (due WrongStage)) (due Unsound)) (due TableTooShort))
        ≡ (demand a 6 s (record {}) (demand b 7 s (record {}) (demand c 5 s (record {}) (idle s)))).reply
    go false b c = refl
    go true false c = refl
    go true true false = refl
    go true true true = refl
