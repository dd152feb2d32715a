-- The tests of a call, one after another: the first that fails gives its refusal and leaves everything, and where all pass the rest is
-- what follows.
use Prim.Native.Nat.{ℕ}
use mathlib.Core.Path.{◌≡◌, refl, sym, ap, ◌∙◌}
use mathlib.Core.Bool.{Bool, true, false, cond}
use lib.Dec.{eqb}
use native.Mathlib.Omega.{arith}
use borrow.Author.Tests.{eqb-true, eq-eqb}
use Rattle.lists.proofs.Counts.{true_is_false}
use Rattle.geometry.specs.Reply.{refused}
use Rattle.rules.specs.Limits.{Limits}
use Rattle.rules.specs.Sane.{Sane}
use Rattle.rules.specs.State.{State, arrangement_in, arrangement, roomy, sound}
use Rattle.rules.specs.Adding.{Outcome, demand}
use Rattle.rules.specs.Stages.{step}
use Rattle.rules.proofs.Soundness.{is-sound}
use Rattle.rules.proofs.Tables.{sound-sane}
use Rattle.tables.specs.Refusals.{refusal_number_lem}
use Rattle.tables.specs.declared.Refusal.{Refusal}
use Rattle.tables.specs.declared.Refusal.TheVariants.{TableTooShort, Unsound, WrongStage, ListTooShort}
use Rattle.calls.specs.Checks.{sound_or, sound_check, stage_check, Checked, passed, due}

-- what came out of a call that was refused
abbrev pub turned_down_lem : {A L : Type 0} → Refusal → State → L → Outcome A L
turned_down_lem why s lists = record { reply = refused (refusal_number_lem why); state = s; lists = lists }

-- ---- the order of the tests

module _ (l : Limits) (s : State) (rest : Checked) where
  pub check_room : roomy l s ≡ false → due TableTooShort ≡ sound_or l s rest
  check_room e = sym (ap (λ b. cond b (cond (sound l s) rest (due Unsound)) (due TableTooShort)) e)

  pub check_sense : roomy l s ≡ true → sound l s ≡ false → due Unsound ≡ sound_or l s rest
  check_sense e t = sym (λ i. cond (e i) (cond (t i) rest (due Unsound)) (due TableTooShort))

  pub check_rest : roomy l s ≡ true → sound l s ≡ true → rest ≡ sound_or l s rest
  check_rest e t = sym (λ i. cond (e i) (cond (t i) rest (due Unsound)) (due TableTooShort))

-- numbers 6 and 7 passed
pub record Good (l : Limits) (s : State) : Type 0 where
  pub room : roomy l s ≡ true
  pub sense : sound l s ≡ true

-- the two tests, by what they came to
module _ {C : Type 0} (l : Limits) (s : State) (rest : Checked) where
  by_checks : (roomy l s ≡ false → sound_or l s rest ≡ due TableTooShort → C)
      → (roomy l s ≡ true → sound l s ≡ false → sound_or l s rest ≡ due Unsound → C)
      → (Good l s → sound_or l s rest ≡ rest → C) → C
  by_checks f g h = go (roomy l s) refl (sound l s) refl
    where
      go : (a : Bool) → roomy l s ≡ a → (b : Bool) → sound l s ≡ b → C
      go false e b t = f e (sym (check_room l s rest e))
      go true e false t = g e t (sym (check_sense l s rest e t))
      go true e true t = h (record { room = e; sense = t }) (sym (check_rest l s rest e t))

-- a call that passed was not refused
pub never : {why : Refusal} → passed ≡ due why → ⊥
never q = let z : ◌≡◌ {A = ℕ} 0 1 = cc in omega arith

-- the tests passed: the state is sound
pub check_passed : (l : Limits) (s : State) → passed ≡ sound_check l s → Good l s
check_passed l s e = by_checks l s passed
    (λ a q. absurd (never (e ∙ q)))
    (λ a b q. absurd (never (e ∙ q)))
    (λ g q. g)

-- where numbers 6 or 7 refuse, so does a stage step
pub check_refused : (l : Limits) (stage : ℕ) (s : State) (why : Refusal) → due why ≡ sound_check l s → due why ≡ stage_check l stage s
check_refused l stage s why e = by_checks l s passed
    (λ a q. e ∙ q ∙ check_room l s _ a)
    (λ a b q. e ∙ q ∙ check_sense l s _ a b)
    (λ g q. absurd (never (sym (e ∙ q))))

-- else the stage decides
pub check_stage-is : (l : Limits) (stage : ℕ) (s : State) → Good l s → stage_check l stage s ≡ cond (eqb s.stage stage) passed (due WrongStage)
check_stage-is l stage s g = sym (check_rest l s _ g.room g.sense)

-- the tests of a stage step passed: the state is sound and in its stage
pub stage-passed : (l : Limits) (stage : ℕ) (s : State) → passed ≡ stage_check l stage s → Good l s × (s.stage ≡ stage)
stage-passed l stage s e = by_checks l s _
    (λ a q. absurd (never (e ∙ q)))
    (λ a b q. absurd (never (e ∙ q)))
    (λ g q. (g, go (eqb s.stage stage) refl (e ∙ q)))
  where
    go : (b : Bool) → eqb s.stage stage ≡ b → passed ≡ cond (eqb s.stage stage) passed (due WrongStage) → s.stage ≡ stage
    go true t q = eqb-true s.stage stage t
    go false t q = absurd (never (q ∙ ap (λ b. cond b passed (due WrongStage)) t))

-- the half-edges of a sound state are a sane arrangement
pub held-sane : (l : Limits) (s : State) → Good l s → Sane (arrangement_in s.nodes s.edges s.source s.half_mark s.star)
unfolding arrangement
held-sane l s g = sound-sane l s (is-sound l s g.sense)

-- ---- a test and what follows it

module _ {A L : Type 0} (n : ℕ) (s : State) (lists : L) (o : Outcome A L) where
  -- it fails
  pub stops : (b : Bool) → b ≡ false → record { reply = refused n; state = s; lists = lists } ≡ demand b n s lists o
  stops false e = refl
  stops true e = absurd (true_is_false e)

  -- it passes
  pub passes : (b : Bool) → b ≡ true → o ≡ demand b n s lists o
  passes true e = refl
  passes false e = absurd (true_is_false (sym e))

-- numbers 6 and 7
module _ {A L : Type 0} (l : Limits) (s : State) (lists : L) (o : Outcome A L) where
  abbrev pub tested : Outcome A L
  tested = demand (roomy l s) 6 s lists (demand (sound l s) 7 s lists o)

  pub tested_stops : (why : Refusal) → due why ≡ sound_check l s → turned_down_lem why s lists ≡ tested
  tested_stops why e = by_checks l s passed
      (λ a q. ap (λ z. turned_down_lem z s lists) (same (e ∙ q)) ∙ stops 6 s lists (demand (sound l s) 7 s lists o) (roomy l s) a)
      (λ a b q. ap (λ z. turned_down_lem z s lists) (same (e ∙ q)) ∙ stops 7 s lists o (sound l s) b ∙ passes 6 s lists (demand (sound l s) 7 s lists o) (roomy l s) a)
      (λ g q. absurd (never (sym (e ∙ q))))
    where
      same : {x : Refusal} → due why ≡ due x → why ≡ x
      same q = cc

  pub tested_passes : Good l s → o ≡ tested
  tested_passes g = passes 7 s lists o (sound l s) g.sense ∙ passes 6 s lists (demand (sound l s) 7 s lists o) (roomy l s) g.room

-- numbers 6, 7 and 5
module _ {A L : Type 0} (l : Limits) (stage : ℕ) (s : State) (lists : L) (o : Outcome A L) where
  abbrev staged : Outcome A L
  staged = demand (eqb s.stage stage) 5 s lists o

  pub step_stops : (why : Refusal) → due why ≡ stage_check l stage s → turned_down_lem why s lists ≡ step l stage s lists o
  step_stops why e = by_checks l s _
      (λ a q. tested_stops l s lists staged why (e ∙ q ∙ check_room l s passed a))
      (λ a b q. tested_stops l s lists staged why (e ∙ q ∙ check_sense l s passed a b))
      (λ g q. go (eqb s.stage stage) refl g (e ∙ q))
    where
      go : (b : Bool) → eqb s.stage stage ≡ b → Good l s → due why ≡ cond (eqb s.stage stage) passed (due WrongStage) → turned_down_lem why s lists ≡ step l stage s lists o
      go true t g q = absurd (never (sym (q ∙ ap (λ b. cond b passed (due WrongStage)) t)))
      go false t g q =
          let z : due why ≡ due WrongStage = q ∙ ap (λ b. cond b passed (due WrongStage)) t in
          let w : why ≡ WrongStage = cc in
          ap (λ x. turned_down_lem x s lists) w ∙ stops 5 s lists o (eqb s.stage stage) t ∙ tested_passes l s lists staged g

  pub step-passes : Good l s → s.stage ≡ stage → o ≡ step l stage s lists o
  step-passes g t = passes 5 s lists o (eqb s.stage stage) (eq-eqb s.stage stage t) ∙ tested_passes l s lists staged g

-- numbers 6, 7, 5 and 8: a list is lent, and `long` is whether it is long enough
module _ {A L : Type 0} (l : Limits) (stage : ℕ) (s : State) (lists : L) (long : Bool) (o : Outcome A L) (good : Good l s) (at : s.stage ≡ stage) where
  pub list_stops : long ≡ false → turned_down_lem ListTooShort s lists ≡ step l stage s lists (demand long 8 s lists o)
  list_stops e = stops 8 s lists o long e ∙ step-passes l stage s lists (demand long 8 s lists o) good at

  pub list_passes : long ≡ true → o ≡ step l stage s lists (demand long 8 s lists o)
  list_passes e = passes 8 s lists o long e ∙ step-passes l stage s lists (demand long 8 s lists o) good at
