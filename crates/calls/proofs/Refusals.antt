-- Demand 1: a refusal changes nothing lent. Of a call's outcome: where the reply is a refusal, the state with every table and the lent
-- lists are those of before. Each entry's crate has the law of its own outcome.
use Prim.Native.Nat.{ℕ}
use mathlib.Core.Path.{◌≡◌, refl, sym, ◌∙◌}
use mathlib.Core.Bool.{Bool, true, false}
use lib.Dec.{eqb}
use native.Mathlib.Omega.{arith}
use Rattle.geometry.specs.Reply.{refused, success}
use Rattle.rules.specs.Limits.{Limits}
use Rattle.rules.specs.State.{State, roomy, sound}
use Rattle.rules.specs.Adding.{Outcome, demand}
use Rattle.rules.specs.Stages.{step}

-- a refusal leaves the state and the lists
pub record Keeps {A L : Type 0} (s : State) (lists : L) (o : Outcome A L) : Type 0 where
  pub unchanged : (n : ℕ) → o.reply ≡ refused n → (o.state ≡ s) × (o.lists ≡ lists)

module _ {A L : Type 0} (s : State) (lists : L) where
  -- a success is no refusal
  pub success-keeps : (o : Outcome A L) (a : A) → o.reply ≡ success a → Keeps s lists o
  success-keeps o a e = record { unchanged = λ n q. absurd (never n (sym e ∙ q)) }
    where
      never : (n : ℕ) → success a ≡ refused n → ⊥
      never n q = let z : ◌≡◌ {A = ℕ} 0 1 = cc in omega arith

  -- a test refuses with everything as it was
  pub demand-keeps : (b : Bool) (n : ℕ) (o : Outcome A L) → Keeps s lists o → Keeps s lists (demand b n s lists o)
  demand-keeps true n o k = k
  demand-keeps false n o k = record { unchanged = λ m e. (refl, refl) }

  -- so do the three tests of a stage step
  pub step_keeps : (l : Limits) (stage : ℕ) (o : Outcome A L) → Keeps s lists o → Keeps s lists (step l stage s lists o)
  step_keeps l stage o k = demand-keeps (roomy l s) 6 _ (demand-keeps (sound l s) 7 _ (demand-keeps (eqb s.stage stage) 5 o k))
