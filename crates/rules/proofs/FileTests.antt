-- A file keeps a state that passes 6, 7 and 5 such a state. A shell that tests them once before a file leaves and accepts what the file does
-- without these tests: its first addition makes them itself.
use Prim.Native.Nat.{ℕ, ◌≤◌}
use mathlib.Core.Path.{◌≡◌, refl, sym, ap, subst, ◌∙◌}
use mathlib.Core.Bool.{Bool, true, false, ◌&&◌}
use mathlib.Core.List.{List, [], ◌∷◌}
use lib.Dec.{eqb}
use Rattle.geometry.specs.Reply.{Reply, refused, success}
use Rattle.geometry.specs.declared.Line3D.{Line3D}
use Rattle.rules.specs.Limits.{Limits}
use Rattle.rules.specs.LineIds.{list_end}
use Rattle.rules.specs.State.{State, roomy, sound}
use Rattle.rules.specs.Adding.{Outcome, demand, Added, add}
use Rattle.rules.specs.Stages.{step}
use Rattle.rules.specs.Claim.{is_refused}
use Rattle.rules.specs.Filing.{Filed, or_filed, filed}
use Rattle.lists.proofs.Counts.{true_is_false}
use Rattle.rules.proofs.NodeSound.{Steady}
use Rattle.rules.proofs.AddingSound.{add_steady}
use Rattle.rules.proofs.Filing.{filed-none, filed-one}

-- ---- a state that passes them

-- by the first segment's reply
first_steady : (l : Limits) (r : Reply Added) (g : Line3D) (s : State) (rest : Filed) → Steady l s → Steady l rest.state → Steady l (or_filed r g s rest).state
first_steady l (refused n) g s rest t more = t
first_steady l (success a) g s rest t more = more

-- a file keeps it: long enough, sound and in stage 0
pub filed_steady : (l : Limits) → l.pairs ≤ list_end → (gs : List Line3D) (s : State) → Steady l s → Steady l (filed l gs s).state
filed_steady l small [] s t = subst (λ f. Steady l f.state) (sym (filed-none l s)) t
filed_steady l small (g ∷ gs) s t =
    let o = add l g s in
    subst (λ f. Steady l f.state) (sym (filed-one l g gs s))
    (first_steady l o.reply g s (filed l gs o.state) t (filed_steady l small gs o.state (add_steady l small g s t)))

-- ---- the tests of a shell

-- all three tests
abbrev tests : Limits → State → Bool
tests l s = roomy l s && (sound l s && eqb s.stage 0)

-- what holds of the outcome: of what follows where all pass, of a refusal where one fails
tested : {A L : Type 0} (s : State) (lists : L) (o : Outcome A L) (P : Outcome A L → Type 0) (a b c : Bool) → ((a && (b && c)) ≡ true → P o)
    → ((a && (b && c)) ≡ false → (n : ℕ) → P (record { reply = refused n; state = s; lists = lists }))
    → P (demand a 6 s lists (demand b 7 s lists (demand c 5 s lists o)))
tested s lists o P false b c all some = some refl 6
tested s lists o P true false c all some = some refl 7
tested s lists o P true true false all some = some refl 5
tested s lists o P true true true all some = all refl

-- where one fails the call is refused
shut : {A L : Type 0} (s : State) (lists : L) (o : Outcome A L) (a b c : Bool) → (a && (b && c)) ≡ false
    → is_refused (demand a 6 s lists (demand b 7 s lists (demand c 5 s lists o))).reply ≡ true
shut s lists o false b c e = refl
shut s lists o true false c e = refl
shut s lists o true true false e = refl
shut s lists o true true true e = absurd (true_is_false e)

-- so an addition is
add_shut : (l : Limits) (g : Line3D) (s : State) → tests l s ≡ false → is_refused (add l g s).reply ≡ true
unfolding add
add_shut l g s e = shut s (record {}) _ (roomy l s) (sound l s) (eqb s.stage 0) e

-- and a file leaves the state as it was, with nothing accepted
first_shut : (r : Reply Added) (g : Line3D) (s : State) (rest : Filed) → is_refused r ≡ true
    → ((or_filed r g s rest).state ≡ s) × ((or_filed r g s rest).accepted ≡ 0)
first_shut (refused n) g s rest e = (refl, refl)
first_shut (success a) g s rest e = absurd (true_is_false (sym e))

filed_shut : (l : Limits) (gs : List Line3D) (s : State) → tests l s ≡ false → ((filed l gs s).state ≡ s) × ((filed l gs s).accepted ≡ 0)
filed_shut l [] s e = (ap (λ f. f.state) (filed-none l s), ap (λ f. f.accepted) (filed-none l s))
filed_shut l (g ∷ gs) s e =
    let z = filed-one l g gs s in
    let q = first_shut (add l g s).reply g s (filed l gs (add l g s).state) (add_shut l g s e) in
    (ap (λ f. f.state) z ∙ q.0, ap (λ f. f.accepted) z ∙ q.1)

-- an outcome that leaves what a filing leaves, and whose reply says how many segments were accepted
pub record Tells {A L : Type 0} (says : Reply A → ℕ) (o : Outcome A L) (f : Filed) : Type 0 where
  pub state : o.state ≡ f.state
  pub accepted : says o.reply ≡ f.accepted

-- a shell around such an outcome is one too, where a refusal says none
pub filed_tested : {A L : Type 0} (says : Reply A → ℕ) → ((n : ℕ) → says (refused n) ≡ 0)
    → (l : Limits) (gs : List Line3D) (s : State) (lists : L) (o : Outcome A L) → Tells says o (filed l gs s) → Tells says (step l 0 s lists o) (filed l gs s)
filed_tested says none l gs s lists o t =
    tested s lists o (λ p. Tells says p (filed l gs s)) (roomy l s) (sound l s) (eqb s.stage 0) (λ z. t)
    (λ z n. let q = filed_shut l gs s z in record { state = sym q.0; accepted = none n ∙ sym q.1 })
