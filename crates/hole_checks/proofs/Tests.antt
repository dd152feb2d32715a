-- Ring extraction with the hole list, by what its tests come to: the first that fails gives its refusal and leaves everything.
use Prim.Native.Nat.{ℕ, ◌*◌}
use native.Mathlib.Omega.{arith}
use mathlib.Core.Path.{◌≡◌, ap, ◌∙◌}
use mathlib.Core.Bool.{Bool, true, false}
use lib.Dec.{eqb, leb}
use lib.ListN.{length}
use Rattle.geometry.specs.Reply.{refused}
use Rattle.rules.specs.Limits.{Limits}
use Rattle.rules.specs.State.{State, roomy, sound}
use Rattle.rules.specs.Adding.{Outcome, demand}
use Rattle.rules.specs.Ringing.{long_enough, ringed, ring_step}
use Rattle.rules.specs.Extraction.{Lent, holes_in, extracted, extract}
use Rattle.tables.specs.declared.Refusal.TheVariants.{TooFewHoles}
use Rattle.calls.proofs.Shells.{turned_down_lem, Good, stops, passes, list_passes}

-- a refusal by number n that leaves everything
abbrev refusal : {A L : Type 0} → ℕ → State → L → Outcome A L
refusal n s lists = record { reply = refused n; state = s; lists = lists }

-- two calls that make the same test are refused alike where they are behind it
alike : {A B L K : Type 0} (b : Bool) (n m : ℕ) (s : State) (xs : L) (ys : K) (o : Outcome A L) (p : Outcome B K)
    → (refusal m s xs ≡ o → refusal m s ys ≡ p) → refusal m s xs ≡ demand b n s xs o → refusal m s ys ≡ demand b n s ys p
alike true n m s xs ys o p f e = f e
alike false n m s xs ys o p f e =
    let q : refused m ≡ refused n = ap (λ z. z.reply) e in
    let r : m ≡ n = cc in
    ap (λ k. refusal k s ys) r

module _ (l : Limits) (s : State) (out : Lent) where
  -- the rings are answered, not refused
  ringed-answers : (n : ℕ) → refusal n s out.rings ≡ ringed s out.rings → ⊥
  unfolding ringed
  ringed-answers n e =
      let q = ap (λ z. z.reply) e in
      let clash : ◌≡◌ {A = ℕ} 0 1 = cc in
      omega arith

  -- what refuses ring extraction without the hole list refuses it with the list
  pub extract_stops : (n : ℕ) → refusal n s out.rings ≡ ring_step l s out.rings → refusal n s out ≡ extract l s out
  unfolding ring_step extract
  extract_stops n e =
      alike (roomy l s) 6 n s out.rings out _ _
      (alike (sound l s) 7 n s out.rings out _ _
      (alike (eqb s.stage 3) 5 n s out.rings out _ _
      (alike (long_enough (2 * s.edges) out.rings) 8 n s out.rings out _ _ (λ z. absurd (ringed-answers n z))))) e

  module _ (good : Good l s) (at : s.stage ≡ 3) (long : long_enough (2 * s.edges) out.rings ≡ true) where
    -- number 13
    pub extract-short : leb (length (holes_in s)) (length out.holes) ≡ false → turned_down_lem TooFewHoles s out ≡ extract l s out
    unfolding extract
    extract-short e =
        stops 13 s out (extracted s out) (leb (length (holes_in s)) (length out.holes)) e
        ∙ list_passes l 3 s out (long_enough (2 * s.edges) out.rings) _ good at long

    -- nothing is refused
    pub extract-passes : leb (length (holes_in s)) (length out.holes) ≡ true → extracted s out ≡ extract l s out
    unfolding extract
    extract-passes e =
        passes 13 s out (extracted s out) (leb (length (holes_in s)) (length out.holes)) e
        ∙ list_passes l 3 s out (long_enough (2 * s.edges) out.rings) _ good at long
