-- A test of all numbers below n, as a loop runs it: number by number.
use Prim.Native.Nat.{ℕ, zero, suc, ◌+◌, ◌<◌}
use native.Mathlib.Numerals.{add-one}
use native.Mathlib.Omega.{arith}
use mathlib.Core.Path.{◌≡◌, refl, sym, ap, ap₂, ◌∙◌}
use mathlib.Core.Bool.{Bool, false, ◌&&◌, and-true}
use mathlib.Core.List.{[], ◌∷◌}
use Rattle.lists.specs.Lists.{upto, all}
use Rattle.lists.proofs.Counts.{by_test, true_is_false}
use Rattle.lists.proofs.Members.{all-below, all_append}

-- one more number, by what was found so far and what it gives
pub all-next : (p : ℕ → Bool) (i : ℕ) (good passes : Bool) → good ≡ all p (upto i) → passes ≡ p i → (good && passes) ≡ all p (upto (i + 1))
all-next p i good passes a e =
    ap₂ ◌&&◌ a e
    ∙ sym (ap (λ n. all p (upto n)) (add-one i) ∙ all_append p (upto i) (i ∷ []) ∙ ap (λ t. all p (upto i) && t) (and-true (p i)))

-- one that fails
pub all_fails : (p : ℕ → Bool) (n i : ℕ) → i < n → p i ≡ false → false ≡ all p (upto n)
all_fails p n i h e = by_test (all p (upto n)) (λ t. absurd (true_is_false (sym (all-below p n t i h) ∙ e))) (λ t. sym t)

-- none left
pub all_found : (p : ℕ → Bool) (n i : ℕ) (good : Bool) → i ≡ n → good ≡ all p (upto i) → good ≡ all p (upto n)
all_found p n i good q a = a ∙ ap (λ k. all p (upto k)) q

-- tests that agree below n
pub all_agree : (p q : ℕ → Bool) (n : ℕ) → ((i : ℕ) → i < n → p i ≡ q i) → all p (upto n) ≡ all q (upto n)
all_agree p q zero e = refl
all_agree p q (suc n) e =
    all_append p (upto n) (n ∷ [])
    ∙ rw (all_agree p q n (λ i h. e i (omega arith)), e n (omega arith)) (sym (all_append q (upto n) (n ∷ [])))
