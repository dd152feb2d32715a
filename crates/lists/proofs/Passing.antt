-- Tests over whole lists: from what holds of each member to the test, and tests that agree.
use Prim.Native.Nat.{ℕ, zero, suc, ◌<◌}
use native.Mathlib.Omega.{arith}
use mathlib.Core.Path.{◌≡◌, refl, ap₂}
use mathlib.Core.Bool.{Bool, true}
use mathlib.Core.List.{List, [], ◌∷◌, ◌++◌}
use Rattle.lists.specs.Lists.{upto, keep, pick, all, In}
use Rattle.lists.proofs.Counts.{in_head, in_tail}
use Rattle.lists.proofs.Tests.{both, both_true}

-- one more member that passes
all_more : (p : ℕ → Bool) (l : List ℕ) (x : ℕ) → all p l ≡ true → p x ≡ true → all p (l ++ (x ∷ [])) ≡ true
all_more p [] x a e = rw e
all_more p (y ∷ l) x a e = let t = both (p y) (all p l) a in rw t.0 (all_more p l x t.1 e)

-- every member passes
pub all-each : (p : ℕ → Bool) (l : List ℕ) → ((x : ℕ) → In x l → p x ≡ true) → all p l ≡ true
all-each p [] e = refl
all-each p (x ∷ l) e = both_true _ _ (e x (in_head x x l refl)) (all-each p l (λ y m. e y (in_tail y x l m)))

-- every number below n passes
pub all-upto : (p : ℕ → Bool) (n : ℕ) → ((h : ℕ) → h < n → p h ≡ true) → all p (upto n) ≡ true
all-upto p zero e = refl
all-upto p (suc n) e = all_more p (upto n) n (all-upto p n (λ h l. e h (omega arith))) (e n (omega arith))

-- tests that agree on the members pick the same
pub pick_agree : (p q : ℕ → Bool) (l : List ℕ) → ((x : ℕ) → In x l → p x ≡ q x) → pick p l ≡ pick q l
pick_agree p q [] e = refl
pick_agree p q (x ∷ l) e = ap₂ (λ b r. keep b x r) (e x (in_head x x l refl)) (pick_agree p q l (λ y m. e y (in_tail y x l m)))
