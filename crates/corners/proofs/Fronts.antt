-- What one entry more of a list's front adds to it.
use Prim.Native.Nat.{ℕ, suc, ◌+◌, ◌<◌}
use native.Mathlib.Omega.{arith}
use mathlib.Core.Path.{◌≡◌, ap, ◌∙◌, subst}
use mathlib.Core.Logic.{◌⊎◌, inl, inr}
use mathlib.Core.List.{List, [], ◌∷◌, ◌++◌}
use lib.ListN.{length, get_or, take, drop, take-append-drop}
use lib.Seq.{take-suc}
use Rattle.lists.specs.Lists.{In}
use Rattle.lists.proofs.Counts.{count-append, by_eq, bit-same, bit-other}

-- the front with one entry more
pub front_more : (l : List ℕ) (k : ℕ) → k < length l → take (k + 1) l ≡ take k l ++ (get_or l k 0 ∷ [])
front_more l k low = let e : k + 1 ≡ suc k = omega arith in ap (λ n. take n l) e ∙ take-suc l k 0 low

-- a member of a list with one entry more
pub in_more : (x y : ℕ) (l : List ℕ) → In x (l ++ (y ∷ [])) → In x l ⊎ (x ≡ y)
in_more x y l m = by_eq x y inr (λ d. inl (omega (arith, m, count-append x l (y ∷ []), bit-other x y d)))

-- what was a member is
pub in_old : (x y : ℕ) (l : List ℕ) → In x l → In x (l ++ (y ∷ []))
in_old x y l m = omega (arith, m, count-append x l (y ∷ []))

-- and so is the new one
pub in_new : (y : ℕ) (l : List ℕ) → In y (l ++ (y ∷ []))
in_new y l = omega (arith, count-append y l (y ∷ []), bit-same y y refl)
  where
    refl : y ≡ y
    refl = λ i. y

-- a member of the front is one of the list
pub in_front_lem : (x k : ℕ) (l : List ℕ) → In x (take k l) → In x l
in_front_lem x k l m = subst (In x) (take-append-drop k l) (omega (arith, m, count-append x (take k l) (drop k l)))
