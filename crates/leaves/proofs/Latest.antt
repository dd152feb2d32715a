-- The first entries of a list, the last first: as a stack, and as edges in the order found.
use Prim.Native.Nat.{ℕ, suc, ◌+◌, ◌<◌, ◌≤◌}
use native.Mathlib.Numerals.{add-one}
use mathlib.Core.Path.{◌≡◌, sym, ap, subst, ◌∙◌}
use mathlib.Core.Bool.{Bool, true, false, cond}
use mathlib.Core.List.{List, [], ◌∷◌, ◌++◌, reverse, reverse-append, reverse-reverse, append-nil}
use lib.ListN.{length, get_or, set, take, drop, take-append-drop, length-reverse}
use lib.Seq.{take-suc, take-suc-set, length-take-le}
use borrow.Author.Tests.{not-true, not-false}
use Rattle.lists.specs.Lists.{below, over, In}
use Rattle.lists.proofs.Counts.{in_tail}
use Rattle.rules.specs.Prune.{first_active_lem, push}
use Rattle.stars.specs.Groups.{unmarked, part}
use Rattle.stars.proofs.Groups.{part-cons}
use Rattle.leaves.specs.Steps.{latest}

-- one entry more
pub latest_more : (k : ℕ) (l : List ℕ) → k < length l → latest (suc k) l ≡ get_or l k 0 ∷ latest k l
latest_more k l h = ap reverse (take-suc l k 0 h) ∙ reverse-append (take k l) (get_or l k 0 ∷ [])

-- one entry more, stored just now
pub latest-set : (k v : ℕ) (l : List ℕ) → k < length l → latest (k + 1) (set l k v) ≡ v ∷ latest k l
latest-set k v l h =
    ap (λ j. latest j (set l k v)) (add-one k) ∙ ap reverse (take-suc-set l k v h) ∙ reverse-append (take k l) (v ∷ [])

-- as many as the list has
pub length-latest : (k : ℕ) (l : List ℕ) → k ≤ length l → length (latest k l) ≡ k
length-latest k l h = length-reverse (take k l) ∙ length-take-le k l h

-- a number stored on the stack
pub stored : (b : Bool) (k v : ℕ) (l : List ℕ) → b ≡ true → k < length l → latest (k + 1) (set l k v) ≡ push b v (latest k l)
stored b k v l e h = latest-set k v l h ∙ ap (λ c. push c v (latest k l)) (sym e)

-- a number not stored
pub not_stored : (b : Bool) (k v : ℕ) (l : List ℕ) → b ≡ false → latest k l ≡ push b v (latest k l)
not_stored b k v l e = ap (λ c. push c v (latest k l)) (sym e)

-- the numbers below n + 1 that pass, the last first
pub reverse-below : (p : ℕ → Bool) (n : ℕ) → push (p n) n (reverse (below p n)) ≡ reverse (below p (suc n))
reverse-below p n = go (p n)
  where
    go : (b : Bool) → push b n (reverse (below p n)) ≡ reverse (below p n ++ cond b (n ∷ []) [])
    go true = sym (reverse-append (below p n) (n ∷ []))
    go false = ap reverse (sym (append-nil (below p n)))

-- a list that changed only in its first k entries
pub over-latest : (k : ℕ) (old l : List ℕ) → k ≤ length l → drop k l ≡ drop k old → l ≡ over (reverse (latest k l)) old
over-latest k old l h rest = sym (
    ap (λ x. over x old) (reverse-reverse (take k l))
    ∙ ap (λ n. take k l ++ drop n old) (length-take-le k l h)
    ∙ ap (λ r. take k l ++ r) (sym rest)
    ∙ take-append-drop k l
    )

module _ (ms : List Bool) (from to : ℕ) (l : List ℕ) (h : from < to) (k : to ≤ length l) where
  -- the first half-edge of a part is active
  pub first-here : unmarked ms (get_or l from 0) ≡ true → first_active_lem ms 0 (part from to l) ≡ get_or l from 0
  first-here e = ap (first_active_lem ms 0) (part-cons from to l h k) ∙ ap (λ b. cond b (first_active_lem ms 0 (part (from + 1) to l)) (get_or l from 0)) (not-true (get_or ms (get_or l from 0) true) e)

  -- it is not
  pub first_later : unmarked ms (get_or l from 0) ≡ false → first_active_lem ms 0 (part from to l) ≡ first_active_lem ms 0 (part (from + 1) to l)
  first_later e = ap (first_active_lem ms 0) (part-cons from to l h k) ∙ ap (λ b. cond b (first_active_lem ms 0 (part (from + 1) to l)) (get_or l from 0)) (not-false (get_or ms (get_or l from 0) true) e)

  -- the others stand in the part too
  pub later_in : (x : ℕ) → In x (part (from + 1) to l) → In x (part from to l)
  later_in x m = subst (λ s. In x s) (sym (part-cons from to l h k)) (in_tail x (get_or l from 0) (part (from + 1) to l) m)
