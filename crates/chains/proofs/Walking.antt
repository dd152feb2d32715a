-- The walk along the chain of a code, from its last item to its first. It meets every item that can pass a test, so the last that it meets is the lowest.
use Prim.Native.Nat.{ℕ, zero, suc, ◌+◌, ◌-◌, ◌<◌, ◌≤◌}
use native.Mathlib.Omega.{arith}
use mathlib.Core.Path.{◌≡◌, refl, sym, ap, subst, ◌∙◌}
use mathlib.Core.Bool.{Bool, true, false, cond}
use mathlib.Core.List.{List, [], ◌∷◌}
use lib.ListN.{length, get_or, take}
use lib.Seq.{take-suc}
use borrow.Author.Tests.{eq-eqb, ne_eqb}
use Rattle.lists.specs.Lists.{upto, first_where}
use Rattle.lists.proofs.Counts.{by_eq, by_test}
use Rattle.lists.proofs.Searching.{first-append}
use Rattle.chains.specs.Chains.{last_below, Chained, lowest_of}
use Rattle.chains.proofs.Chaining.{last_le, last_code}

-- ---- the lowest item as the first of a list

-- of the numbers below n
pub lowest-upto : (p : ℕ → Bool) (d n : ℕ) → lowest_of p (λ i. i) d n ≡ first_where p d (upto n)
lowest-upto p d zero = refl
lowest-upto p d (suc n) = lowest-upto p (cond (p n) n d) n ∙ sym (first-append p d (upto n) (n ∷ []))

-- of the first n entries of a list
pub lowest-take : (p : ℕ → Bool) (l : List ℕ) (d n : ℕ) → n ≤ length l → lowest_of (λ i. p (get_or l i 0)) (λ i. get_or l i 0) d n ≡ first_where p d (take n l)
lowest-take p l d zero h = refl
lowest-take p l d (suc n) h =
    lowest-take p l (cond (p (get_or l n 0)) (get_or l n 0) d) n (omega arith)
    ∙ sym (first-append p d (take n l) (get_or l n 0 ∷ []))
    ∙ ap (first_where p d) (sym (take-suc l n 0 (omega arith)))

-- ---- the walk

module _ (p : ℕ → Bool) (value code : ℕ → ℕ) (c : ℕ) (meant : (n : ℕ) → p n ≡ true → code n ≡ c) where
  -- an item of another code does not pass
  other : (n : ℕ) → (code n ≡ c → ⊥) → p n ≡ false
  other n d = by_test (p n) (λ e. absurd (d (meant n e))) (λ e. e)

  -- behind the last item of the code none passes
  lowest-last : (d n : ℕ) → lowest_of p value d n ≡ lowest_of p value d (last_below code c n)
  lowest-last d zero = refl
  lowest-last d (suc n) = by_eq (code n) c
      (λ e. rw (eq-eqb (code n) c e) refl)
      (λ o. ap (λ b. lowest_of p value (cond b (value n) d) n) (other n o) ∙ lowest-last d n
      ∙ sym (ap (λ b. lowest_of p value d (cond b (suc n) (last_below code c n))) (ne_eqb (code n) c o)))

  -- What is known on the way: `at` is 0 or one more than an item of the code, and the lowest item that passes is before it or, where none
  -- passes there, was found.
  pub record Walk (none count at found : ℕ) : Type 0 where
    pub low : at ≤ count
    pub item : (n : ℕ) → at ≡ suc n → code n ≡ c
    pub rest : lowest_of p value found at ≡ lowest_of p value none count

  module _ (heads none count : ℕ) (table : List ℕ) (k : Chained heads code count table) where
    -- at the head of the chain
    pub walk_start : (at : ℕ) → c < heads → at ≡ get_or table c 0 → Walk none count at none
    walk_start at h e =
        let z : at ≡ last_below code c count = e ∙ k.first c h in
        rw z (record {
          low = last_le code c count;
          item = λ n q. last_code code c count n q;
          rest = sym (lowest-last none count);
        })

    -- at item n: where it passes, it is the one found
    walk_step : (n found at : ℕ) → Walk none count (suc n) found → at ≡ get_or table (heads + n) 0 → Walk none count at (cond (p n) (value n) found)
    walk_step n found at w e =
        let low = w.low in
        let z : at ≡ last_below code c n = e ∙ k.next n (omega arith) ∙ ap (λ d. last_below code d n) (w.item n refl) in
        rw z (record {
          low = omega (arith, last_le code c n);
          item = λ m q. last_code code c n m q;
          rest = sym (lowest-last (cond (p n) (value n) found) n) ∙ w.rest;
        })

    -- the same of what `at` shows, by how the test goes
    walk_on : (b : Bool) (at found found' : ℕ) → Walk none count at found → 0 < at → p (at - 1) ≡ b → found' ≡ cond b (value (at - 1)) found
        → Walk none count (get_or table (heads + (at - 1)) 0) found'
    walk_on b at found found' w h e is =
        let n = at - 1 in
        let z : at ≡ suc n = omega arith in
        subst (Walk none count (get_or table (heads + n) 0)) (ap (λ b. cond b (value n) found) e ∙ sym is)
        (walk_step n found (get_or table (heads + n) 0) (subst (λ k. Walk none count k found) z w) refl)

    -- as the code has it: it passes
    pub walk_hit : (at found found' : ℕ) → Walk none count at found → 0 < at → p (at - 1) ≡ true → found' ≡ value (at - 1)
        → Walk none count (get_or table (heads + (at - 1)) 0) found'
    walk_hit = walk_on true

    -- or does not
    pub walk_miss : (at found found' : ℕ) → Walk none count at found → 0 < at → p (at - 1) ≡ false → found' ≡ found
        → Walk none count (get_or table (heads + (at - 1)) 0) found'
    walk_miss = walk_on false

    -- at the end of the chain
    pub walk_end : (at found : ℕ) → Walk none count at found → at ≤ 0 → found ≡ lowest_of p value none count
    walk_end at found w h = let z : 0 ≡ at = omega arith in ap (lowest_of p value found) z ∙ w.rest
