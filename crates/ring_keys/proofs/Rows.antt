-- A row written over the front of a table, entry by entry; entries of a row made by a function.
use mathlib.Core.Path.{◌≡◌, refl, sym, ap, ◌∙◌}
use mathlib.Core.List.{List, [], ◌∷◌, ◌++◌, map, map-append}
use Prim.Native.Nat.{ℕ, zero, suc, ◌+◌, ◌≤◌, ◌<◌}
use native.Mathlib.Omega.{arith}
use native.Mathlib.Nat.{add-zero}
use native.Mathlib.Numerals.{add-one}
use lib.ListN.{length, get_or, take, drop, set}
use lib.Seq.{take-suc, take-length, drop-cons, length-take-le, set_at, append_snoc}
use Rattle.lists.specs.Lists.{upto, over, sum}
use Rattle.lists.proofs.Members.{length-upto}
use Rattle.lists.proofs.Sums.{sum-append}
use Rattle.rules.proofs.Values.{get_d_upto}

-- the value at a place
pub map_at : {A B : Type 0} (f : A → B) (l : List A) (i : ℕ) (d : A) (e : B) → i < length l → get_or (map f l) i e ≡ f (get_or l i d)
map_at f [] i d e h = absurd (omega arith)
map_at f (x ∷ l) zero d e h = refl
map_at f (x ∷ l) (suc i) d e h = map_at f l i d e (omega arith)

-- the value at a place of a row over 0 .. n - 1
pub map-upto-at : {B : Type 0} (f : ℕ → B) (n i : ℕ) (e : B) → i < n → get_or (map f (upto n)) i e ≡ f i
map-upto-at f n i e h = map_at f (upto n) i 0 e (omega (arith, length-upto n)) ∙ ap f (get_d_upto n i 0 h)

-- the sum of such a row with one entry more
pub sum_more : (f : ℕ → ℕ) (i : ℕ) → sum (map f (upto (i + 1))) ≡ sum (map f (upto i)) + f i
sum_more f i =
    ap (λ n. sum (map f (upto n))) (add-one i)
    ∙ ap sum (map-append f (upto i) (i ∷ []))
    ∙ sum-append (map f (upto i)) (f i ∷ [])
    ∙ ap (λ n. sum (map f (upto i)) + n) (add-zero (f i))

module _ (row t : List ℕ) (room : length row ≤ length t) where
  -- one entry more
  pub over_more : (l : List ℕ) (i v : ℕ) → i < length row → l ≡ take i row ++ drop i t → v ≡ get_or row i 0
      → set l i v ≡ take (i + 1) row ++ drop (i + 1) t
  over_more l i v h e q =
      let n : length (take i row) ≡ i = length-take-le i row (omega arith) in
      let cut : drop i t ≡ get_or t i 0 ∷ drop (suc i) t = drop-cons t i 0 (omega arith) in
      ap (λ k. set k i v) (e ∙ ap (λ r. take i row ++ r) cut)
      ∙ set_at (take i row) (get_or t i 0) (drop (suc i) t) v i n
      ∙ sym (append_snoc (take i row) v (drop (suc i) t))
      ∙ ap (λ w. (take i row ++ (w ∷ [])) ++ drop (suc i) t) q
      ∙ ap (λ r. r ++ drop (suc i) t) (sym (take-suc row i 0 h))
      ∙ ap (λ k. take k row ++ drop k t) (sym (add-one i))

  -- all entries
  pub over-all : (l : List ℕ) (i : ℕ) → i ≡ length row → l ≡ take i row ++ drop i t → l ≡ over row t
  over-all l i h e = e ∙ ap (λ k. take k row ++ drop k t) h ∙ ap (λ r. r ++ drop (length row) t) (take-length row)
