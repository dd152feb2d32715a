-- A row written over the front of a table, entry by entry.
use Prim.Native.Nat.{ℕ, suc, ◌+◌, ◌<◌, ◌≤◌}
use native.Mathlib.Numerals.{add-one}
use native.Mathlib.Omega.{arith}
use mathlib.Core.Path.{◌≡◌, sym, ap, ◌∙◌}
use mathlib.Core.List.{List, ◌++◌, map}
use lib.ListN.{length, get_or, take, drop, set, length-map}
use lib.Seq.{take-suc, drop-cons, length-take-le, append_snoc, set_at, take_all, get_or-take, ext_get_or}
use Rattle.lists.specs.Lists.{upto, over}
use Rattle.lists.proofs.Members.{length-upto}
use Rattle.rules.proofs.Values.{get_d_map-upto}

module _ {A : Type 0} (row table : List A) (i : ℕ) (d : A) (more : i < length row) (room : i < length table) where
  -- what is written after i entries
  over-take : (j : ℕ) → j ≤ length row → over (take j row) table ≡ take j row ++ drop j table
  over-take j h = ap (λ n. take j row ++ drop n table) (length-take-le j row h)

  -- one more entry
  pub over_more : set (over (take i row) table) i (get_or row i d) ≡ over (take (i + 1) row) table
  over_more =
      ap (λ t. set t i (get_or row i d)) (over-take i (omega arith) ∙ ap (λ t. take i row ++ t) (drop-cons table i d room))
      ∙ set_at (take i row) (get_or table i d) (drop (suc i) table) (get_or row i d) i (length-take-le i row (omega arith))
      ∙ sym (append_snoc (take i row) (get_or row i d) (drop (suc i) table))
      ∙ ap (λ t. t ++ drop (suc i) table) (sym (take-suc row i d more))
      ∙ sym (over-take (suc i) (omega arith))
      ∙ ap (λ n. over (take n row) table) (sym (add-one i))

-- the whole row
pub over-all : {A : Type 0} (row table : List A) (i : ℕ) → length row ≤ i → over (take i row) table ≡ over row table
over-all row table i h = ap (λ r. over r table) (take_all i row h)

-- as many values as numbers
pub length-map-upto : (f : ℕ → ℕ) (n : ℕ) → length (map f (upto n)) ≡ n
length-map-upto f n = length-map (upto n) f ∙ length-upto n

-- the first of the values at 0 .. m - 1
pub take-map-upto : (f : ℕ → ℕ) (n m : ℕ) → n ≤ m → take n (map f (upto m)) ≡ map f (upto n)
take-map-upto f n m h =
    let a : length (map f (upto m)) ≡ m = length-map-upto f m in
    let b : length (map f (upto n)) ≡ n = length-map-upto f n in
    let l : length (take n (map f (upto m))) ≡ n = length-take-le n (map f (upto m)) (omega arith) in
    ext_get_or 0 (take n (map f (upto m))) (map f (upto n)) (l ∙ sym b)
    (λ i q.
    let s : i < n = omega arith in
    get_or-take n (map f (upto m)) i 0 s ∙ get_d_map-upto f m i 0 (omega arith) ∙ sym (get_d_map-upto f n i 0 s))
