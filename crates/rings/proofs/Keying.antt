-- The keys that a walk puts into the two halves of a list.
use Prim.Native.Nat.{ℕ, suc, ◌+◌, ◌≤◌}
use native.Mathlib.Omega.{arith}
use native.Mathlib.Nat.{add-zero}
use mathlib.Core.Path.{◌≡◌, refl, ap, ◌∙◌}
use mathlib.Core.List.{List, [], ◌∷◌, ◌++◌, map}
use lib.ListN.{length, take, drop, set, length-take, length-drop, length-map}
use lib.Seq.{sets, take-set-le, take-set-lt, drop-set-lt, drop-set-add}
use lib.Ieee.{Float}
use Rattle.ring_tally.specs.Keys.{bits_from, key_put, keys_put, Keyed}
use Rattle.rings.proofs.Entries.{over_sets}

module _ (m : ℕ) (source : List ℕ) (xs ys : List Float) where
  -- one row behind another is both in a row
  pub keys_more : (keys : List ℕ) (k : ℕ) (A B : List ℕ)
      → keys_put m source xs ys (keys_put m source xs ys keys k A) (k + length A) B ≡ keys_put m source xs ys keys k (A ++ B)
  keys_more keys k [] B = ap (λ i. keys_put m source xs ys keys i B) (add-zero k)
  keys_more keys k (h ∷ A) B =
      let e : k + suc (length A) ≡ suc k + length A = omega arith in
      ap (λ i. keys_put m source xs ys (keys_put m source xs ys (key_put m source xs ys keys k h) (suc k) A) i B) e
      ∙ keys_more (key_put m source xs ys keys k h) (suc k) A B

  -- the first half has the bits of x
  first-half : (keys : List ℕ) (k : ℕ) (row : List ℕ) → k + length row ≤ m → take m (keys_put m source xs ys keys k row) ≡ sets (take m keys) k (map (bits_from source xs) row)
  first-half keys k [] h = refl
  first-half keys k (i ∷ row) h =
      let x = bits_from source xs i in
      first-half (key_put m source xs ys keys k i) (suc k) row (omega arith)
      ∙ ap (λ l. sets l (suc k) (map (bits_from source xs) row))
      (take-set-le m (set keys k x) (m + k) (bits_from source ys i) (omega arith) ∙ take-set-lt m keys k x (omega arith))

  -- the second those of y
  second-half : (keys : List ℕ) (k : ℕ) (row : List ℕ) → k + length row ≤ m → drop m (keys_put m source xs ys keys k row) ≡ sets (drop m keys) k (map (bits_from source ys) row)
  second-half keys k [] h = refl
  second-half keys k (i ∷ row) h =
      let x = bits_from source xs i in
      let y = bits_from source ys i in
      second-half (key_put m source xs ys keys k i) (suc k) row (omega arith)
      ∙ ap (λ l. sets l (suc k) (map (bits_from source ys) row))
      (drop-set-add m (set keys k x) k y ∙ ap (λ l. set l k y) (drop-set-lt m keys k x (omega arith)))

  -- put from the front on, they stand in front of both halves
  pub keys-stand : (keys : List ℕ) (row : List ℕ) → length row ≤ m → m + length row ≤ length keys → Keyed m row source xs ys keys (keys_put m source xs ys keys 0 row)
  keys-stand keys row h l = record {
    bits_x = first-half keys 0 row (omega arith)
        ∙ over_sets 0 [] (map (bits_from source xs) row) (take m keys) (omega (arith, length-map row (bits_from source xs), length-take m keys));
    bits_y = second-half keys 0 row (omega arith)
        ∙ over_sets 0 [] (map (bits_from source ys) row) (drop m keys) (omega (arith, length-map row (bits_from source ys), length-drop m keys));
  }
