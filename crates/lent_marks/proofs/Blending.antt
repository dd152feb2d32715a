-- Laws of marks written over bytes: marks that did not change leave every byte, and the bytes then say the row.
use Prim.Native.Nat.{ℕ, zero, suc, ◌<◌, ◌≤◌}
use native.Mathlib.Omega.{arith}
use mathlib.Core.Path.{◌≡◌, refl, ap, ap₂}
use mathlib.Core.Bool.{Bool, true, false, cond, beq}
use mathlib.Core.List.{List, [], ◌∷◌, map}
use lib.ListN.{length, get_or, take, set}
use borrow.Author.Tests.{ne_eqb}
use Rattle.lists.proofs.Counts.{by_test}
use Rattle.lent_marks.specs.Marks.{is_set, blend, blended}

-- ---- one byte

-- a mark that did not change
blend-same : (b : ℕ) → blend (is_set b) b ≡ b
blend-same b = by_test (is_set b) (λ e. rw e refl) (λ e. rw e refl)

-- a byte without its mark is 0
pub blend_off : (b : ℕ) → blend false b ≡ 0
blend_off zero = refl
blend_off (suc b) = rw (ne_eqb (suc b) 0 (omega arith)) refl

-- a byte with its mark is not, and one that is not 0 already stays
pub blend_on : (b : ℕ) → b ≡ 0 → blend true b ≡ 1
blend_on b e = ap (blend true) e

pub blend-kept : (b : ℕ) → (b ≡ 0 → ⊥) → blend true b ≡ b
blend-kept zero e = absurd (e refl)
blend-kept (suc b) e = rw (ne_eqb (suc b) 0 (omega arith)) refl

-- the byte then says the mark
blend_says : (mark : Bool) (b : ℕ) → is_set (blend mark b) ≡ mark
blend_says mark b = go mark (is_set b) refl
  where
    go : (m t : Bool) → is_set b ≡ t → is_set (cond (beq t m) b (cond m 1 0)) ≡ m
    go true true e = e
    go true false e = refl
    go false true e = refl
    go false false e = e

-- ---- a row

pub length-blended : (row : List Bool) (bytes : List ℕ) → length (blended row bytes) ≡ length bytes
length-blended [] bytes = refl
length-blended (m ∷ row) [] = refl
length-blended (m ∷ row) (b ∷ bytes) = ap suc (length-blended row bytes)

-- one mark more
pub blended_more : (row : List Bool) (bytes : List ℕ) (i : ℕ) → i < length row → i < length bytes
    → set (blended (take i row) bytes) i (blend (get_or row i false) (get_or (blended (take i row) bytes) i 0)) ≡ blended (take (suc i) row) bytes
blended_more [] bytes i h k = absurd (omega arith)
blended_more (m ∷ row) [] i h k = absurd (omega arith)
blended_more (m ∷ row) (b ∷ bytes) zero h k = refl
blended_more (m ∷ row) (b ∷ bytes) (suc i) h k = ap (λ t. blend m b ∷ t) (blended_more row bytes i (omega arith) (omega arith))

-- marks that did not change leave every byte
pub blended-same : (n : ℕ) (bytes : List ℕ) → blended (take n (map is_set bytes)) bytes ≡ bytes
blended-same zero bytes = refl
blended-same (suc n) [] = refl
blended-same (suc n) (b ∷ bytes) = ap₂ ◌∷◌ (blend-same b) (blended-same n bytes)

-- the bytes then say the row
pub blended_says : (row : List Bool) (bytes : List ℕ) → length row ≤ length bytes → take (length row) (map is_set (blended row bytes)) ≡ row
blended_says [] bytes h = refl
blended_says (m ∷ row) [] h = absurd (omega arith)
blended_says (m ∷ row) (b ∷ bytes) h = ap₂ ◌∷◌ (blend_says m b) (blended_says row bytes (omega arith))
