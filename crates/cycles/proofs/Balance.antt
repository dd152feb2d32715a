-- V - E + cycles = 2 C in signed 64 bits is V + cycles = 2 C + E.
use Prim.Native.Nat.{ℕ, ◌+◌, ◌*◌, ◌<◌, ◌≤◌}
use native.Mathlib.Omega.{arith}
use mathlib.Core.Path.{◌≡◌, sym, ap, ap₂, ◌∙◌, subst}
use lib.Dec.{eqb}
use lib.IntN.{ℤ, pos, negsuc, neg_ℤ, nat_abs, ◌+ℤ◌, ◌-ℤ◌, ◌*ℤ◌}
use lib.Signed.{mag}
use mir.Syntax.{w64}
use mir.Val.{SFits, of_z, to_z}
use mir.ValLaws.{to_z_pos, to_z-of_z}
use borrow.Author.Tests.{eq-eqb, ne_eqb}
use Rattle.lists.proofs.Counts.{by_eq}
use Rattle.geometry.proofs.Integers.{plus, minus, add_parts, sub_parts_of, eq_of_parts, nat_abs_add, nat_abs_neg}

-- a number of 16 bits is itself
pub small : (n : ℕ) → n < 65536 → to_z w64 n ≡ pos n
small n l = to_z_pos w64 n (omega arith)

-- the magnitude is at most the absolute value
mag_le : (z : ℤ) → mag z ≤ nat_abs z
mag_le (pos n) = omega arith
mag_le (negsuc n) = omega arith

-- an integer of at most 20 bits fits
fits : (z : ℤ) → nat_abs z < 1048576 → SFits w64 z
fits z l = record { sfits = omega (arith, mag_le z) }

module _ (v e f c : ℕ) (lv : v < 65536) (le : e < 65536) (lf : f < 65536) (lc : c < 65536) where
  -- V - E
  abbrev rest : ℤ
  rest = pos v -ℤ pos e

  -- it is small
  rest-small : nat_abs rest < 131072
  rest-small = omega (arith, nat_abs_add (pos v) (neg_ℤ (pos e)), nat_abs_neg (pos e))

  -- V - E fits
  pub difference_fits : SFits w64 (to_z w64 v -ℤ to_z w64 e)
  difference_fits = subst (SFits w64) (sym (ap₂ ◌-ℤ◌ (small v lv) (small e le))) (fits rest (omega (arith, rest-small)))

  -- read back it is V - E
  back : to_z w64 (of_z w64 (to_z w64 v -ℤ to_z w64 e)) ≡ rest
  back = ap (λ z. to_z w64 (of_z w64 z)) (ap₂ ◌-ℤ◌ (small v lv) (small e le)) ∙ to_z-of_z w64 rest (fits rest (omega (arith, rest-small)))

  -- the left side
  left : to_z w64 (of_z w64 (to_z w64 v -ℤ to_z w64 e)) +ℤ to_z w64 f ≡ rest +ℤ pos f
  left = ap₂ ◌+ℤ◌ back (small f lf)

  -- it fits
  left-fits : SFits w64 (rest +ℤ pos f)
  left-fits = fits (rest +ℤ pos f) (omega (arith, nat_abs_add rest (pos f), rest-small))

  -- V - E + cycles fits
  pub sum_fits : SFits w64 (to_z w64 (of_z w64 (to_z w64 v -ℤ to_z w64 e)) +ℤ to_z w64 f)
  sum_fits = subst (SFits w64) (sym left) left-fits

  -- the right side
  right : pos 2 *ℤ to_z w64 c ≡ pos (2 * c)
  right = ap (λ z. pos 2 *ℤ z) (small c lc)

  -- it fits
  right-fits : SFits w64 (pos (2 * c))
  right-fits = fits (pos (2 * c)) (omega arith)

  -- 2 C fits
  pub product_fits : SFits w64 (pos 2 *ℤ to_z w64 c)
  product_fits = subst (SFits w64) (sym right) right-fits

  -- the two sides as differences
  parts : plus (rest +ℤ pos f) + e ≡ minus (rest +ℤ pos f) + (v + f)
  parts = omega (arith, add_parts rest (pos f), sub_parts_of (pos v) (pos e))

  -- they are equal exactly where the sums are
  pub balance : eqb (of_z w64 (to_z w64 (of_z w64 (to_z w64 v -ℤ to_z w64 e)) +ℤ to_z w64 f)) (of_z w64 (pos 2 *ℤ to_z w64 c)) ≡ eqb (v + f) (2 * c + e)
  balance =
      ap₂ (λ x y. eqb (of_z w64 x) (of_z w64 y)) left right
      ∙ by_eq (v + f) (2 * c + e)
      (λ q.
      let same : rest +ℤ pos f ≡ pos (2 * c) = eq_of_parts (rest +ℤ pos f) (pos (2 * c)) (omega (arith, parts, q)) in
      eq-eqb (of_z w64 (rest +ℤ pos f)) (2 * c) (ap (of_z w64) same) ∙ sym (eq-eqb (v + f) (2 * c + e) q))
      (λ d. ne_eqb (of_z w64 (rest +ℤ pos f)) (2 * c)
      (λ q.
      let same : rest +ℤ pos f ≡ pos (2 * c) =
      sym (to_z-of_z w64 (rest +ℤ pos f) left-fits) ∙ ap (to_z w64) q ∙ to_z-of_z w64 (pos (2 * c)) right-fits in
      d (omega (arith, parts, ap plus same, ap minus same)))
      ∙ sym (ne_eqb (v + f) (2 * c + e) d))
