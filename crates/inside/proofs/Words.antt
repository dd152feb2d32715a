-- Integers in signed 64 bits: what an operation of the code computes is the integer itself while a bound on its size stays below 2 ^ 63.
use Rattle.std.proofs.Common.{◌≡◌, ℕ, ◌+◌, ◌*◌, ◌^◌, ◌<◌, ◌≤◌, ℤ, pos, negsuc, ◌+ℤ◌, ◌-ℤ◌, ◌*ℤ◌, nat_abs, sym, refl, ap, ◌∙◌, subst, ap₂, arith, w64, SFits, to_z, of_z}
use lib.Signed.{mag}
use mir.ValLaws.{to_z-of_z}
use Rattle.geometry.proofs.Integers.{nat_abs_add, nat_abs_sub, mul-bound}

-- an integer stored in 64 bits and read back
abbrev pub word : ℤ → ℤ
word z = to_z w64 (of_z w64 z)

-- what the code computes, e, is z, whose size is at most n
pub record Sized (e z : ℤ) (n : ℕ) : Type 0 where
  pub is : e ≡ z
  pub small : nat_abs z ≤ n

-- the magnitude is at most the absolute value
mag_le : (z : ℤ) → mag z ≤ nat_abs z
mag_le (pos n) = omega arith
mag_le (negsuc n) = omega arith

-- an integer below 2 ^ 63 fits
fits_z : (z : ℤ) → nat_abs z < 2 ^ 63 → SFits w64 z
fits_z z l = record { sfits = omega (arith, mag_le z) }

-- and is read back as it was
pub back : (z : ℤ) → nat_abs z < 2 ^ 63 → word z ≡ z
back z l = to_z-of_z w64 z (fits_z z l)

-- an argument is itself
pub given : (z : ℤ) (n : ℕ) → nat_abs z ≤ n → Sized z z n
given z n h = record { is = refl; small = h }

module _ {e z : ℤ} {n : ℕ} (s : Sized e z n) (l : n < 2 ^ 63) where
  -- the result fits
  pub fits : SFits w64 e
  fits = subst (SFits w64) (sym s.is) (fits_z z (omega (arith, s.small)))

  -- and is kept
  pub stored : Sized (word e) z n
  stored = record { is = ap word s.is ∙ back z (omega (arith, s.small)); small = s.small }

module _ {e z f y : ℤ} {m n : ℕ} (s : Sized e z m) (t : Sized f y n) where
  -- a difference
  pub minus : Sized (e -ℤ f) (z -ℤ y) (m + n)
  minus = record { is = ap₂ ◌-ℤ◌ s.is t.is; small = omega (arith, nat_abs_sub z y, s.small, t.small) }

  -- a sum
  pub both : Sized (e +ℤ f) (z +ℤ y) (m + n)
  both = record { is = ap₂ ◌+ℤ◌ s.is t.is; small = omega (arith, nat_abs_add z y, s.small, t.small) }

  -- a product
  pub times : Sized (e *ℤ f) (z *ℤ y) (m * n)
  times = record { is = ap₂ ◌*ℤ◌ s.is t.is; small = mul-bound z y m n s.small t.small }

-- a small integer is small as it is read back
pub small_word : (z : ℤ) (n : ℕ) → n < 2 ^ 63 → nat_abs z ≤ n → nat_abs (word z) ≤ n
small_word z n l h = subst (λ (w : ℤ). nat_abs w ≤ n) (sym (back z (omega arith))) h
