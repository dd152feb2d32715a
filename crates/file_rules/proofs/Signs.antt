-- Signed numbers of 64 bits: the size of a negative one without leaving its type, and its text.
use mathlib.Core.Path.{◌≡◌, refl, sym, ap, ◌∙◌, subst}
use mathlib.Core.Bool.{true, false}
use mathlib.Core.List.{◌∷◌}
use Prim.Native.Nat.{ℕ, zero, suc, ◌+◌, ◌^◌, ◌<◌}
use native.Mathlib.Omega.{arith}
use borrow.Author.Tests.{ltb-true}
use lib.Dec.{T}
use lib.IntN.{ℤ, pos, negsuc, neg_ℤ, nat_abs, ◌+ℤ◌, ◌-ℤ◌, +ℤ_one}
use lib.Signed.{mag, lt_z, non_neg}
use mir.Syntax.{w64}
use mir.Val.{SFits, Fits, to_z, of_z}
use mir.ValLaws.{to_z-of_z}
use Rattle.file_rules.specs.Decimal.{decimal, signed_decimal}

-- bits and back
pub back : (z : ℤ) → mag z < 2 ^ 63 → to_z w64 (of_z w64 z) ≡ z
back z h = to_z-of_z w64 z (record { sfits = h })

-- one more than - (k + 1)
one_up : (k : ℕ) → negsuc k +ℤ pos 1 ≡ neg_ℤ (pos k)
one_up zero = +ℤ_one (negsuc zero)
one_up (suc k) = +ℤ_one (negsuc (suc k))

-- a sign turned
turned : (k : ℕ) → pos 0 -ℤ neg_ℤ (pos k) ≡ pos k
turned zero = refl
turned (suc k) = ap pos (omega arith)

-- - k is as small as k
neg_small : (k : ℕ) → k < 2 ^ 63 → mag (neg_ℤ (pos k)) < 2 ^ 63
neg_small zero h = h
neg_small (suc k) h = omega arith

-- a negative number, one added: what it is, what its turned sign is, and that both fit
pub record Below (z : ℤ) : Type 0 where
  pub size : ℕ
  pub is : nat_abs z ≡ size + 1
  pub small : size < 2 ^ 63
  pub up_fits : SFits w64 (to_z w64 (of_z w64 z) +ℤ pos 1)
  pub turned-fits : SFits w64 (pos 0 -ℤ to_z w64 (of_z w64 (to_z w64 (of_z w64 z) +ℤ pos 1)))
  pub turned-is : to_z w64 (of_z w64 (pos 0 -ℤ to_z w64 (of_z w64 (to_z w64 (of_z w64 z) +ℤ pos 1)))) ≡ pos size

pub below : (z : ℤ) → mag z < 2 ^ 63 → lt_z z (pos 0) ≡ true → Below z
below (pos n) h t = absurd (omega (arith, ltb-true n 0 t))
below (negsuc k) h t =
    let up : to_z w64 (of_z w64 (negsuc k)) +ℤ pos 1 ≡ neg_ℤ (pos k) = ap (λ (z : ℤ). z +ℤ pos 1) (back (negsuc k) h) ∙ one_up k in
    let turn : pos 0 -ℤ to_z w64 (of_z w64 (to_z w64 (of_z w64 (negsuc k)) +ℤ pos 1)) ≡ pos k =
    ap (λ (z : ℤ). pos 0 -ℤ to_z w64 (of_z w64 z)) up ∙ ap (λ (z : ℤ). pos 0 -ℤ z) (back (neg_ℤ (pos k)) (neg_small k h)) ∙ turned k
    in
    record {
      size = k;
      is = omega arith;
      small = h;
      up_fits = subst (SFits w64) (sym up) (record { sfits = neg_small k h });
      turned-fits = subst (SFits w64) (sym turn) (record { sfits = h });
      turned-is = ap (λ (z : ℤ). to_z w64 (of_z w64 z)) turn ∙ back (pos k) h;
    }

-- a number that is not negative is its own size
pub above : (z : ℤ) → mag z < 2 ^ 63 → lt_z z (pos 0) ≡ false → (T (non_neg z)) × Fits w64 (nat_abs z)
above (pos n) h t = (tt, omega arith)
above (negsuc k) h t = absurd (subst T t tt)

-- the text of a negative number, and of any other
pub signed_below : (z : ℤ) → lt_z z (pos 0) ≡ true → signed_decimal z ≡ 45 ∷ decimal (nat_abs z)
signed_below (pos n) t = absurd (omega (arith, ltb-true n 0 t))
signed_below (negsuc k) t = refl

pub signed_above : (z : ℤ) → lt_z z (pos 0) ≡ false → signed_decimal z ≡ decimal (nat_abs z)
signed_above (pos n) t = refl
signed_above (negsuc k) t = absurd (subst T t tt)
