-- A float that is an integer of at most 2 ^ 53 lies within the range of a signed integer of 64 bits, and the cast gives that integer.
use Rattle.std.proofs.Common.{◌≡◌, ◌-◌, ◌^◌, ◌≤◌, true, false, ℤ, pos, negsuc, nat_abs, refl, ◌∙◌, arith, lt-ltb, le-leb}
use lib.Signed.{lt_z, le_z}
use lib.Ieee.{Float, fin, lt, le, to_signed}
use Rattle.geometry.specs.Coordinate.{Whole, signed}
use Rattle.geometry.proofs.Exact.{lt_whole, le_whole, whole_coordinate, whole_value, coordinate_to_signed}

-- the ends of the range, as floats
lowest : Whole (fin true 1 (pos 63)) (signed true (2 ^ 63))
lowest = record { sign = true; size = 2 ^ 63; holds = (refl, refl); is = refl }

past : Whole (fin false 1 (pos 63)) (signed false (2 ^ 63))
past = record { sign = false; size = 2 ^ 63; holds = (refl, refl); is = refl }

above_lowest : (z : ℤ) → nat_abs z ≤ 2 ^ 53 → le_z (signed true (2 ^ 63)) z ≡ true
above_lowest (pos n) h = refl
above_lowest (negsuc n) h = le-leb n (2 ^ 63 - 1) (omega arith)

below-past : (z : ℤ) → nat_abs z ≤ 2 ^ 53 → lt_z z (signed false (2 ^ 63)) ≡ true
below-past (pos n) h = lt-ltb n (2 ^ 63) (omega arith)
below-past (negsuc n) h = refl

module _ {x : Float} {z : ℤ} (w : Whole x z) (small : nat_abs z ≤ 2 ^ 53) where
  -- within the range
  pub cast_low : le (fin true 1 (pos 63)) x ≡ true
  cast_low = le_whole lowest w ∙ above_lowest z small

  pub cast_high : lt x (fin false 1 (pos 63)) ≡ true
  cast_high = lt_whole w past ∙ below-past z small

  -- so the cast gives it
  pub cast_is : to_signed 63 x ≡ z
  cast_is = coordinate_to_signed (2 ^ 53) x (whole_coordinate (2 ^ 53) w small) (omega arith) ∙ whole_value w
