-- An area that is exactly half of a whole number, added to itself, is that number, and the cast to an integer gives it.
use Rattle.std.proofs.Common.{◌≡◌, ◌^◌, ◌<◌, ◌≤◌, true, false, ℤ, pos, negsuc, nat_abs, sym, ap, ◌∙◌, subst, arith, w64, to_z, of_z}
use lib.Signed.{mag}
use lib.Ieee.{Float, fin, binary64, add, lt, le, of_int, to_signed}
use mir.ValLaws.{to_z-of_z}
use Rattle.geometry.specs.Coordinate.{Whole}
use Rattle.geometry.proofs.Exact.{whole_of_int}
use Rattle.geometry.proofs.Casts.{cast_low, cast_high, cast_is}
use Rattle.geometry.proofs.Halves.{half_plus_half}
use Rattle.rules.specs.Ringing.{side_area_lem, exact_side}
use Rattle.rules.proofs.Claims.{halved}
use Rattle.rings.proofs.Bounds.{side-half}
use Rattle.ring_lists.specs.Shown.{HalfOf}

-- the area replied is half of the doubled area
pub exact-half : (z : ℤ) → side_area_lem (exact_side z) ≡ halved z
unfolding exact_side
exact-half z = side-half z

module _ (area : Float) (z : ℤ) (h : HalfOf area z) where
  -- the area twice
  twice : add binary64 area area ≡ of_int binary64 z
  twice =
      let e : area ≡ halved z = h.half ∙ exact-half z in
      ap (λ a. add binary64 a a) e ∙ half_plus_half z h.small

  -- is the whole number
  twice_whole : Whole (add binary64 area area) z
  twice_whole = subst (λ x. Whole x z) (sym twice) (whole_of_int z h.small)

  -- which lies within the range of a signed integer
  pub twice-low : le (fin true 1 (pos 63)) (add binary64 area area) ≡ true
  twice-low = cast_low twice_whole h.small

  pub twice-high : lt (add binary64 area area) (fin false 1 (pos 63)) ≡ true
  twice-high = cast_high twice_whole h.small

  -- so the cast gives it
  pub twice_cast : to_signed 63 (add binary64 area area) ≡ z
  twice_cast = cast_is twice_whole h.small

-- its size fits as well
pub small_mag : (z : ℤ) → nat_abs z ≤ 2 ^ 53 → mag z < 2 ^ 63
small_mag (pos n) h = omega arith
small_mag (negsuc n) h = omega arith

-- bits and back
pub back : (z : ℤ) → nat_abs z ≤ 2 ^ 53 → to_z w64 (of_z w64 z) ≡ z
back z h = to_z-of_z w64 z (record { sfits = small_mag z h })
