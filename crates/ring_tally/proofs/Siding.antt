-- The side by the sign of an exact area.
use Prim.Native.Nat.{zero, suc, ◌^◌, ◌≤◌}
use native.Mathlib.Omega.{arith}
use mathlib.Core.Path.{◌≡◌, ap₂, ◌∙◌}
use lib.IntN.{ℤ, pos, negsuc, nat_abs}
use borrow.Author.Tests.{lt-ltb}
use Rattle.geometry.proofs.Halves.{half_above, half-below}
use Rattle.rules.specs.Ringing.{side_by}
use Rattle.rules.proofs.Claims.{halved}
use Rattle.ring_tally.specs.Sides.{side_of, side_where, sign_side}

-- the float's sign is the whole number's where the float is exactly half of it
pub side-exact : (z : ℤ) → nat_abs z ≤ 2 ^ 53 → side_of (sign_side (halved z)) ≡ side_by z (halved z)
side-exact (pos zero) h = ap₂ (λ t u. side_of (side_where t u (halved (pos zero)))) (half_above (pos zero) h) (half-below (pos zero) h)
side-exact (pos (suc n)) h = ap₂ (λ t u. side_of (side_where t u (halved (pos (suc n))))) (half_above (pos (suc n)) h ∙ lt-ltb 0 (suc n) (omega arith)) (half-below (pos (suc n)) h)
side-exact (negsuc n) h = ap₂ (λ t u. side_of (side_where t u (halved (negsuc n)))) (half_above (negsuc n) h) (half-below (negsuc n) h)
