-- The side of a ring, read back from its number and its area.
use Prim.Native.Nat.{ℕ, zero, suc, ◌<◌, ◌≤◌}
use native.Mathlib.Omega.{arith}
use mathlib.Core.Path.{◌≡◌, refl, ap, ap₂}
use mathlib.Core.Bool.{cond, ◌&&◌}
use mathlib.Core.List.{List}
use lib.Dec.{ltb}
use lib.Ieee.{Float, nan}
use lib.ListN.{length, get_or}
use borrow.Author.Tests.{lt-ltb, le-ltb}
use Rattle.lists.proofs.Tests.{no_right}
use Rattle.rules.specs.Ringing.{side_number_lem, side_area_lem}
use Rattle.ring_tally.specs.Sides.{side_of}
use Rattle.ring_tally.specs.declared.side.RingSide.{RingSide}
use Rattle.ring_tally.specs.declared.side.RingSide.TheVariants.{Enclosed, Open, Flat}
use Rattle.ring_sides.specs.Sides.{side_from, side_at_lem}
use Rattle.std.specs.Prelude.{Ok, Err}
use Rattle.ring_sides.specs.declared.NoSide.TheVariants.{PastLists, OtherNumber}

-- a side's number and area say that side
pub side-back : (s : RingSide) → side_from (side_number_lem (side_of s)) (side_area_lem (side_of s)) ≡ Ok s
side-back (Enclosed a) = refl
side-back (Open a) = refl
side-back Flat = refl

-- a number above 2 says none
pub no_side : (n : ℕ) (a : Float) → 2 < n → side_from n a ≡ Err OtherNumber
no_side zero a h = absurd (omega arith)
no_side (suc zero) a h = absurd (omega arith)
no_side (suc (suc zero)) a h = absurd (omega arith)
no_side (suc (suc (suc n))) a h = refl

module _ (sides : List ℕ) (areas : List Float) (i : ℕ) where
  -- past the end of the first list
  pub past-sides : length sides ≤ i → side_at_lem sides areas i ≡ Err PastLists
  past-sides h = ap (λ b. cond (b && ltb i (length areas)) (side_from (get_or sides i 0) (get_or areas i nan)) (Err PastLists)) (le-ltb i (length sides) h)

  -- past the end of the second
  pub past-areas : length areas ≤ i → side_at_lem sides areas i ≡ Err PastLists
  past-areas h = ap (λ b. cond b (side_from (get_or sides i 0) (get_or areas i nan)) (Err PastLists)) (no_right (ltb i (length sides)) (ltb i (length areas)) (le-ltb i (length areas) h))

  -- within both
  pub within-lists : i < length sides → i < length areas → side_at_lem sides areas i ≡ side_from (get_or sides i 0) (get_or areas i nan)
  within-lists h k = ap₂ (λ a b. cond (a && b) (side_from (get_or sides i 0) (get_or areas i nan)) (Err PastLists)) (lt-ltb i (length sides) h) (lt-ltb i (length areas) k)
