-- The code's tests on a line and a point are those of `on_line_lem` and `crosses_right`.
use Rattle.std.proofs.Common.{◌≡◌, suc, ◌-◌, ◌^◌, Bool, true, false, ◌&&◌, ◌||◌, eqb, ℤ, pos, negsuc, refl, ap, ◌∙◌, arith, w64, SFits, of_z, ne_eqb}
use mathlib.Core.Bool.{and-true}
use lib.Signed.{le_z}
use Rattle.geometry.specs.Coordinate.{eq_z}
use Rattle.geometry.specs.Angle.{Point, orientation}
use Rattle.geometry.proofs.Integers.{le_le_z, le_z_false}
use Rattle.lists.proofs.Tests.{no_right}
use Rattle.rules.specs.Holes.{between, on_line_lem, crosses_right}
use Rattle.rules.proofs.Crossings.{level_apart}
use Rattle.inside.specs.Meeting.{meets_by, meets_of}
use Rattle.inside.specs.declared.lines.Meets.TheVariants.{OnLine, Right, Apart}

-- 0 as 64 bits is 0 as an integer
pub zero_test : (z : ℤ) → SFits w64 z → eqb (of_z w64 z) 0 ≡ eq_z z (pos 0)
zero_test (pos n) f = refl
zero_test (negsuc n) f = ne_eqb (2 ^ 64 - suc n) 0 (λ e. omega (arith, f.sfits))

-- of two integers one is at most the other
other_way : (x y : ℤ) → le_z x y ≡ false → le_z y x ≡ true
other_way x y h = le_le_z y x (omega (arith, le_z_false x y h))

-- where z is not between a and b, both are on one side of it
one_side : (a b z : ℤ) → between a b z ≡ false → le_z a z ≡ le_z b z
one_side a b z n = go (le_z a z) (le_z b z) refl refl n
  where
    go : (s t : Bool) → le_z a z ≡ s → le_z b z ≡ t → ((s && le_z z b) || (t && le_z z a)) ≡ false → s ≡ t
    go true true p q e = refl
    go false false p q e = refl
    go true false p q e = cc (other_way b z q)
    go false true p q e = cc (other_way a z p)

module _ (a b p : Point) where
  -- on the level of the line, only its other tests are left
  on_level : between a.y b.y p.y ≡ true → on_line_lem a b p ≡ (eq_z (orientation a b p) (pos 0) && between a.x b.x p.x)
  unfolding on_line_lem
  on_level e = ap (λ (t : Bool). eq_z (orientation a b p) (pos 0) && (between a.x b.x p.x && t)) e ∙ ap (λ (t : Bool). eq_z (orientation a b p) (pos 0) && t) (and-true (between a.x b.x p.x))

  -- beside its levels, none holds
  off_level : between a.y b.y p.y ≡ false → on_line_lem a b p ≡ false
  unfolding on_line_lem
  off_level n = no_right (eq_z (orientation a b p) (pos 0)) _ (no_right (between a.x b.x p.x) _ n)

  uncrossed : between a.y b.y p.y ≡ false → crosses_right a b p ≡ false
  uncrossed n = level_apart a b p (one_side a.y b.y p.y n)

  -- so it is apart from the point
  pub meets_beside : between a.y b.y p.y ≡ false → meets_of a b p ≡ Apart
  meets_beside n = λ i. meets_by (off_level n i) (uncrossed n i)

  -- on the line
  pub meets_on : between a.y b.y p.y ≡ true → (eq_z (orientation a b p) (pos 0) && between a.x b.x p.x) ≡ true → meets_of a b p ≡ OnLine
  meets_on l e = ap (λ (t : Bool). meets_by t (crosses_right a b p)) (on_level l ∙ e)

  -- off the line it goes by the crossing
  pub meets_off : between a.y b.y p.y ≡ true → (eq_z (orientation a b p) (pos 0) && between a.x b.x p.x) ≡ false → meets_of a b p ≡ meets_by false (crosses_right a b p)
  meets_off l e = ap (λ (t : Bool). meets_by t (crosses_right a b p)) (on_level l ∙ e)

-- what the code's answer says of the two tests
pub met_on : (on right : Bool) → meets_by on right ≡ OnLine → on ≡ true
met_on true right e = refl
met_on false true e = cc
met_on false false e = cc

pub met_right : (on right : Bool) → meets_by on right ≡ Right → (on ≡ false) × (right ≡ true)
met_right true right e = (cc, cc)
met_right false true e = (refl, refl)
met_right false false e = (refl, cc)

pub met_apart : (on right : Bool) → meets_by on right ≡ Apart → (on ≡ false) × (right ≡ false)
met_apart true right e = (cc, cc)
met_apart false true e = (refl, cc)
met_apart false false e = (refl, refl)
