-- Lines to one side of a point: those to its left do not cross its level to the right, and those to its right do exactly where their ends stand on
-- different sides of the level. Seen from the point, the orientation is a sum of two terms of one sign.
use Prim.Native.Nat.{ℕ, suc, ◌-◌}
use native.Mathlib.Omega.{arith}
use mathlib.Core.Path.{◌≡◌, refl, sym, ap, ◌∙◌}
use mathlib.Core.Bool.{Bool, true, false, not, ◌&&◌, beq}
use lib.IntN.{ℤ, pos, ◌-ℤ◌, ◌*ℤ◌}
use lib.Signed.{lt_z, le_z}
use Rattle.geometry.specs.Angle.{Point, orientation}
use Rattle.geometry.proofs.Integers.{plus, minus, sub_parts_of, lt_z_true, le_z_true, le_z_false, lt_lt_z, le_lt_z, Diff, diff_pos, diff_sub, diff_mul, diff_lt, diff_ge, cross_turn}
use Rattle.rules.specs.Holes.{crosses_right}

-- ---- how far two integers stand apart

-- x is above y
above : (x y : ℤ) → lt_z y x ≡ true → (n : ℕ) × Diff (x -ℤ y) (suc n) 0
above x y h = let z = x -ℤ y in (plus z - suc (minus z), record { says = omega (arith, sub_parts_of x y, lt_z_true y x h) })

-- below it
under : (x y : ℤ) → lt_z x y ≡ true → (n : ℕ) × Diff (x -ℤ y) 0 (suc n)
under x y h = let z = x -ℤ y in (minus z - suc (plus z), record { says = omega (arith, sub_parts_of x y, lt_z_true x y h) })

-- at most it
at_most : (x y : ℤ) → le_z x y ≡ true → (n : ℕ) × Diff (x -ℤ y) 0 n
at_most x y h = let z = x -ℤ y in (minus z - plus z, record { says = omega (arith, sub_parts_of x y, le_z_true x y h) })

-- not at most it
beyond : (x y : ℤ) → le_z x y ≡ false → lt_z y x ≡ true
beyond x y h = lt_lt_z y x (omega (arith, le_z_false x y h))

module _ (a b p : Point) where
  -- the orientation, seen from p
  seen : (a.x -ℤ p.x) *ℤ (b.y -ℤ p.y) -ℤ (a.y -ℤ p.y) *ℤ (b.x -ℤ p.x) ≡ orientation a b p
  unfolding orientation
  seen = cross_turn a.x a.y b.x b.y p.x p.y

  -- the way up, and the way down
  rises : le_z a.y p.y ≡ true → le_z b.y p.y ≡ false → lt_z a.y b.y ≡ true
  rises h k = lt_lt_z a.y b.y (omega (arith, le_z_true a.y p.y h, le_z_false b.y p.y k))

  falls : le_z a.y p.y ≡ false → le_z b.y p.y ≡ true → lt_z a.y b.y ≡ false
  falls h k = le_lt_z a.y b.y (omega (arith, le_z_false a.y p.y h, le_z_true b.y p.y k))

  -- ---- both ends to the left of p
  module _ (l : lt_z a.x p.x ≡ true) (m : lt_z b.x p.x ≡ true) where
    -- on the way up p is not to the left
    left_up : le_z a.y p.y ≡ true → le_z b.y p.y ≡ false → lt_z (pos 0) (orientation a b p) ≡ false
    left_up h k =
        let u = under a.x p.x l in
        let v = under b.x p.x m in
        let s = at_most a.y p.y h in
        let t = above b.y p.y (beyond b.y p.y k) in
        ap (lt_z (pos 0)) (sym seen) ∙ diff_ge (diff_pos 0) (diff_sub (diff_mul u.1 t.1) (diff_mul s.1 v.1)) (omega arith)

    -- on the way down it is
    left_down : le_z a.y p.y ≡ false → le_z b.y p.y ≡ true → lt_z (pos 0) (orientation a b p) ≡ true
    left_down h k =
        let u = under a.x p.x l in
        let v = under b.x p.x m in
        let s = above a.y p.y (beyond a.y p.y h) in
        let t = at_most b.y p.y k in
        ap (lt_z (pos 0)) (sym seen) ∙ diff_lt (diff_pos 0) (diff_sub (diff_mul u.1 t.1) (diff_mul s.1 v.1)) (omega arith)

    -- so it does not cross to the right
    pub left-apart : crosses_right a b p ≡ false
    unfolding crosses_right
    left-apart = go (le_z a.y p.y) (le_z b.y p.y) refl refl
      where
        go : (s t : Bool) → le_z a.y p.y ≡ s → le_z b.y p.y ≡ t → (not (beq s t) && beq (lt_z (pos 0) (orientation a b p)) (lt_z a.y b.y)) ≡ false
        go true true h k = refl
        go false false h k = refl
        go true false h k = λ i. beq (left_up h k i) (rises h k i)
        go false true h k = λ i. beq (left_down h k i) (falls h k i)

  -- ---- both ends to the right of p
  module _ (l : lt_z p.x a.x ≡ true) (m : lt_z p.x b.x ≡ true) where
    -- on the way up p is to the left
    right_up : le_z a.y p.y ≡ true → le_z b.y p.y ≡ false → lt_z (pos 0) (orientation a b p) ≡ true
    right_up h k =
        let u = above a.x p.x l in
        let v = above b.x p.x m in
        let s = at_most a.y p.y h in
        let t = above b.y p.y (beyond b.y p.y k) in
        ap (lt_z (pos 0)) (sym seen) ∙ diff_lt (diff_pos 0) (diff_sub (diff_mul u.1 t.1) (diff_mul s.1 v.1)) (omega arith)

    -- on the way down it is not
    right_down : le_z a.y p.y ≡ false → le_z b.y p.y ≡ true → lt_z (pos 0) (orientation a b p) ≡ false
    right_down h k =
        let u = above a.x p.x l in
        let v = above b.x p.x m in
        let s = above a.y p.y (beyond a.y p.y h) in
        let t = at_most b.y p.y k in
        ap (lt_z (pos 0)) (sym seen) ∙ diff_ge (diff_pos 0) (diff_sub (diff_mul u.1 t.1) (diff_mul s.1 v.1)) (omega arith)

    -- so it crosses to the right exactly where its ends stand on different sides of the level
    pub right_crosses : crosses_right a b p ≡ not (beq (le_z a.y p.y) (le_z b.y p.y))
    unfolding crosses_right
    right_crosses = go (le_z a.y p.y) (le_z b.y p.y) refl refl
      where
        go : (s t : Bool) → le_z a.y p.y ≡ s → le_z b.y p.y ≡ t → (not (beq s t) && beq (lt_z (pos 0) (orientation a b p)) (lt_z a.y b.y)) ≡ not (beq s t)
        go true true h k = refl
        go false false h k = refl
        go true false h k = λ i. beq (right_up h k i) (rises h k i)
        go false true h k = λ i. beq (right_down h k i) (falls h k i)

  -- ---- both ends on one side of the level
  pub level_apart : le_z a.y p.y ≡ le_z b.y p.y → crosses_right a b p ≡ false
  unfolding crosses_right
  level_apart e = ap (λ (t : Bool). not (beq t (le_z b.y p.y)) && beq (lt_z (pos 0) (orientation a b p)) (lt_z a.y b.y)) e ∙ go (le_z b.y p.y) _
    where
      go : (s t : Bool) → (not (beq s s) && t) ≡ false
      go true t = refl
      go false t = refl
