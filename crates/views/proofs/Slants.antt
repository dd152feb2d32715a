-- A slanted view of the plane: every point moves along its level by the slope times its height. Which lines cross a level to the right of a point stays as it
-- is, so a ring has nothing inside that lies beside it in the slanted view. There a thin ring along a diagonal has a narrow box.
use Prim.Native.Nat.{ℕ}
use native.Mathlib.Omega.{arith}
use mathlib.Core.Path.{◌≡◌, sym, ap, ap₂, subst, ◌∙◌}
use mathlib.Core.Bool.{Bool, true, false, not, ◌&&◌, beq}
use mathlib.Core.List.{List}
use lib.IntN.{ℤ, pos, ◌+ℤ◌, ◌-ℤ◌, ◌*ℤ◌}
use lib.ListN.{get_or}
use lib.Signed.{lt_z, le_z}
use Rattle.lists.proofs.Counts.{by_test, true_is_false}
use Rattle.geometry.specs.Angle.{Point, orientation}
use Rattle.geometry.proofs.Integers.{diff_var, diff_pos, diff_add, diff_sub, diff_mul, diff_eq}
use Rattle.rules.specs.HalfEdge.{twin}
use Rattle.rules.specs.Cycles.{Arrangement}
use Rattle.rules.specs.Claim.{Joined}
use Rattle.rules.specs.Holes.{crosses_right, inside}
use Rattle.rules.proofs.Crossings.{left-apart, right_crosses}
use Rattle.inside.specs.Spots.{spot}
use Rattle.views.specs.Views.{leaned, Slanted}
use Rattle.views.proofs.Beside.{closed_even, Ends, crosses, even_out, none_out, ring_above, ring-below, Boxed, before-low, past-high}

-- ---- the view that is not slanted

-- nothing is added there
pub plain : (x y : ℤ) → x ≡ x +ℤ pos 0 *ℤ y
plain x y = let X = diff_var x in diff_eq X (diff_add X (diff_mul (diff_pos 0) (diff_var y))) (omega arith)

-- so the table of it is that of x
pub plain-slanted : (slope : ℕ) (xs ys : List ℤ) (count : ℕ) → slope ≡ 0 → Slanted slope xs ys count xs
plain-slanted slope xs ys count e = subst (λ k. Slanted k xs ys count xs) (sym e) (λ n low. plain (get_or xs n (pos 0)) (get_or ys n (pos 0)))

-- ---- the orientation stays

-- the way between two points, seen slanted
step : (k ax ay bx by : ℤ) → leaned k bx by -ℤ leaned k ax ay ≡ (bx -ℤ ax) +ℤ k *ℤ (by -ℤ ay)
step k ax ay bx by =
    let K = diff_var k in
    let A = diff_var ax in
    let B = diff_var ay in
    let C = diff_var bx in
    let D = diff_var by in
    diff_eq (diff_sub (diff_add C (diff_mul K D)) (diff_add A (diff_mul K B))) (diff_add (diff_sub C A) (diff_mul K (diff_sub D B))) (omega arith)

-- what is added to one side of the determinant is added to the other
cancels : (k d e f g : ℤ) → (d +ℤ k *ℤ e) *ℤ f -ℤ e *ℤ (g +ℤ k *ℤ f) ≡ d *ℤ f -ℤ e *ℤ g
cancels k d e f g =
    let K = diff_var k in
    let D = diff_var d in
    let E = diff_var e in
    let F = diff_var f in
    let G = diff_var g in
    diff_eq (diff_sub (diff_mul (diff_add D (diff_mul K E)) F) (diff_mul E (diff_add G (diff_mul K F)))) (diff_sub (diff_mul D F) (diff_mul E G)) (omega arith)

module _ (k : ℤ) where
  -- a point in the slanted view
  abbrev pub slant : Point → Point
  slant q = spot (leaned k q.x q.y) q.y

  module _ (a b p : Point) where
    turn-stays : orientation (slant a) (slant b) (slant p) ≡ orientation a b p
    unfolding orientation
    turn-stays =
        ap₂ (λ (u v : ℤ). u *ℤ (p.y -ℤ a.y) -ℤ (b.y -ℤ a.y) *ℤ v) (step k a.x a.y b.x b.y) (step k a.x a.y p.x p.y)
        ∙ cancels k (b.x -ℤ a.x) (b.y -ℤ a.y) (p.y -ℤ a.y) (p.x -ℤ a.x)

    -- so the same lines cross to the right
    crossing_stays : crosses_right (slant a) (slant b) (slant p) ≡ crosses_right a b p
    unfolding crosses_right
    crossing_stays = ap (λ z. not (beq (le_z a.y p.y) (le_z b.y p.y)) && beq (lt_z (pos 0) z) (lt_z a.y b.y)) turn-stays

  -- ---- beside the ring

  module _ (at : ℕ → Point) (g : Arrangement) (ring : List ℕ) (p : Point) where
    -- the ring is to the left
    slant_left : Ends at g ring (λ q. lt_z (slant q).x (slant p).x ≡ true) → inside at g ring p ≡ false
    slant_left e = none_out at g ring p (λ h m.
        let a = at (g.origin h) in
        let b = at (g.origin (twin h)) in
        sym (crossing_stays a b p) ∙ left-apart (slant a) (slant b) (slant p) (e h m).0 (e h m).1)

    -- to the right, if it is closed
    slant_right : Joined g (get_or ring 0 0) ring → Ends at g ring (λ q. lt_z (slant p).x (slant q).x ≡ true) → inside at g ring p ≡ false
    slant_right j e = even_out at g ring p (closed_even g (λ n. le_z (at n).y p.y) (crosses at g ring p) ring j (λ h m.
        let a = at (g.origin h) in
        let b = at (g.origin (twin h)) in
        sym (crossing_stays a b p) ∙ right_crosses (slant a) (slant b) (slant p) (e h m).0 (e h m).1))

    -- ---- the box

    module _ (low_x high_x low_y high_y : ℤ) where
      -- a box in the slanted view holds what is inside a closed ring, if it holds the ends of its lines
      pub inside-slanted : Joined g (get_or ring 0 0) ring → Ends at g ring (λ q. Boxed low_x high_x low_y high_y (slant q)) → inside at g ring p ≡ true → Boxed low_x high_x low_y high_y (slant p)
      inside-slanted j e i = record {
        left = held (le_z low_x (slant p).x) (λ n. slant_right j (ends (λ q. lt_z (slant p).x (slant q).x ≡ true) (λ q b. before-low low_x (slant p).x (slant q).x n b.left)));
        right = held (le_z (slant p).x high_x) (λ n. slant_left (ends (λ q. lt_z (slant q).x (slant p).x ≡ true) (λ q b. past-high high_x (slant p).x (slant q).x n b.right)));
        low = held (le_z low_y p.y) (λ n. ring_above at g ring p (ends (λ q. lt_z p.y q.y ≡ true) (λ q b. before-low low_y p.y q.y n b.low)));
        high = held (le_z p.y high_y) (λ n. ring-below at g ring p (ends (λ q. lt_z q.y p.y ≡ true) (λ q b. past-high high_y p.y q.y n b.high)));
      }
        where
          ends : (fact : Point → Type 0) → ((q : Point) → Boxed low_x high_x low_y high_y (slant q) → fact q) → Ends at g ring fact
          ends fact f h m = (f (at (g.origin h)) (e h m).0, f (at (g.origin (twin h))) (e h m).1)

          held : (t : Bool) → (t ≡ false → inside at g ring p ≡ false) → t ≡ true
          held t f = by_test t (λ u. u) (λ n. absurd (true_is_false (sym i ∙ f n)))
