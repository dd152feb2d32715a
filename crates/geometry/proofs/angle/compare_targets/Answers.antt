-- `compare_targets` meets its contract: equal floats are equal targets, the quadrants come from `quadrant`, and the tests on the determinant are those on its integer.
use Rattle.std.proofs.Common.{◌≡◌, ℕ, true, false, T, refl, sym, ap, ap₂, ◌∙◌}
use Rattle.std.specs.Ordering.{nat_cmp, is_ne}
use Rattle.std.specs.Cmp.{nat_cmp_is}
use Rattle.std.specs.declared.cmp.Ordering.{Ordering as CmpOrdering}
use Rattle.std.specs.declared.cmp.Ordering.TheVariants.{Less, Equal, Greater}
use Prim.Native.Nat.{compare, Ordering}
use lib.Ieee.{eq, of_bits}
use Rattle.lists.proofs.Counts.{true_is_false}
use Rattle.geometry.specs.Coordinate.{coordinate_bound}
use Rattle.geometry.specs.Angle.{Point, point_of_coord, planar, quadrant_of, and_then, angle_order}
use Rattle.geometry.specs.Comparison.{order_of}
use Rattle.geometry.specs.declared.Coord3D.{Coord3D}
use Rattle.geometry.proofs.Integers.{eq_z_true}
use Rattle.geometry.proofs.Exact.{eq_whole, zero_whole}
use Rattle.geometry.proofs.Steps.{sized-x, sized-y}
use Rattle.geometry.proofs.Orders.{tri, less, same, more, compare_lt, compare_eq, compare_gt, eq_compare, float_lt, float_gt, float_eq}
use Rattle.geometry.proofs.Angles.{order_by_quadrant, order_by_orientation, angle_self}
use Rattle.geometry.proofs.angle.compare_targets.Goals as goal

-- targets with equal floats are one point
equal-targets : (b : ℕ) (c s t : Coord3D) → T (planar b s) → T (planar b t) → eq s.x t.x ≡ true → eq s.y t.y ≡ true
    → angle_order (point_of_coord c) (point_of_coord s) (point_of_coord t) ≡ Ordering.eq
equal-targets b c s t on-s on-t e f =
    let p : (point_of_coord s).x ≡ (point_of_coord t).x = eq_z_true _ _ (sym (eq_whole (sized-x b s on-s).whole (sized-x b t on-t).whole) ∙ e) in
    let q : (point_of_coord s).y ≡ (point_of_coord t).y = eq_z_true _ _ (sym (eq_whole (sized-y b s on-s).whole (sized-y b t on-t).whole) ∙ f) in
    let r : point_of_coord s ≡ point_of_coord t = λ i. record { x = p i; y = q i } in
    ap (λ (u : Point). angle_order (point_of_coord c) u (point_of_coord t)) r ∙ angle_self (point_of_coord c) (point_of_coord t)

pub returns-then-target_a-target_b-2 : goal.returns-then-target_a-target_b-2
returns-then-target_a-target_b-2 c = sym (equal-targets coordinate_bound c.args.center c.args.target_a c.args.target_b c.requires.t_2 c.requires.t_3 c.if-target_a-target_b.true c.if-target_a-target_b-2.true)

-- the answer of `cmp` is the order of the numbers
cmp-compare : (m n : ℕ) → order_of (nat_cmp m n) ≡ compare m n
cmp-compare m n =
    elim (tri m n) [
      | less h ↦ ap order_of (sym (nat_cmp_is m n Less h)) ∙ sym (compare_lt m n h)
      | same h ↦ ap order_of (sym (nat_cmp_is m n Equal h)) ∙ sym (compare_eq m n h)
      | more h ↦ ap order_of (sym (nat_cmp_is m n Greater h)) ∙ sym (compare_gt m n h)
    ]

-- an order that is not equal decides
decides : (r : CmpOrdering) (o : Ordering) → is_ne r ≡ true → order_of r ≡ and_then (order_of r) o
decides Less o e = refl
decides Equal o e = absurd (true_is_false (sym e))
decides Greater o e = refl

-- and one that is leaves it to what follows
left_over : (r : CmpOrdering) → is_ne r ≡ false → order_of r ≡ Ordering.eq
left_over Less e = absurd (true_is_false e)
left_over Equal e = refl
left_over Greater e = absurd (true_is_false e)

-- the quadrants are one where `cmp` answers that they are
one-quadrant : (m n q r : ℕ) (o : CmpOrdering) → m ≡ q → n ≡ r → o ≡ nat_cmp m n → is_ne o ≡ false → q ≡ r
one-quadrant m n q r o e f g h = sym e ∙ eq_compare m n (sym (cmp-compare m n) ∙ ap order_of (sym g) ∙ left_over o h) ∙ f

pub returns-then-is_ne : goal.returns-then-is_ne
returns-then-is_ne c =
    let a = c.args in
    let center = point_of_coord a.center in
    let s = point_of_coord a.target_a in
    let t = point_of_coord a.target_b in
    let o : compare (quadrant_of center s) (quadrant_of center t) ≡ order_of c.cmp-by_quadrant.result =
    sym (ap₂ compare c.quadrant.ensures c.quadrant-2.ensures) ∙ sym (cmp-compare _ _) ∙ ap order_of (sym c.cmp-by_quadrant.ensures) in
    decides c.cmp-by_quadrant.result _ (sym c.is_ne.ensures ∙ c.if-is_ne.true) ∙ sym (order_by_quadrant center s t (order_of c.cmp-by_quadrant.result) o)

pub returns-then-orient : goal.returns-then-orient
unfolding of_bits
returns-then-orient c =
    sym (order_by_orientation (point_of_coord c.args.center) (point_of_coord c.args.target_a) (point_of_coord c.args.target_b) Ordering.lt (one-quadrant _ _ _ _ _ c.quadrant.ensures c.quadrant-2.ensures c.cmp-by_quadrant.ensures (sym c.is_ne.ensures ∙ c.if-is_ne.false))
    (float_lt zero_whole c.orient2d-orient.ensures c.if-orient.true))

pub returns-then-orient-2 : goal.returns-then-orient-2
unfolding of_bits
returns-then-orient-2 c =
    sym (order_by_orientation (point_of_coord c.args.center) (point_of_coord c.args.target_a) (point_of_coord c.args.target_b) Ordering.gt (one-quadrant _ _ _ _ _ c.quadrant.ensures c.quadrant-2.ensures c.cmp-by_quadrant.ensures (sym c.is_ne.ensures ∙ c.if-is_ne.false))
    (float_gt zero_whole c.orient2d-orient.ensures c.if-orient.false c.if-orient-2.true))

pub returns : goal.returns
unfolding of_bits
returns c =
    c.compare_distances.ensures
    ∙ sym (order_by_orientation (point_of_coord c.args.center) (point_of_coord c.args.target_a) (point_of_coord c.args.target_b) Ordering.eq (one-quadrant _ _ _ _ _ c.quadrant.ensures c.quadrant-2.ensures c.cmp-by_quadrant.ensures (sym c.is_ne.ensures ∙ c.if-is_ne.false))
    (float_eq zero_whole c.orient2d-orient.ensures c.if-orient.false c.if-orient-2.false))
