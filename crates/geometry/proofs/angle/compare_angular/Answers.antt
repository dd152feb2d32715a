-- `compare_angular` meets its contract: the three tests are those of `comparison`, and where they pass `compare_targets` answers.
use Rattle.std.proofs.Common.{◌≡◌, ℕ, Bool, true, false, cond, ◌&&◌, sym, ap, ◌∙◌}
use mathlib.Core.Bool.{and-false}
use Prim.Native.Nat.{Ordering}
use Rattle.geometry.specs.Coordinate.{coordinate_bound}
use Rattle.geometry.specs.Angle.{planar, point_of_coord, angle_order}
use Rattle.geometry.specs.Reply.{Reply, refused, success}
use Rattle.geometry.specs.Comparison.{comparison}
use Rattle.geometry.specs.declared.Coord3D.{Coord3D}
use Rattle.geometry.proofs.angle.compare_angular.Goals as goal
use Rattle.geometry.proofs.angle.compare_angular.Goals.{else-is_planar-via-then-is_planar+then-is_planar-2+else-is_planar-3, else-is_planar-via-then-is_planar+else-is_planar-2, else-is_planar-via-else-is_planar}

module _ (bound : ℕ) (c a b : Coord3D) where
  abbrev answer : Reply Ordering
  answer = success (angle_order (point_of_coord c) (point_of_coord a) (point_of_coord b))

  accepted : planar bound c ≡ true → planar bound a ≡ true → planar bound b ≡ true → answer ≡ comparison bound c a b
  unfolding comparison
  accepted p q r = sym (λ i. cond (p i && (q i && r i)) answer (refused 1))

  turned_down : (planar bound c && (planar bound a && planar bound b)) ≡ false → refused 1 ≡ comparison bound c a b
  unfolding comparison
  turned_down e = sym (ap (λ (t : Bool). cond t answer (refused 1)) e)

  -- the first point that fails decides
  no-centre : planar bound c ≡ false → refused 1 ≡ comparison bound c a b
  no-centre p = turned_down (ap (λ (t : Bool). t && (planar bound a && planar bound b)) p)

  no-first : planar bound a ≡ false → refused 1 ≡ comparison bound c a b
  no-first p = turned_down (ap (λ (t : Bool). planar bound c && (t && planar bound b)) p ∙ and-false (planar bound c))

  no_second : planar bound b ≡ false → refused 1 ≡ comparison bound c a b
  no_second p =
      turned_down (ap (λ (t : Bool). planar bound c && (planar bound a && t)) p ∙ ap (λ (t : Bool). planar bound c && t) (and-false (planar bound a)) ∙ and-false (planar bound c))

pub returns-then-is_planar-3 : goal.returns-then-is_planar-3
returns-then-is_planar-3 c =
    let a = c.args in
    ap success c.compare_targets.ensures
    ∙ accepted coordinate_bound a.center a.target_a a.target_b
    (sym c.is_planar.ensures ∙ c.if-is_planar.true)
    (sym c.is_planar-then-is_planar.ensures ∙ c.if-is_planar-2.true)
    (sym c.is_planar-then-is_planar-2.ensures ∙ c.if-is_planar-3.true)

pub returns-else-is_planar : goal.returns-else-is_planar
returns-else-is_planar c =
    let a = c.args in
    elim c.else-is_planar.branch [
      | else-is_planar-via-then-is_planar+then-is_planar-2+else-is_planar-3 w ↦
          no_second coordinate_bound a.center a.target_a a.target_b (sym w.is_planar-then-is_planar-2.ensures ∙ w.if-is_planar-3.false)
      | else-is_planar-via-then-is_planar+else-is_planar-2 w ↦
          no-first coordinate_bound a.center a.target_a a.target_b (sym w.is_planar-then-is_planar.ensures ∙ w.if-is_planar-2.false)
      | else-is_planar-via-else-is_planar w ↦ no-centre coordinate_bound a.center a.target_a a.target_b (sym c.is_planar.ensures ∙ w.if-is_planar.false)
    ]
