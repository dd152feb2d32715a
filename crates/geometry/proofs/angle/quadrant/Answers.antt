-- `quadrant` meets its contract: its tests on floats are the tests of `quadrant_of` on the integers that the floats are.
use Rattle.std.proofs.Common.{◌≡◌, Bool, true, false, ◌&&◌, T, pos, sym, ap, ◌∙◌, arith}
use lib.Ieee.{Float, fin, binary64, sub, lt, le, of_bits}
use Rattle.geometry.specs.Angle.{planar, quadrant_of, point_of_coord}
use Rattle.geometry.specs.Coordinate.{coordinate_bound}
use Rattle.geometry.specs.declared.Coord3D.{Coord3D}
use Rattle.geometry.proofs.Steps.{step-x, step-y, pick, float_pick, quarter_exact}
use Rattle.lists.proofs.Tests.{both_true, no_left, no_right}
use Rattle.geometry.proofs.angle.quadrant.Goals as goal
use Rattle.geometry.proofs.angle.quadrant.Goals.{else-dx-via-then-dx+else-dy, else-dx-via-else-dx, else-dx-2-via-then-dx-2+else-dy-2, else-dx-2-via-else-dx-2, else-dx-3-via-then-dx-3+else-dy-3, else-dx-3-via-else-dx-3}

abbrev zero : Float
zero = fin false 0 (pos 0)

-- the differences of two points, as floats
abbrev dx : Coord3D → Coord3D → Float
dx c t = sub binary64 t.x c.x

abbrev dy : Coord3D → Coord3D → Float
dy c t = sub binary64 t.y c.y

exact : (c t : Coord3D) → T (planar coordinate_bound c) → T (planar coordinate_bound t)
    → float_pick (dx c t) (dy c t) ≡ quadrant_of (point_of_coord c) (point_of_coord t)
unfolding quadrant_of
exact c t on-c on-t =
    quarter_exact
    (step-x coordinate_bound (omega arith) c t on-c on-t).whole
    (step-y coordinate_bound (omega arith) c t on-c on-t).whole

-- each answer, from the tests that led to it
module _ (x y : Float) where
  abbrev test1 : Bool
  test1 = lt zero x && le zero y

  abbrev test2 : Bool
  test2 = le x zero && lt zero y

  abbrev test3 : Bool
  test3 = lt x zero && le y zero

  answer0 : test1 ≡ true → 0 ≡ float_pick x y
  answer0 e = sym (ap (λ (t : Bool). pick t test2 test3) e)

  answer1 : test1 ≡ false → test2 ≡ true → 1 ≡ float_pick x y
  answer1 e f = sym (λ i. pick (e i) (f i) test3)

  answer2 : test1 ≡ false → test2 ≡ false → test3 ≡ true → 2 ≡ float_pick x y
  answer2 e f g = sym (λ i. pick (e i) (f i) (g i))

  answer3 : test1 ≡ false → test2 ≡ false → test3 ≡ false → 3 ≡ float_pick x y
  answer3 e f g = sym (λ i. pick (e i) (f i) (g i))

pub returns-then-dy : goal.returns-then-dy
unfolding of_bits
returns-then-dy c =
    let x = dx c.args.c c.args.t in
    let y = dy c.args.c c.args.t in
    answer0 x y (both_true (lt zero x) (le zero y) c.if-dx.true c.if-dy.true) ∙ exact c.args.c c.args.t c.requires.t c.requires.t_2

pub returns-then-dy-2 : goal.returns-then-dy-2
unfolding of_bits
returns-then-dy-2 c =
    let x = dx c.args.c c.args.t in
    let y = dy c.args.c c.args.t in
    let first : test1 x y ≡ false = elim c.else-dx.branch [
      | else-dx-via-then-dx+else-dy w ↦ no_right (lt zero x) (le zero y) w.if-dy.false
      | else-dx-via-else-dx w ↦ no_left (lt zero x) (le zero y) w.if-dx.false
    ] in
    answer1 x y first (both_true (le x zero) (lt zero y) c.if-dx-2.true c.if-dy-2.true) ∙ exact c.args.c c.args.t c.requires.t c.requires.t_2

pub returns-then-dy-3 : goal.returns-then-dy-3
unfolding of_bits
returns-then-dy-3 c =
    let x = dx c.args.c c.args.t in
    let y = dy c.args.c c.args.t in
    let first : test1 x y ≡ false = elim c.else-dx.branch [
      | else-dx-via-then-dx+else-dy w ↦ no_right (lt zero x) (le zero y) w.if-dy.false
      | else-dx-via-else-dx w ↦ no_left (lt zero x) (le zero y) w.if-dx.false
    ] in
    let second : test2 x y ≡ false = elim c.else-dx-2.branch [
      | else-dx-2-via-then-dx-2+else-dy-2 w ↦ no_right (le x zero) (lt zero y) w.if-dy-2.false
      | else-dx-2-via-else-dx-2 w ↦ no_left (le x zero) (lt zero y) w.if-dx-2.false
    ] in
    answer2 x y first second (both_true (lt x zero) (le y zero) c.if-dx-3.true c.if-dy-3.true) ∙ exact c.args.c c.args.t c.requires.t c.requires.t_2

pub returns-else-dx-3 : goal.returns-else-dx-3
unfolding of_bits
returns-else-dx-3 c =
    let x = dx c.args.c c.args.t in
    let y = dy c.args.c c.args.t in
    let first : test1 x y ≡ false = elim c.else-dx.branch [
      | else-dx-via-then-dx+else-dy w ↦ no_right (lt zero x) (le zero y) w.if-dy.false
      | else-dx-via-else-dx w ↦ no_left (lt zero x) (le zero y) w.if-dx.false
    ] in
    let second : test2 x y ≡ false = elim c.else-dx-2.branch [
      | else-dx-2-via-then-dx-2+else-dy-2 w ↦ no_right (le x zero) (lt zero y) w.if-dy-2.false
      | else-dx-2-via-else-dx-2 w ↦ no_left (le x zero) (lt zero y) w.if-dx-2.false
    ] in
    let third : test3 x y ≡ false = elim c.else-dx-3.branch [
      | else-dx-3-via-then-dx-3+else-dy-3 w ↦ no_right (lt x zero) (le y zero) w.if-dy-3.false
      | else-dx-3-via-else-dx-3 w ↦ no_left (lt x zero) (le y zero) w.if-dx-3.false
    ] in
    answer3 x y first second third ∙ exact c.args.c c.args.t c.requires.t c.requires.t_2
