-- `line_meets` meets its contract: its tests are those of `on_line_lem` and `crosses_right`, once the words are read as integers.
use Rattle.std.proofs.Common.{◌≡◌, true, false, not, ◌&&◌, eqb, pos, sym, ap, ◌∙◌, w64, of_z}
use mathlib.Core.Bool.{beq}
use lib.Signed.{lt_z, le_z}
use mir.ValLaws.{to_z-of_z}
use Rattle.geometry.specs.Coordinate.{eq_z}
use Rattle.geometry.specs.Angle.{orientation}
use Rattle.rules.specs.Holes.{between, crosses_right}
use Rattle.inside.specs.Spots.{spot}
use Rattle.inside.specs.Meeting.{meets_by, meets_of}
use Rattle.inside.proofs.Words.{word}
use Rattle.inside.proofs.Meetings.{zero_test, meets_beside, meets_on, meets_off}
use Rattle.inside.proofs.lines.line_meets.Goals as goal
use Rattle.inside.proofs.lines.line_meets.Goals.{After-is_between, After-is_between-2}

-- the first test, in integers
level : (c : After-is_between) → c.is_between.result ≡ between c.args.ay c.args.by c.args.py
level c =
    let f = c.ranges in
    c.is_between.ensures ∙ (λ i. between (to_z-of_z w64 c.args.ay f.ay i) (to_z-of_z w64 c.args.by f.by i) (to_z-of_z w64 c.args.py f.py i))

-- the orientation
turn_is : (c : After-is_between-2) → c.orient-turn.result ≡ orientation (spot c.args.ax c.args.ay) (spot c.args.bx c.args.by) (spot c.args.px c.args.py)
turn_is c =
    let a = c.args in
    let f = c.ranges in
    c.orient-turn.ensures
    ∙ (λ i. orientation
    (spot (to_z-of_z w64 a.ax f.ax i) (to_z-of_z w64 a.ay f.ay i))
    (spot (to_z-of_z w64 a.bx f.bx i) (to_z-of_z w64 a.by f.by i))
    (spot (to_z-of_z w64 a.px f.px i) (to_z-of_z w64 a.py f.py i)))

-- the second test
on_line : (c : After-is_between-2)
    → (eqb (of_z w64 c.orient-turn.result) 0 && c.is_between-2.result)
    ≡ (eq_z (orientation (spot c.args.ax c.args.ay) (spot c.args.bx c.args.by) (spot c.args.px c.args.py)) (pos 0) && between c.args.ax c.args.bx c.args.px)
on_line c =
    let a = c.args in
    let f = c.ranges in
    let zero = zero_test c.orient-turn.result (record { sfits = c.orient-turn.type_inv }) ∙ ap (λ z. eq_z z (pos 0)) (turn_is c) in
    let along = c.is_between-2.ensures ∙ (λ i. between (to_z-of_z w64 a.ax f.ax i) (to_z-of_z w64 a.bx f.bx i) (to_z-of_z w64 a.px f.px i)) in
    λ i. zero i && along i

-- the third
crossing : (c : After-is_between-2)
    → (not (beq (le_z (word c.args.ay) (word c.args.py)) (le_z (word c.args.by) (word c.args.py)))
    && beq (lt_z (pos 0) (word c.orient-turn.result)) (lt_z (word c.args.ay) (word c.args.by)))
    ≡ crosses_right (spot c.args.ax c.args.ay) (spot c.args.bx c.args.by) (spot c.args.px c.args.py)
unfolding crosses_right
crossing c =
    let a = c.args in
    let f = c.ranges in
    let ay = to_z-of_z w64 a.ay f.ay in
    let by = to_z-of_z w64 a.by f.by in
    let py = to_z-of_z w64 a.py f.py in
    let turn = to_z-of_z w64 c.orient-turn.result (record { sfits = c.orient-turn.type_inv }) ∙ turn_is c in
    λ i. not (beq (le_z (ay i) (py i)) (le_z (by i) (py i))) && beq (lt_z (pos 0) (turn i)) (lt_z (ay i) (by i))

pub returns-then-not-is_between : goal.returns-then-not-is_between
returns-then-not-is_between c =
    let k = (goal.at.returns-then-not-is_between c).After-is_between in
    sym (meets_beside (spot c.args.ax c.args.ay) (spot c.args.bx c.args.by) (spot c.args.px c.args.py) (sym (level k) ∙ c.if-not-is_between.true))

pub returns-then-turn-is_between : goal.returns-then-turn-is_between
returns-then-turn-is_between c =
    let h = goal.at.returns-then-turn-is_between c in
    sym
    (meets_on
    (spot c.args.ax c.args.ay)
    (spot c.args.bx c.args.by)
    (spot c.args.px c.args.py)
    (sym (level h.After-is_between) ∙ c.if-not-is_between.false)
    (sym (on_line h.After-is_between-2) ∙ c.if-turn-is_between.true))

-- off the line
off : (c : After-is_between-2) → between c.args.ay c.args.by c.args.py ≡ true → (eqb (of_z w64 c.orient-turn.result) 0 && c.is_between-2.result) ≡ false
    → meets_of (spot c.args.ax c.args.ay) (spot c.args.bx c.args.by) (spot c.args.px c.args.py)
    ≡ meets_by false (not (beq (le_z (word c.args.ay) (word c.args.py)) (le_z (word c.args.by) (word c.args.py)))
    && beq (lt_z (pos 0) (word c.orient-turn.result)) (lt_z (word c.args.ay) (word c.args.by)))
off c l n =
    meets_off (spot c.args.ax c.args.ay) (spot c.args.bx c.args.by) (spot c.args.px c.args.py) l (sym (on_line c) ∙ n)
    ∙ ap (meets_by false) (sym (crossing c))

pub returns-then-ay-py : goal.returns-then-ay-py
returns-then-ay-py c =
    let h = goal.at.returns-then-ay-py c in
    sym (off h.After-is_between-2 (sym (level h.After-is_between) ∙ c.if-not-is_between.false) c.if-turn-is_between.false ∙ ap (meets_by false) c.if-ay-py.true)

pub returns : goal.returns
returns c =
    let h = goal.at.returns c in
    sym (off h.After-is_between-2 (sym (level h.After-is_between) ∙ c.if-not-is_between.false) c.if-turn-is_between.false ∙ ap (meets_by false) c.if-ay-py.false)
