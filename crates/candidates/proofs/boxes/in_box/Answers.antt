-- `in_box` meets its contract: one test for each side of the box.
use native.Mathlib.Omega.{arith}
use mathlib.Core.Path.{◌≡◌, refl, sym, ap, ◌∙◌}
use lib.Signed.{lt_z}
use mathlib.Core.Bool.{true, false, not}
use Rattle.candidates.specs.Candidates.{number_at}
use Rattle.candidates.proofs.Numbers.{compared}
use Rattle.candidates.proofs.boxes.in_box.Goals as goal

pub returns-then-x-numbers : goal.returns-then-x-numbers
returns-then-x-numbers c =
    let a = c.args in
    let e : lt_z a.x (number_at a.numbers.now a.j 0) ≡ true = sym (compared c.args.x (number_at c.args.numbers.now c.args.j 0) c.ranges.x (record { sfits = omega arith })) ∙ c.if-x-numbers.true in
    rw e refl

pub returns-then-numbers-place : goal.returns-then-numbers-place
returns-then-numbers-place c =
    let a = c.args in
    let e : lt_z (number_at a.numbers.now a.j 1) a.x ≡ true = sym (compared (number_at c.args.numbers.now c.args.j 1) c.args.x (record { sfits = omega arith }) c.ranges.x) ∙ c.if-numbers-place.true in
    rw ((sym (compared c.args.x (number_at c.args.numbers.now c.args.j 0) c.ranges.x (record { sfits = omega arith })) ∙ c.if-x-numbers.false), e) refl

pub returns-then-y-numbers : goal.returns-then-y-numbers
returns-then-y-numbers c =
    let a = c.args in
    let e : lt_z a.y (number_at a.numbers.now a.j 2) ≡ true = sym (compared c.args.y (number_at c.args.numbers.now c.args.j 2) c.ranges.y (record { sfits = omega arith })) ∙ c.if-y-numbers.true in
    rw ((sym (compared c.args.x (number_at c.args.numbers.now c.args.j 0) c.ranges.x (record { sfits = omega arith })) ∙ c.if-x-numbers.false), (sym (compared (number_at c.args.numbers.now c.args.j 1) c.args.x (record { sfits = omega arith }) c.ranges.x) ∙ c.if-numbers-place.false), e) refl

pub returns : goal.returns
returns c =
    let a = c.args in
    let e : lt_z a.y (number_at a.numbers.now a.j 2) ≡ false = sym (compared c.args.y (number_at c.args.numbers.now c.args.j 2) c.ranges.y (record { sfits = omega arith })) ∙ c.if-y-numbers.false in
    let last = compared (number_at a.numbers.now a.j 3) a.y (record { sfits = omega arith }) c.ranges.y in
    rw ((sym (compared c.args.x (number_at c.args.numbers.now c.args.j 0) c.ranges.x (record { sfits = omega arith })) ∙ c.if-x-numbers.false), (sym (compared (number_at c.args.numbers.now c.args.j 1) c.args.x (record { sfits = omega arith }) c.ranges.x) ∙ c.if-numbers-place.false), e) (ap not last)
