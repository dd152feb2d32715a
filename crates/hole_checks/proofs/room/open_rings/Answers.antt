use native.Mathlib.Omega.{arith}
use mathlib.Core.Path.{◌≡◌, refl, ap, ◌∙◌}
use lib.ListN.{length, get_or}
use borrow.Author.Tests.{eq-eqb, ne_eqb}
use Rattle.lists.specs.Lists.{bit}
use Rattle.hole_checks.specs.Open.{open_side, open_among}
use Rattle.hole_checks.proofs.Opening.{open_more}
use Rattle.hole_checks.proofs.room.open_rings.Goals as goal
use Rattle.hole_checks.proofs.room.open_rings.Goals.{then-open, else-open}

pub loop-i-init : goal.loop-i-init
loop-i-init c = (omega arith, omega arith, refl)

pub loop-i-preserved : goal.loop-i-preserved
loop-i-preserved c =
    let sides = c.args.ring_side.now in
    let q = c.loop-i in
    let more = open_more sides q.i in
    elim c.if-open.branch [
      | then-open w ↦ (omega arith, omega arith, omega (arith, more, ap bit (eq-eqb (get_or sides q.i 0) open_side w.if-open.true)))
      | else-open w ↦ (omega arith, omega arith, omega (arith, more, ap bit (ne_eqb (get_or sides q.i 0) open_side w.if-open.false)))
    ]

pub returns : goal.returns
returns c =
    let a = c.args in
    let q = c.loop-i in
    let all : q.i ≡ a.count = omega arith in
    q.invariant.2 ∙ ap (λ n. length (open_among a.ring_side.now n)) all
