use Prim.Native.Nat.{◌-◌}
use native.Mathlib.Omega.{arith}
use mathlib.Core.Path.{◌≡◌, sym, ap₂, subst, ◌∙◌}
use mathlib.Core.Bool.{false}
use lib.Signed.{lt_z}
use Rattle.candidate_order.specs.Order.{number_in}
use Rattle.passing.specs.Passing.{Within}
use Rattle.candidates.proofs.Numbers.{compared}
use Rattle.passing.proofs.Passes.{within_self, within-back}
use Rattle.passing.proofs.reach_back.Goals as goal

pub number_at-right-requires : goal.number_at-right-requires
number_at-right-requires c = (c.requires.0, c.requires.1, omega arith)

pub loop-from-init : goal.loop-from-init
loop-from-init c = let a = c.args in (omega arith, within_self a.numbers.now a.order.now a.k)

pub number_at-requires : goal.number_at-requires
number_at-requires c = (c.requires.0, omega (arith, c.loop-from-test.true, c.loop-from.invariant.0, c.requires.1), omega arith)

pub returns-then-right-number_at : goal.returns-then-right-number_at
returns-then-right-number_at c = c.loop-from.invariant

pub loop-from-preserved : goal.loop-from-preserved
loop-from-preserved c =
    let a = c.args in
    let q = c.loop-from in
    let last = q.from - 1 in
    let mine = c.number_at-right in
    let other = c.number_at in
    let short : lt_z (number_in a.numbers.now a.order.now a.k 1) (number_in a.numbers.now a.order.now last 1) ≡ false =
    sym (compared mine.result other.result (record { sfits = mine.type_inv }) (record { sfits = other.type_inv }) ∙ ap₂ lt_z mine.ensures other.ensures) ∙ c.if-right-number_at.false in (
      omega (arith, q.invariant.0, c.from-from.ensures, c.requires.3.back last (omega (arith, c.loop-from-test.true, c.loop-from.invariant.0))),
      within-back a.numbers.now a.order.now a.k q.from last (omega (arith, c.loop-from-test.true)) short c.from-from.result
          (subst (λ v. Within a.numbers.now a.order.now v last) (sym c.from-from.ensures) (c.requires.3.within last (omega (arith, c.loop-from-test.true, c.loop-from.invariant.0)))) q.invariant.1,
    )

pub returns : goal.returns
returns c =
    let a = c.args in
    let q = c.loop-from in
    let none : q.from ≡ 0 = omega (arith, c.loop-from-test.false) in
    (omega arith, subst (λ v. Within a.numbers.now a.order.now v a.k) none q.invariant.1)
