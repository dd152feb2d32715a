-- `next_end` meets its contract: where the candidate at k ends to the left of x, so do those that reach no further.
use native.Mathlib.Omega.{arith}
use mathlib.Core.Path.{◌≡◌, sym, ap, subst, ◌∙◌}
use mathlib.Core.Bool.{true}
use lib.Signed.{lt_z}
use Rattle.candidate_order.specs.Order.{number_in}
use Rattle.passing.specs.Passing.{Within}
use Rattle.candidates.proofs.Numbers.{compared}
use Rattle.passing.proofs.Passes.{ends-before}
use Rattle.passing.proofs.next_end.Goals as goal

pub number_at-requires : goal.number_at-requires
number_at-requires c = (c.requires.0, c.requires.3, omega arith)

pub returns-then-number_at-x : goal.returns-then-number_at-x
returns-then-number_at-x c =
    let a = c.args in
    let d = c.number_at in
    let short : lt_z (number_in a.numbers.now a.order.now a.k 1) a.x ≡ true =
    sym (compared d.result a.x (record { sfits = d.type_inv }) c.ranges.x ∙ ap (λ z. lt_z z a.x) d.ensures) ∙ c.if-number_at-x.true in (
      omega (arith, c.from.ensures, c.requires.1.back a.k c.requires.3),
      ends-before a.numbers.now a.order.now a.x c.from.result a.k
          (subst (λ v. Within a.numbers.now a.order.now v a.k) (sym c.from.ensures) (c.requires.1.within a.k c.requires.3)) short,
    )

pub returns : goal.returns
returns c = (omega arith, λ i h g. absurd (omega arith))
