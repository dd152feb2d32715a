-- `rest_is_larger` meets its contract: by whether there is a best, then by the areas.
use native.Mathlib.Omega.{arith}
use mathlib.Core.Path.{refl, ap, ◌∙◌}
use borrow.Author.Tests.{eq-eqb, ne_eqb}
use lib.IntN.{pos}
use lib.ListN.{get_or}
use lib.Signed.{lt_z}
use Rattle.candidates.proofs.Numbers.{compared}
use Rattle.passing.proofs.rest_is_larger.Goals as goal

pub returns-then-best-count : goal.returns-then-best-count
returns-then-best-count c = let a = c.args in rw (eq-eqb a.best a.count c.if-best-count.true) refl

pub bounds-least-k : goal.bounds-least-k
bounds-least-k c = c.requires.2

pub returns : goal.returns
returns c =
    let a = c.args in
    let d = c.doubled_of in
    let other = get_or a.least.now a.k (pos 0) in
    rw (ne_eqb a.best a.count c.if-best-count.false) (compared d.result other (record { sfits = d.type_inv }) (record { sfits = omega arith }) ∙ ap (λ z. lt_z z other) d.ensures)
