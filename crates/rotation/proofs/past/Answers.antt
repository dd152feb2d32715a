-- `rotation::past` meets its contract.
-- Assumes nothing.
use borrow.Author.Tests.{eq-eqb, ne_eqb}
use Prim.Native.Nat.{◌+◌}
use native.Mathlib.Omega.{arith}
use mathlib.Core.Path.{◌≡◌}
use Rattle.rotation.specs.Steps.{moved_past}
use Rattle.rotation.proofs.past.Goals as goal

pub returns-then-next-other : goal.returns-then-next-other
unfolding moved_past
returns-then-next-other c =
    let a = c.args in
    let e : a.candidate + a.offset + 1 ≡ a.other = omega arith in
    rw (eq-eqb (a.candidate + a.offset + 1) a.other e) (omega arith)

pub returns : goal.returns
unfolding moved_past
returns c =
    let a = c.args in
    let d : a.candidate + a.offset + 1 ≡ a.other → ⊥ = omega arith in
    rw (ne_eqb (a.candidate + a.offset + 1) a.other d) (omega arith)
