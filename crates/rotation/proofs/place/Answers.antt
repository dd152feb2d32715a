-- `rotation::place` meets its contract.
-- Assumes nothing.
use Prim.Native.Nat.{◌+◌, ◌-◌, ◌<◌}
use native.Mathlib.Omega.{arith}
use native.Mathlib.Nat.{mod-eq_of_lt}
use mathlib.Core.Path.{◌≡◌, sym, ◌∙◌}
use Rattle.rotation.proofs.Around.{mod-past}
use Rattle.rotation.proofs.place.Goals as goal

pub returns-then-offset-rest : goal.returns-then-offset-rest
returns-then-offset-rest c = let a = c.args in let h : a.start + a.offset < a.n = omega arith in sym (mod-eq_of_lt h)

pub returns : goal.returns
returns c = let a = c.args in let e : a.offset - (a.n - a.start) ≡ a.start + a.offset - a.n = omega arith in e ∙ sym (mod-past (a.start + a.offset) a.n (omega arith) (omega arith))
