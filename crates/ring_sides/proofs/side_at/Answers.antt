-- The number at the place tells which side it is, where both lists have one.
use Prim.Native.Nat.{ℕ, ◌<◌}
use native.Mathlib.Omega.{arith}
use mathlib.Core.Path.{◌≡◌, refl, sym, ap, ◌∙◌}
use lib.Ieee.{nan}
use lib.ListN.{get_or}
use Rattle.ring_sides.specs.Sides.{side_from, side_at_lem}
use Rattle.ring_sides.proofs.Reading.{no_side, past-sides, past-areas, within-lists}
use Rattle.ring_sides.proofs.side_at.Goals as goal
use Rattle.ring_sides.proofs.side_at.Goals.{Else-ring_area-i}

pub returns-then-ring_side-i : goal.returns-then-ring_side-i
returns-then-ring_side-i c = let a = c.args in sym (past-sides a.ring_side.now a.ring_area.now a.i c.if-ring_side-i.true)

pub returns-then-ring_area-i : goal.returns-then-ring_area-i
returns-then-ring_area-i c = let a = c.args in sym (past-areas a.ring_side.now a.ring_area.now a.i c.if-ring_area-i.true)

-- within both lists it goes by the number
by_number : (c : Else-ring_area-i) (n : ℕ) → let a = c.args in
    get_or a.ring_side.now a.i 0 ≡ n → side_at_lem a.ring_side.now a.ring_area.now a.i ≡ side_from n (get_or a.ring_area.now a.i nan)
by_number c n e =
    let a = c.args in
    within-lists a.ring_side.now a.ring_area.now a.i (omega (arith, c.if-ring_side-i.false)) (omega (arith, c.if-ring_area-i.false)) ∙ ap (λ k. side_from k (get_or a.ring_area.now a.i nan)) e

pub returns-in-0 : goal.returns-in-0
returns-in-0 c = sym (by_number (goal.at.returns-in-0 c).Else-ring_area-i 0 (omega (arith, c.in-0.is)))

pub returns-in-1 : goal.returns-in-1
returns-in-1 c = sym (by_number (goal.at.returns-in-1 c).Else-ring_area-i 1 (omega (arith, c.in-1.is)))

pub returns-in-2 : goal.returns-in-2
returns-in-2 c = sym (by_number (goal.at.returns-in-2 c).Else-ring_area-i 2 (omega (arith, c.in-2.is)))

pub returns-in_default : goal.returns-in_default
returns-in_default c =
    let a = c.args in
    let n : ℕ = get_or a.ring_side.now a.i 0 in
    let high : 2 < n = omega arith in
    sym (by_number (goal.at.returns-in_default c).Else-ring_area-i n refl ∙ no_side n (get_or a.ring_area.now a.i nan) high)
