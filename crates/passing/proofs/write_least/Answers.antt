use Prim.Native.Nat.{◌+◌, ◌<◌}
use native.Mathlib.Omega.{arith}
use mathlib.Core.Path.{◌≡◌, refl, sym, ap, subst, ◌∙◌}
use lib.ListN.{length, length-set}
use mir.Syntax.{w64}
use mir.Val.{to_z, of_z}
use mir.ValLaws.{to_z-of_z}
use Rattle.std.specs.Int.{int_min}
use Rattle.passing.specs.Passing.{LeastAreas}
use Rattle.passing.proofs.Passes.{NoneBelow, lowest-min, least_more}
use Rattle.passing.proofs.write_least.Goals as goal

pub loop-k-init : goal.loop-k-init
loop-k-init c = (omega arith, refl, λ i h. absurd (omega arith), λ i k h low. absurd (omega arith))

pub number_at-requires : goal.number_at-requires
number_at-requires c = (c.requires.0, c.loop-k-test.true, omega arith)

pub bounds-least-k : goal.bounds-least-k
bounds-least-k c = let q = c.loop-k in omega (arith, c.loop-k-test.true, q.invariant.1, c.requires.1)

pub loop-k-preserved : goal.loop-k-preserved
loop-k-preserved c =
    let a = c.args in
    let q = c.loop-k in
    let d = c.number_at in
    let m = c.min-lowest in
    let low = to_z w64 q.lowest-bits in
    let stored = to_z w64 (of_z w64 m.result) in
    let read : to_z w64 (of_z w64 d.result) ≡ d.result = to_z-of_z w64 d.result (record { sfits = d.type_inv }) in
    let kept : stored ≡ m.result = to_z-of_z w64 m.result (record { sfits = m.type_inv }) in
    let room : q.k < length q.least = omega (arith, c.loop-k-test.true, q.invariant.1, c.requires.1) in
    let lowered : NoneBelow a.numbers.now a.order.now (q.k + 1) stored =
    subst (NoneBelow a.numbers.now a.order.now (q.k + 1)) (sym (kept ∙ m.ensures.value ∙ ap (int_min low) read))
    (lowest-min a.numbers.now a.order.now q.k low d.result d.ensures q.invariant.2) in (
      omega (arith, c.loop-k-test.true),
      length-set q.least q.k stored ∙ q.invariant.1,
      lowered,
      least_more a.numbers.now a.order.now q.k q.least stored room lowered q.invariant.3,
    )

pub returns : goal.returns
returns c =
    let a = c.args in
    let q = c.loop-k in
    let all : q.k ≡ a.count = omega (arith, q.invariant.0, c.loop-k-test.false) in
    subst (λ n. LeastAreas a.numbers.now a.order.now n q.least) all q.invariant.3
