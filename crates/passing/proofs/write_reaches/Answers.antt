use Prim.Native.Nat.{◌<◌}
use native.Mathlib.Omega.{arith}
use mathlib.Core.Path.{◌≡◌, refl, subst, ◌∙◌}
use lib.ListN.{length, length-set}
use Rattle.passing.specs.Passing.{Reaches}
use Rattle.passing.proofs.Passes.{reaches_more}
use Rattle.passing.proofs.write_reaches.Goals as goal
use Rattle.passing.proofs.write_reaches.Goals.{After-reach_back-from}

pub loop-k-init : goal.loop-k-init
loop-k-init c = (omega arith, refl, record { back = λ k h. absurd (omega arith); within = λ k h. absurd (omega arith) })

pub reach_back-from-requires : goal.reach_back-from-requires
reach_back-from-requires c =
    let q = c.loop-k in
    (c.requires.0, c.loop-k-test.true, omega (arith, q.invariant.0, q.invariant.1, c.requires.1), q.invariant.2)

-- there is room for one more
room : (c : After-reach_back-from) → c.loop-k.k < length c.loop-k.reaches
room c = let q = c.loop-k in omega (arith, c.loop-k-test.true, q.invariant.1, c.requires.1)

pub bounds-reaches-k : goal.bounds-reaches-k
bounds-reaches-k c = room (goal.at.bounds-reaches-k c).After-reach_back-from

pub loop-k-preserved : goal.loop-k-preserved
loop-k-preserved c =
    let a = c.args in
    let q = c.loop-k in
    let r = c.reach_back-from in (
      omega (arith, c.loop-k-test.true),
      length-set q.reaches q.k r.result ∙ q.invariant.1,
      reaches_more a.numbers.now a.order.now q.k r.result q.reaches (room (goal.at.loop-k-preserved c).After-reach_back-from) r.ensures.0 r.ensures.1 q.invariant.2,
    )

pub returns : goal.returns
returns c =
    let a = c.args in
    let q = c.loop-k in
    let all : q.k ≡ a.count = omega (arith, q.invariant.0, c.loop-k-test.false) in
    subst (λ n. Reaches a.numbers.now a.order.now n q.reaches) all q.invariant.2
