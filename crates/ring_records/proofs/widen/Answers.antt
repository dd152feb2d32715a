use native.Mathlib.Omega.{arith}
use mathlib.Core.Path.{refl, ◌∙◌}
use lib.ListN.{set, length-set}
use Rattle.tables.proofs.Writing.{over_more, over-all}
use Rattle.ring_records.proofs.Records.{whole}
use Rattle.ring_records.proofs.widen.Goals as goal

pub loop-i-init : goal.loop-i-init
loop-i-init c = (omega arith, refl, refl)

pub loop-i-preserved : goal.loop-i-preserved
loop-i-preserved c =
    let q = c.loop-i in
    let a = c.args in (
      omega arith,
      length-set q.to q.i c.from.result ∙ q.invariant.1,
      (λ j. set (q.invariant.2 j) q.i (c.from.ensures j)) ∙ over_more a.from.now a.to.now q.i 0 (omega arith) (omega arith),
    )

pub returns : goal.returns
returns c =
    let q = c.loop-i in
    let a = c.args in
    q.invariant.2 ∙ over-all a.from.now a.to.now q.i (omega arith) ∙ whole a.from.now a.to.now (omega arith)
