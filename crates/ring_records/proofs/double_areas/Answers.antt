use Prim.Native.Nat.{◌<◌}
use native.Mathlib.Omega.{arith}
use mathlib.Core.Path.{refl, ◌∙◌}
use lib.IntN.{pos}
use lib.ListN.{length, get_or, set, length-set}
use mir.Syntax.{w64}
use mir.Val.{to_z, of_z}
use Rattle.file_rules.proofs.Signs.{back}
use Rattle.tables.proofs.Writing.{over_more, over-all}
use Rattle.ring_records.proofs.double_areas.Goals as goal

pub loop-i-init : goal.loop-i-init
loop-i-init c = (omega arith, refl, λ zs h e. refl)

pub doubled_area-requires : goal.doubled_area-requires
doubled_area-requires c = let p = c.requires.1 in (get_or p.0 c.loop-i.i (pos 0), p.1.each c.loop-i.i (omega (arith, p.2, c.loop-i-test.true)))

pub loop-i-preserved : goal.loop-i-preserved
loop-i-preserved c =
    let q = c.loop-i in
    let low = c.loop-i-test.true in
    let d = c.doubled_area in (
      omega arith,
      length-set q.to q.i (to_z w64 (of_z w64 d.result)) ∙ q.invariant.1,
      λ zs h e. let here : q.i < length zs = omega (arith, e, low) in
          (λ j. set (q.invariant.2 zs h e j) q.i ((back d.result d.type_inv ∙ d.ensures (get_or zs q.i (pos 0)) (h.each q.i here)) j))
          ∙ over_more zs c.args.to.now q.i (pos 0) here (omega (arith, low, c.requires.0)),
    )

pub returns : goal.returns
returns c =
    λ zs h e.
    let q = c.loop-i in
    q.invariant.2 zs h e ∙ over-all zs c.args.to.now q.i (omega (arith, e))
