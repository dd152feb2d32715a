use native.Mathlib.Omega.{arith}
use native.Mathlib.Numerals.{add-one}
use mathlib.Core.Path.{refl, sym, ap, ◌∙◌}
use mathlib.Core.Bool.{false}
use lib.ListN.{get_or, take, set, length-set}
use lib.Seq.{take_all}
use Rattle.lent_marks.specs.Marks.{blend, blended}
use Rattle.lent_marks.proofs.Blending.{blended_more}
use Rattle.lent_marks.proofs.rows.write_marks.Goals as goal

pub loop-i-init : goal.loop-i-init
loop-i-init c = (omega arith, refl, refl)

pub loop-i-preserved : goal.loop-i-preserved
loop-i-preserved c =
    let a = c.args in
    let row = a.row.now in
    let at = c.loop-i.i in (
      omega arith,
      simp length-set c.loop-i.invariant.1,
      ap (set c.loop-i.bytes at) c.with_mark.ensures
          ∙ ap (λ t. set t at (blend (get_or row at false) (get_or t at 0))) c.loop-i.invariant.2
          ∙ blended_more row a.bytes.now at (omega arith) (omega arith)
          ∙ ap (λ n. blended (take n row) a.bytes.now) (sym (add-one at)),
    )

pub returns : goal.returns
returns c =
    let a = c.args in
    c.loop-i.invariant.2 ∙ ap (λ r. blended r a.bytes.now) (take_all c.loop-i.i a.row.now (omega arith))
