use native.Mathlib.Omega.{arith}
use mathlib.Core.Path.{refl}
use Rattle.table_tests.proofs.Testing.{all-next, all_found}
use Rattle.lent_marks.specs.Marks.{mark_at_lem}
use Rattle.lent_marks.proofs.checks.are_marks.Goals as goal

pub loop-i-init : goal.loop-i-init
loop-i-init c = (omega arith, refl)

pub loop-i-preserved : goal.loop-i-preserved
loop-i-preserved c =
    let bytes = c.args.bytes.now in
    (omega arith, all-next (mark_at_lem bytes) c.loop-i.i _ _ c.loop-i.invariant.1 refl)

pub returns : goal.returns
returns c =
    let a = c.args in
    all_found (mark_at_lem a.bytes.now) a.count c.loop-i.i _ (omega arith) c.loop-i.invariant.1
