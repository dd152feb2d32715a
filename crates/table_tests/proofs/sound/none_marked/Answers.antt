use native.Mathlib.Omega.{arith}
use mathlib.Core.Path.{refl, ap}
use mathlib.Core.Bool.{not}
use Rattle.table_tests.specs.Tests.{unmarked}
use Rattle.table_tests.proofs.Testing.{all-next, all_found}
use Rattle.table_tests.proofs.sound.none_marked.Goals as goal

pub loop-i-init : goal.loop-i-init
loop-i-init c = (omega arith, refl)

pub loop-i-preserved : goal.loop-i-preserved
loop-i-preserved c =
    let a = c.args in
    (omega arith, all-next (unmarked a.marks.now) c.loop-i.i _ _ c.loop-i.invariant.1 (ap not c.is_marked.ensures))

pub returns : goal.returns
returns c =
    let a = c.args in
    all_found (unmarked a.marks.now) a.count c.loop-i.i _ (omega arith) c.loop-i.invariant.1
