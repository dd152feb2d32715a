use native.Mathlib.Omega.{arith}
use mathlib.Core.Bool.{◌&&◌}
use mathlib.Core.Path.{refl, ap₂}
use Rattle.rules.specs.Limits.{limits}
use Rattle.table_tests.specs.Tests.{lies_whole}
use Rattle.table_tests.proofs.Testing.{all-next, all_found}
use Rattle.table_tests.proofs.sound.all_lie_whole.Goals as goal

pub loop-n-init : goal.loop-n-init
loop-n-init c = (omega arith, refl)

pub loop-n-preserved : goal.loop-n-preserved
loop-n-preserved c =
    let a = c.args in
    (omega arith, all-next (lies_whole limits.bound a.nodes_x.now a.nodes_y.now) c.loop-n.n _ _ c.loop-n.invariant.1 (ap₂ ◌&&◌ c.is_coordinate.ensures c.is_coordinate-in-loop-n.ensures))

pub returns : goal.returns
returns c =
    let a = c.args in
    all_found (lies_whole limits.bound a.nodes_x.now a.nodes_y.now) a.nodes c.loop-n.n _ (omega arith) c.loop-n.invariant.1
