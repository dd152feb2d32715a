use native.Mathlib.Omega.{arith}
use mathlib.Core.Path.{refl, ap₂}
use mathlib.Core.Bool.{beq}
use Rattle.table_tests.specs.Tests.{twins_alike}
use Rattle.table_tests.proofs.Testing.{all-next, all_found}
use Rattle.table_tests.proofs.sound.all_twins_alike.Goals as goal

pub loop-k-init : goal.loop-k-init
loop-k-init c = (omega arith, refl)

pub loop-k-preserved : goal.loop-k-preserved
loop-k-preserved c =
    let a = c.args in
    (omega arith, all-next (twins_alike a.dir_edges_marked.now) c.loop-k.k _ _ c.loop-k.invariant.1 (ap₂ beq c.is_marked.ensures c.is_marked-in-loop-k.ensures))

pub returns : goal.returns
returns c =
    let a = c.args in
    all_found (twins_alike a.dir_edges_marked.now) a.edges c.loop-k.k _ (omega arith) c.loop-k.invariant.1
