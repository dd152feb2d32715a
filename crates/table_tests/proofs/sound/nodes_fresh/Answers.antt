use native.Mathlib.Omega.{arith}
use mathlib.Core.Path.{refl, ap}
use mathlib.Core.Bool.{◌&&◌, not}
use lib.Dec.{eqb}
use lib.ListN.{get_or}
use Rattle.table_tests.specs.Tests.{node_fresh}
use Rattle.table_tests.proofs.Testing.{all-next, all_found}
use Rattle.table_tests.proofs.sound.nodes_fresh.Goals as goal

pub loop-n-init : goal.loop-n-init
loop-n-init c = (omega arith, refl)

pub loop-n-preserved : goal.loop-n-preserved
loop-n-preserved c =
    let a = c.args in
    (omega arith, all-next (node_fresh a.nodes_marked.now a.nodes_degree.now a.counts.now) c.loop-n.n _ _ c.loop-n.invariant.1 (ap (λ m. not m && eqb (get_or a.nodes_degree.now c.loop-n.n 0) (get_or a.counts.now c.loop-n.n 0)) c.is_marked.ensures))

pub returns : goal.returns
returns c =
    let a = c.args in
    all_found (node_fresh a.nodes_marked.now a.nodes_degree.now a.counts.now) a.nodes c.loop-n.n _ (omega arith) c.loop-n.invariant.1
