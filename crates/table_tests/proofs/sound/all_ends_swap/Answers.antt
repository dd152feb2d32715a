use native.Mathlib.Omega.{arith}
use mathlib.Core.Path.{refl}
use Rattle.table_tests.specs.Tests.{ends_swap_lem}
use Rattle.table_tests.proofs.Testing.{all-next, all_found}
use Rattle.table_tests.proofs.sound.all_ends_swap.Goals as goal

pub loop-k-init : goal.loop-k-init
loop-k-init c = (omega arith, refl)

pub loop-k-preserved : goal.loop-k-preserved
loop-k-preserved c =
    let a = c.args in
    (omega arith, all-next (ends_swap_lem a.nodes a.dir_edges_src.now a.dir_edges_dst.now) c.loop-k.k _ _ c.loop-k.invariant.1 c.ends_swap-good.ensures)

pub returns : goal.returns
returns c =
    let a = c.args in
    all_found (ends_swap_lem a.nodes a.dir_edges_src.now a.dir_edges_dst.now) a.edges c.loop-k.k _ (omega arith) c.loop-k.invariant.1
