-- `tables_listed` meets its contract.
use Rattle.rules.specs.Limits.{limits}
use Rattle.table_tests.proofs.SoundTests.{listed_tests}
use Rattle.table_tests.proofs.sound.tables_listed.Goals as goal

pub returns : goal.returns
returns c =
    let n = c.from-nodes in
    let e = c.from-edges in
    let a = c.args in
    listed_tests limits.bound a.graph.node_count a.graph.edge_count a.nodes_x.now a.nodes_y.now
    a.dir_edges_src.now a.dir_edges_dst.now a.dir_edges_marked.now a.nodes_outgoing.now
    n.result e.result _ _ _ _ n.ensures e.ensures
    c.all_ends_swap.ensures
    c.all_twins_alike.ensures
    c.all_stand_once.ensures
    c.all_lie_whole.ensures
