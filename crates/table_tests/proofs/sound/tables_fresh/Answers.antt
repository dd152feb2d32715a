-- `tables_fresh` meets its contract.
use Rattle.rules.specs.Limits.{limits}
use Rattle.table_tests.proofs.SoundTests.{fresh_tests, starts_of}
use Rattle.table_tests.proofs.sound.tables_fresh.Goals as goal

pub count_starts-counts-requires : goal.count_starts-counts-requires
count_starts-counts-requires c = starts_of limits _ _ c.from-halves.result _ _ _ _ c.from-halves.ensures c.requires

pub returns : goal.returns
returns c =
    let n = c.from-nodes in
    let e = c.from-halves in
    let a = c.args in
    fresh_tests a.graph.node_count a.graph.edge_count a.nodes_degree.now a.nodes_marked.now a.dir_edges_src.now a.dir_edges_marked.now
    limits.nodes n.result e.result c.count_starts-counts.result _ _ n.ensures e.ensures c.requires.few_nodes
    c.count_starts-counts.ensures c.nodes_fresh.ensures c.none_marked.ensures
