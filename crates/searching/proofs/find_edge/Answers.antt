-- `adding::search::find_edge` meets its contract.
use Prim.Native.Nat.{◌≤◌}
use native.Mathlib.Omega.{arith}
use mathlib.Core.Path.{sym}
use mathlib.Core.Logic.{inl, inr}
use Rattle.searching.proofs.Apart.{none-joins}
use Rattle.searching.proofs.find_edge.Goals as goal

pub returns-then-start-graph : goal.returns-then-start-graph
returns-then-start-graph c =
    let a = c.args in
    let q : a.graph.node_count ≤ a.start.0 = omega (arith, c.if-start-graph.true) in
    sym (none-joins a.graph.node_count a.graph.edge_count a.dir_edges_src.now a.dir_edges_dst.now a.nodes_outgoing.now c.requires.by_index_2 a.start.0 a.end.0 (inl q))

pub returns-then-end-graph : goal.returns-then-end-graph
returns-then-end-graph c =
    let a = c.args in
    let q : a.graph.node_count ≤ a.end.0 = omega (arith, c.if-end-graph.true) in
    sym (none-joins a.graph.node_count a.graph.edge_count a.dir_edges_src.now a.dir_edges_dst.now a.nodes_outgoing.now c.requires.by_index_2 a.start.0 a.end.0 (inr q))
