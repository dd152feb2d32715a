-- `pieces::number::number_pieces` meets its contract. What the two callees ensure, put together by the laws of `Numbering`.
use native.Mathlib.Omega.{arith}
use Rattle.seeds.proofs.SeedOrder.{seeds_length, seeds_low}
use Rattle.pieces.proofs.Numbering.{numbered}
use Rattle.pieces.proofs.number.number_pieces.Goals as goal

pub order_seeds-seeds-requires : goal.order_seeds-seeds-requires
order_seeds-seeds-requires c =
    let p = c.requires in
    record { spreads = p.spreads; placed = p.placed; room = p.few }

pub fill_seeds-requires : goal.fill_seeds-requires
fill_seeds-requires c =
    let p = c.requires in
    let a = c.args in
    let o = c.order_seeds-seeds in
    let few = seeds_length a.graph.node_count a.nodes_x.now a.nodes_y.now a.dir_edges_src.now a.dir_edges_marked.now a.offsets.now a.grouped.now in
    record {
      nodes = a.graph.node_count;
      edges = a.graph.edge_count;
      spreads = p.spreads;
      few = omega (arith, o.ensures.0, few, p.few);
      in_order_lem = omega (arith, o.ensures.0, few, p.few, o.auto.order);
      low = seeds_low a.graph.node_count a.nodes_x.now a.nodes_y.now a.dir_edges_src.now a.dir_edges_marked.now a.offsets.now a.grouped.now _ _ o.result o.ensures.0 o.ensures.1;
      in_pieces = p.in_pieces;
      in_stack = p.short;
    }

pub returns : goal.returns
returns c =
    let p = c.requires in
    let a = c.args in
    let o = c.order_seeds-seeds in
    numbered a.graph a.nodes_x.now a.nodes_y.now a.dir_edges_src.now a.dir_edges_marked.now a.offsets.now a.grouped.now _ _ o.result
    a.pieces.now _ c.fill_seeds.result o.ensures.0 o.ensures.1 p.in_pieces p.clear c.fill_seeds.ensures
