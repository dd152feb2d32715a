-- `listing::list_rings` meets its contract. What the callees ensure, put together by the laws of their crates.
use native.Mathlib.Omega.{arith}
use mathlib.Core.Path.{subst}
use Rattle.lists.specs.Lists.{flatten}
use Rattle.rules.specs.State.{arrangement_in}
use Rattle.seeds.proofs.Stars.{spreads}
use Rattle.ring_tally.specs.Keys.{keys_y, Keyed}
use Rattle.rings.specs.Listing.{rows_of, Listed}
use Rattle.rings.proofs.Rows.{table_rings_lem}
use Rattle.ring_listing.proofs.Walks.{walk_asks, rows_enough}
use Rattle.ring_listing.proofs.listing.list_rings.Goals as goal

pub write_successors-maximal-requires : goal.write_successors-maximal-requires
write_successors-maximal-requires c = ((c.args.dir_edges_src.now, c.requires.0), omega (arith, c.requires.0.few_edges))

pub count_census-census-requires : goal.count_census-census-requires
count_census-census-requires c =
    let p = c.requires.0 in
    let graph = c.args.graph in
    (spreads graph.node_count graph.edge_count c.args.dir_edges_src.now c.args.dir_edges_marked.now c.args.offsets.now c.args.grouped.now p.star p.groups p.sane p.in_source p.in_marks, c.requires.1, p.few_nodes, p.few_edges)

pub walk_rings-count-requires : goal.walk_rings-count-requires
walk_rings-count-requires c =
    let p = c.requires.0 in
    let graph = c.args.graph in
    walk_asks graph.node_count graph.edge_count c.args.dir_edges_src.now c.args.dir_edges_marked.now c.args.offsets.now c.args.grouped.now c.args.nodes_x.now c.args.nodes_y.now
    p c.requires.1 (c.write_successors-maximal.new.next) c.write_successors-maximal.result (c.write_successors-maximal.ensures c.args.dir_edges_src.now p.star p.groups p.sane) (omega (arith, p.few_edges, c.write_successors-maximal.auto.next)) _ _ _
    c.requires.2.in_half_edges c.requires.2.in_keys (rows_enough (arrangement_in c.args.graph.node_count c.args.graph.edge_count c.args.dir_edges_src.now c.args.dir_edges_marked.now p.star) _ c.requires.2.in_rows)

pub returns : goal.returns
returns c =
    let graph = c.args.graph in
    let w = c.walk_rings-count.new in
    λ star gs sane.
    let table = (c.write_successors-maximal.ensures c.args.dir_edges_src.now star gs sane) in
    let same = table_rings_lem graph.node_count graph.edge_count c.args.dir_edges_src.now c.args.dir_edges_marked.now star (c.write_successors-maximal.new.next) sane table.split in
    record {
      listed = subst (λ rs. Listed rs c.args.dir_edges_src.now c.args.nodes_x.now c.args.nodes_y.now c.args.half_edges.now (rows_of c.args.ring_first.now c.args.ring_length.now c.args.ring_side.now c.args.ring_area.now)
          w.half_edges (rows_of w.ring_first w.ring_length w.ring_side w.ring_area) c.walk_rings-count.result)
          same c.walk_rings-count.ensures.rings;
      keyed = subst (λ rs. Keyed keys_y (flatten rs) c.args.dir_edges_src.now c.args.nodes_x.now c.args.nodes_y.now c.args.keys.now w.keys) same c.walk_rings-count.ensures.keys;
      counted = c.count_census-census.ensures star gs sane table.number;
    }
