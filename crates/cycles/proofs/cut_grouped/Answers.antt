-- `cycles::cut_grouped` meets its contract. What the callees ensure, put together by the laws of `Outcome`.
use native.Mathlib.Omega.{arith}
use mathlib.Core.Path.{ap, ◌∙◌}
use Rattle.lists.specs.Lists.{over}
use lib.ListN.{length}
use Rattle.rules.specs.Stages.{mark_edges}
use Rattle.stars.proofs.Groups.{groups-within}
use Rattle.seeds.proofs.Stars.{spreads}
use Rattle.cycles.proofs.Outcome.{next-permutes, rings-right, cuts-right}
use Rattle.cycles.proofs.cut_grouped.Goals as goal

pub link_successors-requires : goal.link_successors-requires
link_successors-requires c =
    let p = c.requires.0 in
    let graph = c.args.graph in
    (groups-within graph.node_count graph.edge_count c.args.dir_edges_src.now c.args.dir_edges_marked.now p.star c.args.offsets.now c.args.grouped.now p.groups p.sane, p.in_marks, omega (arith, p.few_edges))

pub label_rings-cycles-requires : goal.label_rings-cycles-requires
label_rings-cycles-requires c =
    let p = c.requires.0 in
    let graph = c.args.graph in
    record {
      permutes = next-permutes graph.node_count graph.edge_count c.args.dir_edges_src.now c.args.dir_edges_marked.now p.star (c.link_successors.new.next) p.sane (c.link_successors.ensures c.args.dir_edges_src.now p.star p.groups p.sane);
      few = p.few_edges;
      in_next = omega (arith, p.few_edges, c.link_successors.auto.next);
      in_marks = p.in_marks;
      in_labels = omega (arith, p.few_edges);
    }

pub count_census-census-requires : goal.count_census-census-requires
count_census-census-requires c =
    let p = c.requires.0 in
    let graph = c.args.graph in
    (spreads graph.node_count graph.edge_count c.args.dir_edges_src.now c.args.dir_edges_marked.now c.args.offsets.now c.args.grouped.now p.star p.groups p.sane p.in_source p.in_marks, c.requires.1, p.few_nodes, p.few_edges)

pub cut_edges-count-requires : goal.cut_edges-count-requires
cut_edges-count-requires c =
    let p = c.requires.0 in
    record {
      few = p.few_edges;
      in_labels = omega (arith, p.few_edges, c.label_rings-cycles.auto.labels);
      in_marks = p.in_marks;
      in_out = c.requires.2;
    }

pub at_stage-requires : goal.at_stage-requires
at_stage-requires c = tt

pub returns : goal.returns
returns c =
    let graph = c.args.graph in
    let labels = c.label_rings-cycles.new.labels in
    let done = c.cut_edges-count.ensures in
    λ star gs sane.
    let linked = c.link_successors.ensures c.args.dir_edges_src.now star gs sane in
    let rings = rings-right graph.node_count graph.edge_count c.args.dir_edges_src.now c.args.dir_edges_marked.now star (c.link_successors.new.next) sane linked labels c.label_rings-cycles.result c.label_rings-cycles.ensures in
    let found = cuts-right graph.node_count graph.edge_count c.args.dir_edges_src.now c.args.dir_edges_marked.now star (c.link_successors.new.next) sane linked labels c.label_rings-cycles.result c.label_rings-cycles.ensures in
    record {
      advanced = c.at_stage.ensures;
      count = done.0 ∙ ap length found;
      counted = c.count_census-census.ensures star gs sane rings;
      marked = done.1 ∙ ap (λ ks. mark_edges ks c.args.dir_edges_marked.now) found;
      listed = done.2 ∙ ap (λ ks. over ks c.args.out.now) found;
    }
