-- `successors::write_successors` meets its contract. What the callees ensure, put together by the laws of their crates.
use native.Mathlib.Omega.{arith}
use Rattle.rules.specs.Limits.{limits}
use Rattle.stars.proofs.Groups.{groups-within}
use Rattle.cycles.proofs.Outcome.{next-permutes, labels_right, rings-right}
use Rattle.splitting.proofs.Splitting.{splittable}
use Rattle.ring_listing.proofs.successors.write_successors.Goals as goal

-- ---- the needs
pub link_successors-requires : goal.link_successors-requires
link_successors-requires c =
    let p = c.requires.0.1 in
    let graph = c.args.graph in
    (groups-within graph.node_count graph.edge_count c.requires.0.0 c.args.dir_edges_marked.now p.star c.args.offsets.now c.args.grouped.now p.groups p.sane, p.in_marks, c.requires.1)

pub label_rings-maximal-requires : goal.label_rings-maximal-requires
label_rings-maximal-requires c =
    let p = c.requires.0.1 in
    let graph = c.args.graph in
    record {
      permutes = next-permutes graph.node_count graph.edge_count c.requires.0.0 c.args.dir_edges_marked.now p.star (c.link_successors.new.next) p.sane (c.link_successors.ensures c.requires.0.0 p.star p.groups p.sane);
      few = p.few_edges;
      in_next = omega (arith, c.requires.1, c.link_successors.auto.next);
      in_marks = p.in_marks;
      in_labels = omega (arith, p.few_edges);
    }

pub split_rings-requires : goal.split_rings-requires
split_rings-requires c =
    let p = c.requires.0.1 in
    let graph = c.args.graph in
    splittable limits graph.node_count graph.edge_count c.requires.0.0 c.args.dir_edges_marked.now p.star c.args.offsets.now c.args.grouped.now
    (c.label_rings-maximal.new.labels) (c.link_successors.new.next) p.few_edges p.groups p.sane (labels_right c.args.graph.node_count c.args.graph.edge_count c.requires.0.0 c.args.dir_edges_marked.now p.star (c.link_successors.new.next) p.sane
    (c.link_successors.ensures c.requires.0.0 p.star p.groups p.sane) (c.label_rings-maximal.new.labels) c.label_rings-maximal.result c.label_rings-maximal.ensures) p.in_marks
    (omega (arith, p.few_edges, c.label_rings-maximal.auto.labels)) (omega (arith, c.requires.1, c.link_successors.auto.next))

pub returns : goal.returns
returns c =
    let graph = c.args.graph in
    λ source star gs sane. record {
      split = c.split_rings.ensures source star gs sane (labels_right c.args.graph.node_count c.args.graph.edge_count source c.args.dir_edges_marked.now star (c.link_successors.new.next) sane
          (c.link_successors.ensures source star gs sane) (c.label_rings-maximal.new.labels) c.label_rings-maximal.result c.label_rings-maximal.ensures);
      number = rings-right graph.node_count graph.edge_count source c.args.dir_edges_marked.now star (c.link_successors.new.next) sane (c.link_successors.ensures source star gs sane) (c.label_rings-maximal.new.labels) c.label_rings-maximal.result c.label_rings-maximal.ensures;
    }
