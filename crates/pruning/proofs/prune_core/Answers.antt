use native.Mathlib.Omega.{arith}
use mathlib.Core.Path.{◌≡◌, refl, sym, ap, ◌∙◌}
use mathlib.Core.List.{reverse}
use lib.ListN.{length}
use Rattle.lists.specs.Lists.{over}
use Rattle.rules.specs.Limits.{limits}
use Rattle.pruning.proofs.Runs.{run_start, run_turning, run_less, run_turned, run_end, run_listed, found-size, found-few}
use Rattle.pruning.proofs.prune_core.Goals as goal

pub slice_bounds-stack_leaves-end : goal.slice_bounds-stack_leaves-end
slice_bounds-stack_leaves-end c = refl

pub loop-at-init : goal.loop-at-init
loop-at-init c =
    let a = c.args in
    let p = c.requires in
    let s = c.stack_leaves-stacked in
    let size : length s.new.stack ≡ limits.nodes = s.auto.stack in
    (run_start limits a.graph.node_count a.graph.edge_count a.offsets.now a.grouped.now a.dir_edges_src.now a.nodes_degree.now a.nodes_marked.now a.dir_edges_marked.now a.out.now s.result s.new.stack p (omega (arith, p.few_nodes)) s.ensures.0 s.ensures.1, size, refl, refl, refl)

pub slice_bounds-turn-end : goal.slice_bounds-turn-end
slice_bounds-turn-end c = sym c.loop-at.invariant.1

pub turn-at-requires : goal.turn-at-requires
turn-at-requires c =
    let a = c.args in
    let q = c.loop-at in
    run_turning limits a.graph.node_count a.graph.edge_count a.offsets.now a.grouped.now a.dir_edges_src.now a.nodes_degree.now a.nodes_marked.now a.dir_edges_marked.now a.out.now
    q.nodes_degree q.nodes_marked q.dir_edges_marked q.stack q.out q.at q.invariant.0 c.loop-at-test.true

pub loop-at-smaller : goal.loop-at-smaller
loop-at-smaller c =
    let a = c.args in
    let q = c.loop-at in
    let t = c.turn-at in
    run_less limits a.graph.node_count a.graph.edge_count a.offsets.now a.grouped.now a.dir_edges_src.now a.nodes_degree.now a.nodes_marked.now a.dir_edges_marked.now a.out.now
    q.nodes_degree q.nodes_marked q.dir_edges_marked q.stack q.out q.at q.invariant.0 c.loop-at-test.true
    t.new.nodes_degree t.new.nodes_marked t.new.dir_edges_marked t.new.stack t.new.out t.result t.ensures.0

pub loop-at-preserved : goal.loop-at-preserved
loop-at-preserved c =
    let a = c.args in
    let q = c.loop-at in
    let t = c.turn-at in
    let k = t.auto in (
      run_turned limits a.graph.node_count a.graph.edge_count a.offsets.now a.grouped.now a.dir_edges_src.now a.nodes_degree.now a.nodes_marked.now a.dir_edges_marked.now a.out.now
          q.nodes_degree q.nodes_marked q.dir_edges_marked q.stack q.out q.at q.invariant.0 c.loop-at-test.true
          t.new.nodes_degree t.new.nodes_marked t.new.dir_edges_marked t.new.stack t.new.out t.result t.ensures.0 t.ensures.1 k.out,
      k.stack ∙ q.invariant.1,
      k.nodes_degree ∙ q.invariant.2,
      k.nodes_marked ∙ q.invariant.3,
      k.dir_edges_marked ∙ q.invariant.4,
    )

pub at_stage-requires : goal.at_stage-requires
at_stage-requires c = tt

pub overflow_cast-result : goal.overflow_cast-result
overflow_cast-result c =
    let a = c.args in
    let q = c.loop-at in
    omega (arith, q.invariant.0.given.few_edges, found-few limits a.graph.node_count a.graph.edge_count a.offsets.now a.grouped.now a.dir_edges_src.now a.nodes_degree.now a.nodes_marked.now a.dir_edges_marked.now a.out.now q.nodes_degree q.nodes_marked q.dir_edges_marked q.stack q.out q.at q.invariant.0)

pub returns : goal.returns
returns c =
    let a = c.args in
    let q = c.loop-at in
    let z : q.at.stacked ≡ 0 = omega arith in
    let e = run_end limits a.graph.node_count a.graph.edge_count a.offsets.now a.grouped.now a.dir_edges_src.now a.nodes_degree.now a.nodes_marked.now a.dir_edges_marked.now a.out.now
    q.nodes_degree q.nodes_marked q.dir_edges_marked q.stack q.out q.at q.invariant.0 z in
    record {
      degree = ap (λ p. p.degrees) e;
      node_mark = ap (λ p. p.node_marks) e;
      half_mark = ap (λ p. p.half_marks) e;
      listed = run_listed limits a.graph.node_count a.graph.edge_count a.offsets.now a.grouped.now a.dir_edges_src.now a.nodes_degree.now a.nodes_marked.now a.dir_edges_marked.now a.out.now q.nodes_degree q.nodes_marked q.dir_edges_marked q.stack q.out q.at q.invariant.0
          ∙ ap (λ p. over (reverse p.found) a.out.now) e;
      count = sym (found-size limits a.graph.node_count a.graph.edge_count a.offsets.now a.grouped.now a.dir_edges_src.now a.nodes_degree.now a.nodes_marked.now a.dir_edges_marked.now a.out.now q.nodes_degree q.nodes_marked q.dir_edges_marked q.stack q.out q.at q.invariant.0) ∙ ap (λ p. length p.found) e;
      advanced = c.at_stage.ensures;
    }
