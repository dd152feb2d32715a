-- `cut_region` meets its contract: the marks of half-edges are lent as the back of their slice.
use Prim.Native.Nat.{◌*◌, ◌-◌, ◌≤◌}
use native.Mathlib.Omega.{arith}
use mathlib.Core.Path.{refl, sym, ap, subst}
use mathlib.Core.Bool.{Bool}
use mathlib.Core.List.{List}
use lib.ListN.{length, take, drop, length-drop}
use Rattle.rules.specs.Sane.{Sane}
use Rattle.rules.specs.State.{arrangement_in}
use Rattle.rules.specs.Limits.{limits}
use Rattle.tables.specs.Regions.{sources_in, star_table_in, half_marks_in}
use Rattle.tables.proofs.Regions.{tail-is, tail-inside, tail-before}
use Rattle.cycles.specs.Arranged.{CutOf}
use Rattle.cut_entry.proofs.regions.cut_region.Goals as goal

pub slice_bounds-group_stars-end-3 : goal.slice_bounds-group_stars-end-3
slice_bounds-group_stars-end-3 c = refl

pub slice_bounds-group_stars-end-4 : goal.slice_bounds-group_stars-end-4
slice_bounds-group_stars-end-4 c = refl

pub group_stars-requires : goal.group_stars-requires
group_stars-requires c =
    let g = c.requires.slice_cuttable.groupable in
    record {
      groupable = g;
      node_count_in_bounds = omega (arith, g.few_nodes);
      edge_count_in_bounds = omega (arith, g.few_edges);
    }

pub slice_bounds-cut_grouped-end-3 : goal.slice_bounds-cut_grouped-end-3
slice_bounds-cut_grouped-end-3 c = sym c.group_stars.auto.offsets

pub slice_bounds-cut_grouped-end-4 : goal.slice_bounds-cut_grouped-end-4
slice_bounds-cut_grouped-end-4 c = sym c.group_stars.auto.grouped

-- and enough for every half-edge
lent-long : (c : goal.After-cut_grouped-arg-5-1) → 2 * c.args.graph.edge_count ≤ length (take (length c.args.marks.now - limits.nodes) (drop limits.nodes c.args.marks.now))
lent-long c = omega (arith, c.requires.limits_in_bounds.3, c.requires.slice_cuttable.groupable.few_edges, ap length (tail-is limits.nodes c.args.marks.now), length-drop limits.nodes c.args.marks.now)

pub cut_grouped-requires : goal.cut_grouped-requires
cut_grouped-requires c =
    let g = c.requires.slice_cuttable.groupable in (
      record {
        star = star_table_in limits c.args.stars.now;
        groups = c.group_stars.ensures;
        sane = (subst (λ (m : List Bool). Sane (arrangement_in c.args.graph.node_count c.args.graph.edge_count (sources_in limits c.args.numbers.now) m (star_table_in limits c.args.stars.now))) (sym (tail-is limits.nodes c.args.marks.now)) c.requires.slice_cuttable.sane);
        few_nodes = g.few_nodes;
        few_edges = g.few_edges;
        in_source = g.source_room;
        in_marks = lent-long c;
      },
      c.requires.slice_cuttable.placed,
      c.requires.limits_in_bounds.4,
    )

-- what stands before the marks of half-edges lies in their slice
mark_room : (c : goal.After-slice_known-4-1) → limits.nodes ≤ length c.args.marks.now
mark_room c = omega (arith, c.requires.limits_in_bounds.3)

pub returns : goal.returns
returns c =
    let g = c.args.graph in
    let marks = c.args.marks.now in
    let out = c.args.out.now in
    let marks' = c.cut_grouped.new.dir_edges_marked in
    let out' = c.cut_grouped.new.out in
    let done = c.cut_grouped.result in
    let e = c.cut_grouped.ensures (star_table_in limits c.args.stars.now) c.group_stars.ensures (subst (λ (m : List Bool). Sane (arrangement_in c.args.graph.node_count c.args.graph.edge_count (sources_in limits c.args.numbers.now) m (star_table_in limits c.args.stars.now))) (sym (tail-is limits.nodes c.args.marks.now)) c.requires.slice_cuttable.sane) in
    let f = subst (λ (m : List Bool). CutOf (arrangement_in c.args.graph.node_count c.args.graph.edge_count (sources_in limits c.args.numbers.now) m (star_table_in limits c.args.stars.now)) g m out marks' out' done) (tail-is limits.nodes c.args.marks.now) e in record {
      cut = subst (λ (m : List Bool). CutOf (arrangement_in c.args.graph.node_count c.args.graph.edge_count (sources_in limits c.args.numbers.now) (half_marks_in limits marks) (star_table_in limits c.args.stars.now)) g (half_marks_in limits marks) out m out' done) (sym (tail-inside limits.nodes marks marks' (mark_room c))) f;
      nodes = tail-before limits.nodes marks marks' (mark_room c);
    }
