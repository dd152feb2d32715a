-- `prune_regions` meets its contract: the degrees and the marks of half-edges are the backs of their slices, and the marks of nodes go
-- through a row.
use Prim.Native.Nat.{ℕ, ◌*◌, ◌-◌, ◌≤◌}
use native.Mathlib.Omega.{arith}
use mathlib.Core.Path.{refl, sym, subst, ◌∙◌}
use lib.ListN.{length}
use borrow.Rule.Slice.PartMut.{put_mid, same_len_mid}
use Rattle.rules.specs.Limits.{limits}
use Rattle.rules.specs.Prune.{Pruning}
use Rattle.tables.proofs.Regions.{tail-is, front-inside, front-behind, tail-inside, tail-before}
use Rattle.pruning.specs.Left.{Left}
use Rattle.prune_entry.proofs.Lent.{lent_prunable, lent-pruned}
use Rattle.prune_entry.proofs.regions.prune_regions.Goals as goal

pub slice_bounds-group_stars-end-3 : goal.slice_bounds-group_stars-end-3
slice_bounds-group_stars-end-3 c = refl

pub slice_bounds-group_stars-end-4 : goal.slice_bounds-group_stars-end-4
slice_bounds-group_stars-end-4 c = refl

pub group_stars-requires : goal.group_stars-requires
group_stars-requires c =
    let g = c.requires.slice_prunable.groupable in
    record {
      groupable = g;
      node_count_in_bounds = omega (arith, g.few_nodes);
      edge_count_in_bounds = omega (arith, g.few_edges);
    }

pub slice_bounds-copy_marks-end-2 : goal.slice_bounds-copy_marks-end-2
slice_bounds-copy_marks-end-2 c = refl

pub slice_bounds-prune_core-end : goal.slice_bounds-prune_core-end
slice_bounds-prune_core-end c = sym c.group_stars.auto.offsets

pub slice_bounds-prune_core-end-2 : goal.slice_bounds-prune_core-end-2
slice_bounds-prune_core-end-2 c = sym c.group_stars.auto.grouped

pub slice_bounds-prune_core-end-5 : goal.slice_bounds-prune_core-end-5
slice_bounds-prune_core-end-5 c = sym c.copy_marks.auto.to

pub prune_core-done-requires : goal.prune_core-done-requires
prune_core-done-requires c =
    let a = c.args in
    lent_prunable limits a.graph a.numbers.now a.stars.now a.marks.now c.requires.slice_prunable _ _ c.group_stars.ensures _ _ _
    (tail-is (2 * limits.edges) a.stars.now) c.copy_marks.ensures (tail-is limits.nodes a.marks.now) a.out.now c.requires.limits_in_bounds.3

pub slice_bounds-copy_marks-end-3 : goal.slice_bounds-copy_marks-end-3
slice_bounds-copy_marks-end-3 c = sym (c.prune_core-done.auto.nodes_marked ∙ c.copy_marks.auto.to)

pub slice_bounds-copy_marks-end-4 : goal.slice_bounds-copy_marks-end-4
slice_bounds-copy_marks-end-4 c =
    (subst (λ (n : ℕ). limits.nodes ≤ n) (sym (let marks = c.args.marks.now in
    same_len_mid limits.nodes (length marks - limits.nodes) marks c.prune_core-done.new.dir_edges_marked c.prune_core-done.auto.dir_edges_marked)) (omega (arith, c.requires.limits_in_bounds.2)))

-- what stands before the parts lies in their slices
star_room : (c : goal.After-slice_known-7-1) → 2 * limits.edges ≤ length c.args.stars.now
star_room c = omega (arith, c.requires.limits_in_bounds.1)

pub returns : goal.returns
returns c =
    let a = c.args in
    let numbers = a.numbers.now in
    let stars = a.stars.now in
    let marks = a.marks.now in
    let degrees' = c.prune_core-done.new.nodes_degree in
    let nodes' = c.prune_core-done.new.nodes_marked in
    let halves' = c.prune_core-done.new.dir_edges_marked in
    let out' = c.prune_core-done.new.out in
    let row' = c.copy_marks-2.new.to in
    let kept = c.copy_marks-2.auto.to in
    let same = lent-pruned limits a.graph numbers stars marks c.requires.slice_prunable _ _ c.group_stars.ensures _ _ _
    (tail-is (2 * limits.edges) stars) c.copy_marks.ensures (tail-is limits.nodes marks) in
    let e = subst (λ (t : Pruning). Left a.graph t degrees' nodes' halves' a.out.now out' c.prune_core-done.result) same c.prune_core-done.ensures in record {
      pruned = record {
        degree = tail-inside (2 * limits.edges) stars degrees' (star_room c) ∙ e.degree;
        node_mark = front-inside limits.nodes (let marks = c.args.marks.now in
            put_mid limits.nodes (length marks - limits.nodes) marks c.prune_core-done.new.dir_edges_marked) row' (subst (λ (n : ℕ). limits.nodes ≤ n) (sym (let marks = c.args.marks.now in
            same_len_mid limits.nodes (length marks - limits.nodes) marks c.prune_core-done.new.dir_edges_marked c.prune_core-done.auto.dir_edges_marked)) (omega (arith, c.requires.limits_in_bounds.2))) kept ∙ c.copy_marks-2.ensures ∙ e.node_mark;
        half_mark = front-behind limits.nodes (let marks = c.args.marks.now in
            put_mid limits.nodes (length marks - limits.nodes) marks c.prune_core-done.new.dir_edges_marked) row' (subst (λ (n : ℕ). limits.nodes ≤ n) (sym (let marks = c.args.marks.now in
            same_len_mid limits.nodes (length marks - limits.nodes) marks c.prune_core-done.new.dir_edges_marked c.prune_core-done.auto.dir_edges_marked)) (omega (arith, c.requires.limits_in_bounds.2))) kept ∙ tail-inside limits.nodes marks halves' (omega (arith, c.requires.limits_in_bounds.2)) ∙ e.half_mark;
        listed = e.listed;
        count = e.count;
        advanced = e.advanced;
      };
      star = tail-before (2 * limits.edges) stars degrees' (star_room c);
    }
