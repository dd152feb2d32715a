-- `pieces::fill::spread_node` meets its contract. What is read of the offsets is the group of the node.
use Prim.Native.Nat.{ℕ, ◌+◌, ◌*◌, ◌<◌, ◌≤◌}
use native.Mathlib.Omega.{arith}
use mathlib.Core.Path.{◌≡◌, sym, ap, ◌∙◌, subst}
use lib.ListN.{length, get_or}
use Rattle.lists.specs.Lists.{In}
use Rattle.stars.specs.Groups.{part, group_of}
use Rattle.seeds.specs.Reach.{reach_new, ends_of_lem, Reached}
use Rattle.stars.proofs.Groups.{within_more, group_part, group_within}
use Rattle.seeds.proofs.Stars.{star-ends}
use Rattle.pieces.proofs.fill.spread_node.Goals as goal

pub reach_star-requires : goal.reach_star-requires
reach_star-requires c =
    let t = c.requires in
    let a = c.args.offsets.now in
    let b = c.args.grouped.now in
    let n : ℕ = c.from-n.result in
    let e : n ≡ get_or c.args.stack.now c.args.top 0 = c.from-n.ensures in
    let l : n < t.nodes = omega (arith, t.node) in
    let p : part c.from-from.result c.from-to.result b ≡ group_of a b n = group_part a b n _ _ c.from-from.ensures c.from-to.ensures in (
      within_more (2 * t.edges) _ _ _ _ t.spreads.in_marks (group_within a b n _ _ c.from-from.ensures c.from-to.ensures _ _ t.spreads.groups l),
      (λ h m.
          let k = star-ends t.nodes t.edges c.args.dir_edges_src.now c.args.dir_edges_marked.now a b t.spreads n l h (subst (λ r. In h r) p m) in
          omega (arith, t.spreads.in_source, t.in_pieces)),
      subst (λ r. c.args.top + length (reach_new c.args.piece (ends_of_lem c.args.dir_edges_src.now c.args.dir_edges_marked.now r) c.args.pieces.now) ≤ length c.args.stack.now)
          (sym (p ∙ ap (group_of a b) e)) t.room,
    )

pub returns : goal.returns
returns c =
    let a = c.args.offsets.now in
    let b = c.args.grouped.now in
    let p = group_part a b c.from-n.result _ _ c.from-from.ensures c.from-to.ensures ∙ ap (group_of a b) c.from-n.ensures in
    subst (λ r. Reached c.args.piece (ends_of_lem c.args.dir_edges_src.now c.args.dir_edges_marked.now r) c.args.pieces.now c.args.stack.now
    c.reach_star.new.pieces c.reach_star.new.stack c.args.top c.reach_star.result) p
    c.reach_star.ensures
