use Prim.Native.Nat.{ℕ, ◌*◌, ◌<◌}
use native.Mathlib.Omega.{arith}
use mathlib.Core.Path.{◌≡◌, refl, ap, ◌∙◌, subst}
use mathlib.Core.Bool.{Bool}
use Rattle.lists.specs.Lists.{pick}
use Rattle.stars.specs.Groups.{unmarked, group_of, PartWithin}
use Rattle.splitting.specs.Splits.{entry_of, noted, relinked}
use Rattle.rules.proofs.Twin.{twin-below}
use Rattle.stars.proofs.Groups.{group_part, group_within}
use Rattle.splitting.proofs.Splitting.{SplitBelow, split_step, split-all}
use Rattle.splitting.proofs.split.split_stars.Goals as goal

pub loop-n-init : goal.loop-n-init
loop-n-init c = (omega arith, refl, refl, λ e low room source star groups sane same h a q. absurd (omega arith))

pub note_star-requires : goal.note_star-requires
note_star-requires c =
    let q = c.loop-n in
    let k = c.requires.splittable in
    let l : q.n < c.args.graph.node_count = omega (arith, c.from-nodes.ensures) in
    record {
      edges = c.args.graph.edge_count;
      within = group_within c.args.offsets.now c.args.grouped.now q.n _ _ c.from-from.ensures c.from-to.ensures _ _ k.groups l;
      in_marks = k.in_marks;
      in_labels = k.in_labels;
      low = λ h m. omega (arith, k.low h m, c.requires.edge_count_in_bounds, q.invariant.1);
    }

pub relink_star-requires : goal.relink_star-requires
relink_star-requires c =
    let q = c.loop-n in
    let k = c.requires.splittable in
    let e : ℕ = c.args.graph.edge_count in
    let l : q.n < c.args.graph.node_count = omega (arith, c.from-nodes.ensures) in
    let w : PartWithin (2 * e) c.from-from.result c.from-to.result c.args.grouped.now =
    group_within c.args.offsets.now c.args.grouped.now q.n _ _ c.from-from.ensures c.from-to.ensures _ _ k.groups l in record {
      star_within = record {
        edges = e;
        within = w;
        in_marks = k.in_marks;
        in_labels = k.in_labels;
        low = λ h m. omega (arith, k.low h m, c.requires.edge_count_in_bounds, q.invariant.1, c.note_star.auto.upcoming);
      };
      by_index = λ h m. omega (arith, twin-below e h (w.low h m), k.in_next, q.invariant.2);
    }

pub loop-n-preserved : goal.loop-n-preserved
loop-n-preserved c =
    let q = c.loop-n in
    let a = c.args.offsets.now in
    let b = c.args.grouped.now in
    let lab = entry_of c.args.labels.now in
    let p : ℕ → Bool = unmarked c.args.dir_edges_marked.now in
    let r = pick p (group_of a b q.n) in
    let l : q.n < c.from-nodes.result = c.loop-n-test.true in
    let same = group_part a b q.n c.from-from.result c.from-to.result c.from-from.ensures c.from-to.ensures in
    let up = c.note_star.new.upcoming in
    let on = c.relink_star.new.next in
    let e₁ : up ≡ noted lab r q.upcoming = c.note_star.ensures ∙ ap (λ z. noted lab (pick p z) q.upcoming) same in
    let e₂ : on ≡ relinked lab (noted lab r q.upcoming) r q.next =
    c.relink_star.ensures.next_after ∙ ap (λ z. relinked lab up (pick p z) q.next) same ∙ ap (λ z. relinked lab z r q.next) e₁ in (
      omega arith,
      c.relink_star.auto.upcoming ∙ c.note_star.auto.upcoming ∙ q.invariant.1,
      c.relink_star.auto.next ∙ q.invariant.2,
      λ e low room. split_step c.from-nodes.result e a b c.args.dir_edges_marked.now c.args.labels.now q.upcoming q.next on q.n l
          (λ h m. omega (arith, low h m, q.invariant.1)) (omega (arith, q.invariant.2)) e₂ (q.invariant.3 e low room),
    )

pub returns : goal.returns
returns c =
    let q = c.loop-n in
    let g = c.args.graph in
    let k = c.requires.splittable in
    let w : c.from-nodes.result ≡ g.node_count = c.from-nodes.ensures in
    let e : q.n ≡ g.node_count = omega arith in
    split-all g.node_count g.edge_count c.args.offsets.now c.args.grouped.now c.args.dir_edges_marked.now c.args.labels.now q.next q.n e
    (subst (λ m. SplitBelow m g.edge_count c.args.offsets.now c.args.grouped.now c.args.dir_edges_marked.now c.args.labels.now q.n q.next) w
    (q.invariant.3 g.edge_count (λ h m. omega (arith, k.low h m, c.requires.edge_count_in_bounds)) k.in_next))
