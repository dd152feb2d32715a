use Prim.Native.Nat.{ℕ, ◌+◌, ◌*◌, ◌<◌}
use native.Mathlib.Omega.{arith}
use native.Mathlib.Numerals.{add-one}
use mathlib.Core.Path.{◌≡◌, refl, sym, ap, ◌∙◌, subst}
use mathlib.Core.Bool.{Bool}
use lib.ListN.{length}
use Rattle.stars.specs.Groups.{unmarked, group_of, PartWithin}
use Rattle.ring_labels.specs.Links.{link_star_lem, Linked}
use Rattle.rules.proofs.Twin.{twin-below}
use Rattle.stars.proofs.Groups.{within_more, group_part, group_within}
use Rattle.ring_labels.proofs.Linking.{link_nodes, linked, length-nodes}
use Rattle.ring_labels.proofs.links.link_successors.Goals as goal

pub loop-n-init : goal.loop-n-init
loop-n-init c = (omega arith, refl, refl)

pub link_star-requires : goal.link_star-requires
link_star-requires c =
    let q = c.loop-n in
    let e : ℕ = c.args.graph.edge_count in
    let l : q.n < c.args.graph.node_count = omega arith in
    let w : PartWithin (2 * e) c.from.result c.from-in-loop-n.result c.args.grouped.now =
    group_within c.args.offsets.now c.args.grouped.now q.n _ _ c.from.ensures c.from-in-loop-n.ensures _ _ c.requires.0 l in
    (within_more (2 * e) _ _ _ _ c.requires.1 w, λ h m. omega (arith, twin-below e h (w.low h m), c.requires.2, q.invariant.1))

pub loop-n-preserved : goal.loop-n-preserved
loop-n-preserved c =
    let q = c.loop-n in
    let p : ℕ → Bool = unmarked c.args.dir_edges_marked.now in
    let a = c.args.offsets.now in
    let b = c.args.grouped.now in
    let e : c.link_star.new.next ≡ link_nodes p a b (q.n + 1) c.args.next.now =
    c.link_star.ensures
    ∙ ap (λ r. link_star_lem p r q.next) (group_part a b q.n _ _ c.from.ensures c.from-in-loop-n.ensures)
    ∙ ap (link_star_lem p (group_of a b q.n)) q.invariant.2
    ∙ ap (λ k. link_nodes p a b k c.args.next.now) (sym (add-one q.n)) in
    (omega arith, ap length e ∙ length-nodes p a b (q.n + 1) c.args.next.now, e)

pub returns : goal.returns
returns c =
    let q = c.loop-n in
    let g = c.args.graph in
    let p : ℕ → Bool = unmarked c.args.dir_edges_marked.now in
    let a = c.args.offsets.now in
    let b = c.args.grouped.now in
    let k : q.n ≡ g.node_count = omega arith in
    subst (Linked g.node_count g.edge_count c.args.dir_edges_marked.now a b)
    (sym (q.invariant.2 ∙ ap (λ i. link_nodes p a b i c.args.next.now) k))
    (linked g.node_count g.edge_count c.args.dir_edges_marked.now a b c.args.next.now c.requires.2)
