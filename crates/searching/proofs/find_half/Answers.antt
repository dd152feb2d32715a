use Rattle.searching.proofs.Walks.{half_hit, half_miss, half-end}
use lib.Dec.{eqb}
use mathlib.Core.Path.{refl, sym, ap, ◌∙◌}
use native.Mathlib.Omega.{arith}
use Prim.Native.Nat.{◌*◌}
use lib.ListN.{get_or, take}
use Rattle.lists.proofs.Searching.{first-pick}
use Rattle.searching.proofs.find_half.Invariants.{test}
use Rattle.searching.proofs.find_half.Goals as goal

pub loop-i-init : goal.loop-i-init
loop-i-init c = (omega arith, refl)

pub goes-requires : goal.goes-requires
goes-requires c =
    let i = c.loop-i.i in
    let r = c.requires.by_index i c.loop-i-test.true in
    let e = ap (λ j. get_or c.args.nodes_outgoing.now j 0) c.from.ensures in
    (omega (arith, e, r.0), omega (arith, e, r.1))

pub returns-then-goes : goal.returns-then-goes
returns-then-goes c =
    let o = c.args.nodes_outgoing.now in
    let n = 2 * c.args.graph.edge_count in
    ap (λ j. get_or o j 0) c.from.ensures
    ∙ half_hit (test c.args.dir_edges_src.now c.args.dir_edges_dst.now c.args.u.0 c.args.v.0) n n o c.requires.edge_count_bound.1 c.loop-i.i c.loop-i-test.true ((ap (λ j. (test c.args.dir_edges_src.now c.args.dir_edges_dst.now c.args.u.0 c.args.v.0) (get_or c.args.nodes_outgoing.now j 0)) (sym c.from.ensures) ∙ sym c.goes.ensures) ∙ c.if-goes.true) c.loop-i.invariant.1
    ∙ sym (let n = 2 * c.args.graph.edge_count in
    first-pick (λ h. eqb (get_or c.args.dir_edges_dst.now h 0) c.args.v.0) (λ h. eqb (get_or c.args.dir_edges_src.now h 0) c.args.u.0) n (take n c.args.nodes_outgoing.now))

pub loop-i-preserved : goal.loop-i-preserved
loop-i-preserved c =
    let o = c.args.nodes_outgoing.now in
    let n = 2 * c.args.graph.edge_count in
    let t = c.loop-i-test.true in
    (omega (arith, t), half_miss (test c.args.dir_edges_src.now c.args.dir_edges_dst.now c.args.u.0 c.args.v.0) n n o c.requires.edge_count_bound.1 c.loop-i.i t ((ap (λ j. (test c.args.dir_edges_src.now c.args.dir_edges_dst.now c.args.u.0 c.args.v.0) (get_or c.args.nodes_outgoing.now j 0)) (sym c.from.ensures) ∙ sym c.goes.ensures) ∙ c.if-goes.false) c.loop-i.invariant.1)

pub returns : goal.returns
returns c =
    let o = c.args.nodes_outgoing.now in
    half-end (test c.args.dir_edges_src.now c.args.dir_edges_dst.now c.args.u.0 c.args.v.0) (2 * c.args.graph.edge_count) (2 * c.args.graph.edge_count) o c.requires.edge_count_bound.1 c.loop-i.i c.loop-i-test.false c.loop-i.invariant.1
    ∙ sym (let n = 2 * c.args.graph.edge_count in
    first-pick (λ h. eqb (get_or c.args.dir_edges_dst.now h 0) c.args.v.0) (λ h. eqb (get_or c.args.dir_edges_src.now h 0) c.args.u.0) n (take n c.args.nodes_outgoing.now))
