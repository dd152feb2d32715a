use Rattle.chains.proofs.Chaining.{chained_less}
use Prim.Native.Nat.{ℕ, ◌-◌, ◌*◌}
use native.Mathlib.Omega.{arith}
use mathlib.Core.Path.{sym, ap, ◌∙◌}
use mathlib.Core.Bool.{Bool}
use lib.ListN.{get_or}
use Rattle.chains.proofs.Walking.{walk_start, walk_hit, walk_miss, walk_end}
use Rattle.lookup.specs.Codes.{half_heads, pair_code_lem, half_code_lem}
use Rattle.lookup.proofs.Coding.{pair_low, joins, pair_meant, half-found}
use Rattle.lookup.proofs.halves.find_half.Goals.{then-goes, else-goes}
use Rattle.lookup.proofs.halves.find_half.Goals as goal

pub loop-at-init : goal.loop-at-init
loop-at-init c =
    let a = c.args in
    let n = 2 * a.edges in
    walk_start (λ i. joins a.dir_edges_src.now a.dir_edges_dst.now a.nodes_outgoing.now a.u.0 a.v.0 (get_or a.nodes_outgoing.now i 0)) (λ i. get_or a.nodes_outgoing.now i 0)
    (half_code_lem a.dir_edges_src.now a.dir_edges_dst.now a.nodes_outgoing.now) (pair_code_lem a.u.0 a.v.0) (pair_meant a.dir_edges_src.now a.dir_edges_dst.now a.nodes_outgoing.now a.u.0 a.v.0)
    half_heads n n a.half_chains.now c.requires.1.chained
    (get_or a.half_chains.now c.pair_code-code.result 0) (pair_low a.u.0 a.v.0) (ap (λ i. get_or a.half_chains.now i 0) c.pair_code-code.ensures)

pub goes-requires : goal.goes-requires
goes-requires c = c.requires.1.known (c.loop-at.at - 1) (omega (arith, c.loop-at-test.true, c.loop-at.invariant.low))

pub loop-at-smaller : goal.loop-at-smaller
loop-at-smaller c =
    let a = c.args in
    let n = c.loop-at.at - 1 in
    omega (arith, c.loop-at-test.true, chained_less half_heads (half_code_lem a.dir_edges_src.now a.dir_edges_dst.now a.nodes_outgoing.now) (2 * a.edges) a.half_chains.now c.requires.1.chained n (omega (arith, c.loop-at-test.true, c.loop-at.invariant.low)))

pub loop-at-preserved : goal.loop-at-preserved
loop-at-preserved c =
    let a = c.args in
    let n = 2 * a.edges in
    let source = a.dir_edges_src.now in
    let target = a.dir_edges_dst.now in
    let star = a.nodes_outgoing.now in
    let p : ℕ → Bool = λ i. joins source target star a.u.0 a.v.0 (get_or star i 0) in
    let m = pair_meant source target star a.u.0 a.v.0 in
    elim c.if-goes.branch [
      | then-goes w ↦ walk_hit p (λ i. get_or star i 0) (half_code_lem source target star) (pair_code_lem a.u.0 a.v.0) m half_heads n n a.half_chains.now c.requires.1.chained c.loop-at.at c.loop-at.found c.if-goes.found c.loop-at.invariant c.loop-at-test.true (sym c.goes.ensures ∙ w.if-goes.true) w.found-is
      | else-goes w ↦ walk_miss p (λ i. get_or star i 0) (half_code_lem source target star) (pair_code_lem a.u.0 a.v.0) m half_heads n n a.half_chains.now c.requires.1.chained c.loop-at.at c.loop-at.found c.if-goes.found c.loop-at.invariant c.loop-at-test.true (sym c.goes.ensures ∙ w.if-goes.false) w.found-is
    ]

pub returns : goal.returns
returns c =
    let a = c.args in
    let n = 2 * a.edges in
    let source = a.dir_edges_src.now in
    let target = a.dir_edges_dst.now in
    let star = a.nodes_outgoing.now in
    walk_end (λ i. joins source target star a.u.0 a.v.0 (get_or star i 0)) (λ i. get_or star i 0) (half_code_lem source target star) (pair_code_lem a.u.0 a.v.0) (pair_meant source target star a.u.0 a.v.0) half_heads n n a.half_chains.now c.requires.1.chained
    c.loop-at.at c.loop-at.found c.loop-at.invariant c.loop-at-test.false
    ∙ half-found source target star a.u.0 a.v.0 a.edges c.requires.1.room_star

pub offset_bounds-half_chains-code : goal.offset_bounds-half_chains-code
offset_bounds-half_chains-code c = omega (arith, c.pair_code-code.ensures, pair_low c.args.u.0 c.args.v.0)

pub bounds-half_chains-code : goal.bounds-half_chains-code
bounds-half_chains-code c = omega (arith, c.pair_code-code.ensures, pair_low c.args.u.0 c.args.v.0, c.requires.1.room)
