use Prim.Native.Nat.{ℕ, ◌+◌, ◌<◌}
use native.Mathlib.Omega.{arith}
use mathlib.Core.Path.{◌≡◌, refl, sym, ap, ◌∙◌, subst}
use lib.ListN.{length, get_or, take}
use lib.Seq.{length-take-le, get_or-take}
use Rattle.pieces.proofs.Numbering.{SoFar, far_first, far_has, far_new, far_all}
use Rattle.pieces.proofs.number.fill_seeds.Goals as goal
use Rattle.pieces.proofs.number.fill_seeds.Goals.{then-untouched, else-untouched}

pub loop-i-init : goal.loop-i-init
loop-i-init c = (omega arith, omega arith, refl, refl, far_first c.args.dir_edges_src.now c.args.dir_edges_marked.now c.args.offsets.now c.args.grouped.now (take c.args.seeds c.args.order.now) c.args.pieces.now)

pub fill_piece-requires : goal.fill_piece-requires
fill_piece-requires c =
    let q = c.loop-i in
    record {
      nodes = c.requires.nodes;
      edges = c.requires.edges;
      spreads = c.requires.spreads;
      in_pieces = omega (arith, c.requires.in_pieces, q.invariant.2);
      in_stack = omega (arith, c.requires.in_stack, q.invariant.2, q.invariant.3);
      node = c.requires.low q.i (omega arith);
      some = omega arith;
      none = ap (λ n. get_or q.pieces n 0) (sym c.from.ensures) ∙ c.if-untouched.true;
    }

pub loop-i-preserved : goal.loop-i-preserved
loop-i-preserved c =
    let q = c.loop-i in
    let a = c.args in
    let k : ℕ = get_or a.order.now q.i 0 in
    let below : q.i < a.seeds = omega arith in
    let l : q.i < length (take c.args.seeds c.args.order.now) = omega (arith, (length-take-le c.args.seeds c.args.order.now c.requires.in_order_lem)) in
    let at : k ≡ get_or (take c.args.seeds c.args.order.now) q.i 0 = sym (get_or-take a.seeds a.order.now q.i 0 below) in
    let n : c.from.result ≡ k = c.from.ensures in
    elim c.if-untouched.branch [
      | then-untouched w ↦ (
        omega arith,
        omega (arith, w.count-is, q.invariant.1),
        ap length w.pieces-is ∙ w.fill_piece.auto.pieces ∙ q.invariant.2,
        ap length w.stack-is ∙ w.fill_piece.auto.stack ∙ q.invariant.3,
        subst (λ m. SoFar a.dir_edges_src.now a.dir_edges_marked.now a.offsets.now a.grouped.now (take c.args.seeds c.args.order.now) a.pieces.now c.if-untouched.pieces m (q.i + 1)) (sym w.count-is)
            (subst (λ p. SoFar a.dir_edges_src.now a.dir_edges_marked.now a.offsets.now a.grouped.now (take c.args.seeds c.args.order.now) a.pieces.now p (q.count + 1) (q.i + 1)) (sym w.pieces-is)
            (far_new a.dir_edges_src.now a.dir_edges_marked.now a.offsets.now a.grouped.now (take c.args.seeds c.args.order.now) a.pieces.now q.pieces q.count q.i k l at q.invariant.4
            (ap (λ x. get_or q.pieces x 0) (sym n) ∙ w.if-untouched.true) q.invariant.2 _ w.fill_piece.ensures)),
      )
      | else-untouched w ↦ (
        omega arith,
        omega (arith, w.count-is, q.invariant.1),
        ap length w.pieces-is ∙ q.invariant.2,
        ap length w.stack-is ∙ q.invariant.3,
        subst (λ m. SoFar a.dir_edges_src.now a.dir_edges_marked.now a.offsets.now a.grouped.now (take c.args.seeds c.args.order.now) a.pieces.now c.if-untouched.pieces m (q.i + 1)) (sym w.count-is)
            (subst (λ p. SoFar a.dir_edges_src.now a.dir_edges_marked.now a.offsets.now a.grouped.now (take c.args.seeds c.args.order.now) a.pieces.now p q.count (q.i + 1)) (sym w.pieces-is)
            (far_has a.dir_edges_src.now a.dir_edges_marked.now a.offsets.now a.grouped.now (take c.args.seeds c.args.order.now) a.pieces.now q.pieces q.count q.i k l at q.invariant.4
            (λ z. w.if-untouched.false (ap (λ x. get_or q.pieces x 0) n ∙ z)))),
      )
    ]

pub returns : goal.returns
returns c =
    let q = c.loop-i in
    let a = c.args in
    let e : q.i ≡ length (take c.args.seeds c.args.order.now) = omega (arith, (length-take-le c.args.seeds c.args.order.now c.requires.in_order_lem), q.invariant.0) in
    far_all a.dir_edges_src.now a.dir_edges_marked.now a.offsets.now a.grouped.now (take c.args.seeds c.args.order.now) a.pieces.now q.pieces q.count q.i e q.invariant.4
