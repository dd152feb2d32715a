use Prim.Native.Nat.{◌+◌, ◌<◌, ◌≤◌}
use native.Mathlib.Omega.{arith}
use mathlib.Core.Path.{◌≡◌, refl, sym, ap, ap₂, ◌∙◌, subst}
use mathlib.Core.Bool.{true, false}
use mathlib.Core.List.{[], ◌∷◌, ◌++◌}
use lib.ListN.{length, get_or, take}
use Rattle.rules.specs.HalfEdge.{twin}
use Rattle.stars.specs.Groups.{unmarked, part}
use Rattle.seeds.specs.Reach.{reach_all, reach_new, ends_of_lem, Reached}
use Rattle.stars.proofs.Groups.{part_end, part_in}
use Rattle.seeds.proofs.Spreading.{Left, left-room, left_one, left_end, ends_yes, ends_no}
use Rattle.pieces.proofs.fill.reach_star.Goals as goal
use Rattle.pieces.proofs.fill.reach_star.Goals.{then-is_active, else-is_active}

pub loop-i-init : goal.loop-i-init
loop-i-init c = (omega arith, c.requires.0.rises, refl, refl, record { numbers = refl; pushed = refl; heights = refl })

pub is_active-requires : goal.is_active-requires
is_active-requires c = c.requires.0.low _ (part_in c.args.from c.args.to c.loop-i.i c.args.grouped.now (omega arith) (omega arith) c.requires.0.ends)

pub end_of-end-requires : goal.end_of-end-requires
end_of-end-requires c = (c.requires.1 _ (part_in c.args.from c.args.to c.loop-i.i c.args.grouped.now (omega arith) (omega arith) c.requires.0.ends)).0

pub reach-height-requires : goal.reach-height-requires
reach-height-requires c =
    let a = c.args in
    let q = c.loop-i in
    let left = (let q = c.loop-i in
    subst (λ r. (Left c.args.piece (ends_of_lem c.args.dir_edges_src.now c.args.dir_edges_marked.now (part c.args.from c.args.to c.args.grouped.now)) c.args.pieces.now c.args.stack.now c.args.top r q.pieces q.stack q.height)) (ends_yes c.args.dir_edges_src.now c.args.dir_edges_marked.now q.i c.args.to c.args.grouped.now (omega arith) c.requires.0.ends (sym c.is_active.ensures ∙ c.if-is_active.true)) q.invariant.4) in
    let low = c.requires.1 _ (part_in c.args.from c.args.to q.i c.args.grouped.now (omega arith) (omega arith) c.requires.0.ends) in
    subst (λ n. (n < length q.pieces) × (q.height + length (reach_new a.piece (n ∷ []) q.pieces) ≤ length q.stack)) (sym c.end_of-end.ensures) (
      omega (arith, q.invariant.2, low.1),
      left-room a.piece (ends_of_lem c.args.dir_edges_src.now c.args.dir_edges_marked.now (part a.from c.args.to c.args.grouped.now)) a.pieces.now a.stack.now a.top (get_or c.args.dir_edges_src.now (twin (get_or c.args.grouped.now q.i 0)) 0) (ends_of_lem c.args.dir_edges_src.now c.args.dir_edges_marked.now (part (q.i + 1) c.args.to c.args.grouped.now)) q.pieces q.stack q.height (length q.stack) left
          (omega (arith, c.requires.2, q.invariant.3)),
    )

-- one that is not has none
left-no : (c : goal.Joined-is_active) → unmarked c.args.dir_edges_marked.now (get_or c.args.grouped.now c.loop-i.i 0) ≡ false
    → let q = c.loop-i in (Left c.args.piece (ends_of_lem c.args.dir_edges_src.now c.args.dir_edges_marked.now (part c.args.from c.args.to c.args.grouped.now)) c.args.pieces.now c.args.stack.now c.args.top (ends_of_lem c.args.dir_edges_src.now c.args.dir_edges_marked.now (part (q.i + 1) c.args.to c.args.grouped.now)) q.pieces q.stack q.height)
left-no c e =
    let q = c.loop-i in
    subst (λ r. (Left c.args.piece (ends_of_lem c.args.dir_edges_src.now c.args.dir_edges_marked.now (part c.args.from c.args.to c.args.grouped.now)) c.args.pieces.now c.args.stack.now c.args.top r q.pieces q.stack q.height)) (ends_no c.args.dir_edges_src.now c.args.dir_edges_marked.now q.i c.args.to c.args.grouped.now (omega arith) c.requires.0.ends e) q.invariant.4

pub loop-i-preserved : goal.loop-i-preserved
loop-i-preserved c =
    let a = c.args in
    let q = c.loop-i in
    let left = (ends_of_lem c.args.dir_edges_src.now c.args.dir_edges_marked.now (part (q.i + 1) c.args.to c.args.grouped.now)) in
    elim c.if-is_active.branch [
      | then-is_active w ↦
          let r : Reached a.piece ((get_or c.args.dir_edges_src.now (twin (get_or c.args.grouped.now q.i 0)) 0) ∷ []) q.pieces q.stack c.if-is_active.pieces c.if-is_active.stack q.height c.if-is_active.height =
          subst (λ n. Reached a.piece (n ∷ []) q.pieces q.stack c.if-is_active.pieces c.if-is_active.stack q.height c.if-is_active.height) w.end_of-end.ensures
          (record {
            numbers = w.pieces-is ∙ w.reach-height.ensures.numbers;
            pushed = ap₂ take w.height-is w.stack-is ∙ w.reach-height.ensures.pushed;
            height = w.height-is ∙ w.reach-height.ensures.height;
          }) in (
            omega arith,
            omega arith,
            ap length w.pieces-is ∙ w.reach-height.auto.pieces ∙ q.invariant.2,
            ap length w.stack-is ∙ w.reach-height.auto.stack ∙ q.invariant.3,
            left_one a.piece (ends_of_lem c.args.dir_edges_src.now c.args.dir_edges_marked.now (part a.from c.args.to c.args.grouped.now)) a.pieces.now a.stack.now a.top (get_or c.args.dir_edges_src.now (twin (get_or c.args.grouped.now q.i 0)) 0) left q.pieces q.stack c.if-is_active.pieces c.if-is_active.stack q.height c.if-is_active.height r
                (let q = c.loop-i in
                subst (λ r. (Left c.args.piece (ends_of_lem c.args.dir_edges_src.now c.args.dir_edges_marked.now (part c.args.from c.args.to c.args.grouped.now)) c.args.pieces.now c.args.stack.now c.args.top r q.pieces q.stack q.height)) (ends_yes c.args.dir_edges_src.now c.args.dir_edges_marked.now q.i c.args.to c.args.grouped.now (omega arith) c.requires.0.ends (sym c.is_active.ensures ∙ w.if-is_active.true)) q.invariant.4),
          )
      | else-is_active w ↦
          let l = left-no c (sym c.is_active.ensures ∙ w.if-is_active.false) in (
            omega arith,
            omega arith,
            ap length w.pieces-is ∙ q.invariant.2,
            ap length w.stack-is ∙ q.invariant.3,
            record {
              numbers = ap (reach_all a.piece left) w.pieces-is ∙ l.numbers;
              pushed = (λ i. take (w.height-is i) (w.stack-is i) ++ reach_new a.piece left (w.pieces-is i)) ∙ l.pushed;
              heights = ap₂ (λ x y. x + length (reach_new a.piece left y)) w.height-is w.pieces-is ∙ l.heights;
            },
          )
    ]

pub returns : goal.returns
returns c =
    let a = c.args in
    let q = c.loop-i in
    left_end a.piece (ends_of_lem c.args.dir_edges_src.now c.args.dir_edges_marked.now (part a.from c.args.to c.args.grouped.now)) a.pieces.now a.stack.now a.top q.pieces q.stack q.height
    (subst (λ r. (Left c.args.piece (ends_of_lem c.args.dir_edges_src.now c.args.dir_edges_marked.now (part c.args.from c.args.to c.args.grouped.now)) c.args.pieces.now c.args.stack.now c.args.top (ends_of_lem a.dir_edges_src.now a.dir_edges_marked.now r) q.pieces q.stack q.height)) (part_end q.i a.to a.grouped.now (omega arith)) q.invariant.4)
