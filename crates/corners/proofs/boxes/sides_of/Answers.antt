use native.Mathlib.Omega.{arith}
use mathlib.Core.Path.{sym, subst}
use lib.ListN.{get_or, take}
use lib.Seq.{take_all}
use Rattle.lists.proofs.Members.{in_at}
use Rattle.corners.specs.Boxes.{Outermost}
use Rattle.corners.proofs.Fronts.{front_more, in_front_lem}
use Rattle.corners.proofs.Boxing.{outermost_one, outermost_more, sides-within}
use Rattle.corners.proofs.boxes.sides_of.Goals as goal

pub bounds-nodes-0 : goal.bounds-nodes-0
bounds-nodes-0 c = c.requires.0

pub loop-k-init : goal.loop-k-init
loop-k-init c =
    let l = c.args.nodes.now in
    (omega (arith, c.requires.0), subst (λ f. Outermost c.args.xs.now c.args.ys.now f (record { left = get_or l 0 0; right = get_or l 0 0; low = get_or l 0 0; high = get_or l 0 0 })) (sym (front_more l 0 c.requires.0)) (outermost_one c.args.xs.now c.args.ys.now (get_or l 0 0)))

pub widen-sides-requires : goal.widen-sides-requires
widen-sides-requires c =
    let q = c.loop-k in
    let l = c.args.nodes.now in
    let m = in_at l q.k c.loop-k-test.true in (
      sides-within c.args.xs.now c.args.ys.now (take q.k l) q.sides _ _ q.invariant.1 (λ n k. c.requires.1 n (in_front_lem n q.k l k)) (λ n k. c.requires.2 n (in_front_lem n q.k l k)),
      c.requires.1 _ m,
      c.requires.2 _ m,
    )

pub loop-k-preserved : goal.loop-k-preserved
loop-k-preserved c =
    let q = c.loop-k in
    let l = c.args.nodes.now in
    let more = c.loop-k-test.true in (
      omega (arith, more),
      subst (λ f. Outermost c.args.xs.now c.args.ys.now f c.widen-sides.result) (sym (front_more l q.k more))
          (outermost_more c.args.xs.now c.args.ys.now (take q.k l) (get_or l q.k 0) q.sides c.widen-sides.result q.invariant.1 c.widen-sides.ensures),
    )

pub returns : goal.returns
returns c =
    let q = c.loop-k in
    subst (λ f. Outermost c.args.xs.now c.args.ys.now f q.sides) (take_all q.k c.args.nodes.now (omega arith)) q.invariant.1
