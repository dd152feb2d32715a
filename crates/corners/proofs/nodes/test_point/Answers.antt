use Prim.Native.Nat.{ℕ, ◌+◌, ◌<◌}
use native.Mathlib.Omega.{arith}
use mathlib.Core.Path.{◌≡◌, refl, sym, ap, ◌∙◌, subst}
use mathlib.Core.Bool.{true, false, not}
use mathlib.Core.List.{[], List, ◌∷◌, ◌++◌, append-nil}
use lib.ListN.{length, get_or, take}
use lib.Seq.{take_all}
use lib.Dec.{eqb}
use borrow.Author.Tests.{eq-eqb, ne_eqb}
use Rattle.lists.proofs.Members.{in_at, pick_in, pick-append}
use Rattle.std.specs.declared.option.Option.TheVariants.{Some}
use Rattle.inside.specs.Spots.{spot_in}
use Rattle.corners.specs.Nodes.{unstamped, Leftmost}
use Rattle.corners.proofs.Fronts.{front_more, in_front_lem}
use Rattle.corners.proofs.Lefts.{leftmost-none}
use Rattle.corners.proofs.nodes.test_point.Goals as goal
use Rattle.corners.proofs.nodes.test_point.Goals.{then-stamps-from, else-stamps-from}

-- with it, or without it where it has the stamp
more-unstamped : (stamp : ℕ) (stamps l : List ℕ) (k : ℕ) → k < length l → eqb (get_or stamps (get_or l k 0) 0) stamp ≡ false
    → unstamped stamp stamps (take (k + 1) l) ≡ unstamped stamp stamps (take k l) ++ (get_or l k 0 ∷ [])
more-unstamped stamp stamps l k low e =
    ap (unstamped stamp stamps) (front_more l k low)
    ∙ pick-append (λ n. not (eqb (get_or stamps n 0) stamp)) (take k l) (get_or l k 0 ∷ [])
    ∙ rw e refl

same-unstamped : (stamp : ℕ) (stamps l : List ℕ) (k : ℕ) → k < length l → eqb (get_or stamps (get_or l k 0) 0) stamp ≡ true
    → unstamped stamp stamps (take (k + 1) l) ≡ unstamped stamp stamps (take k l)
same-unstamped stamp stamps l k low e =
    ap (unstamped stamp stamps) (front_more l k low)
    ∙ pick-append (λ n. not (eqb (get_or stamps n 0) stamp)) (take k l) (get_or l k 0 ∷ [])
    ∙ rw e refl
    ∙ append-nil (unstamped stamp stamps (take k l))

pub loop-node-init : goal.loop-node-init
loop-node-init c = (omega arith, leftmost-none (spot_in c.args.xs.now c.args.ys.now))

pub from-requires : goal.from-requires
from-requires c = tt

pub bounds-stamps-from : goal.bounds-stamps-from
bounds-stamps-from c =
    let q = c.loop-node in
    omega (arith, c.requires.0 (get_or c.args.nodes.now q.node-index 0) (in_at c.args.nodes.now q.node-index c.loop-node-test.true))

pub leftmost-requires : goal.leftmost-requires
leftmost-requires c =
    let q = c.loop-node in
    let n = (in_at c.args.nodes.now c.loop-node.node-index c.loop-node-test.true) in (
      c.requires.1 (get_or c.args.nodes.now c.loop-node.node-index 0) n,
      c.requires.2 (get_or c.args.nodes.now c.loop-node.node-index 0) n,
      λ p e.
          let one = (subst (Leftmost (spot_in c.args.xs.now c.args.ys.now) (unstamped c.args.stamp c.args.stamps.now (take q.node-index c.args.nodes.now))) e q.invariant.1).0 in
          let m = in_front_lem p q.node-index c.args.nodes.now (pick_in (λ v. not (eqb (get_or c.args.stamps.now v 0) c.args.stamp)) p (take q.node-index c.args.nodes.now) one).0 in
          (c.requires.1 p m, c.requires.2 p m),
    )

pub loop-node-preserved : goal.loop-node-preserved
loop-node-preserved c =
    let q = c.loop-node in
    let l = c.args.nodes.now in
    let at = spot_in c.args.xs.now c.args.ys.now in
    let more = c.loop-node-test.true in
    let old = unstamped c.args.stamp c.args.stamps.now (take q.node-index l) in
    let there = ap (λ n. get_or c.args.stamps.now n 0) c.from.ensures in (
      omega (arith, more),
      elim c.if-stamps-from.branch [
        | then-stamps-from w ↦
            let other = ne_eqb (get_or c.args.stamps.now (get_or l q.node-index 0) 0) c.args.stamp (λ e. w.if-stamps-from.true (there ∙ e)) in
            subst (λ r. Leftmost at (unstamped c.args.stamp c.args.stamps.now (take (q.node-index + 1) l)) r) (sym w.point-is)
            (subst (λ f. Leftmost at f (Some w.leftmost.result)) (sym (more-unstamped c.args.stamp c.args.stamps.now l q.node-index more other)) (w.leftmost.ensures old q.invariant.1))
        | else-stamps-from w ↦
            let same = eq-eqb (get_or c.args.stamps.now (get_or l q.node-index 0) 0) c.args.stamp (sym there ∙ w.if-stamps-from.false) in
            subst (λ r. Leftmost at (unstamped c.args.stamp c.args.stamps.now (take (q.node-index + 1) l)) r) (sym w.point-is)
            (subst (λ f. Leftmost at f q.point) (sym (same-unstamped c.args.stamp c.args.stamps.now l q.node-index more same)) q.invariant.1)
      ],
    )

pub returns : goal.returns
returns c =
    let q = c.loop-node in
    subst (λ l. Leftmost (spot_in c.args.xs.now c.args.ys.now) (unstamped c.args.stamp c.args.stamps.now l) q.point)
    (take_all q.node-index c.args.nodes.now (omega arith)) q.invariant.1
