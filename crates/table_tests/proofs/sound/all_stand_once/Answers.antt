use Prim.Native.Nat.{◌*◌}
use native.Mathlib.Omega.{arith}
use mathlib.Core.Path.{◌≡◌, subst}
use mathlib.Core.Bool.{false}
use lib.ListN.{length-set, length-replicate}
use Rattle.rules.specs.Limits.{limits}
use Rattle.table_tests.proofs.Standing.{Seen, seen_none, seen_more, seen_twice, seen-outside, seen_all}
use Rattle.table_tests.proofs.sound.all_stand_once.Goals as goal

pub loop-i-init : goal.loop-i-init
loop-i-init c = (omega arith, length-replicate (2 * limits.edges) false, seen_none _ _ (2 * limits.edges))

pub returns-then-halves-h : goal.returns-then-halves-h
returns-then-halves-h c =
    let a = c.args in
    seen-outside a.halves a.nodes_outgoing.now c.loop-i.i (omega arith) (omega arith)
    c.from-h.result c.from-h.ensures c.if-halves-h.true

pub returns-then-seen-h : goal.returns-then-seen-h
returns-then-seen-h c =
    let a = c.args in
    seen_twice a.halves a.nodes_outgoing.now c.loop-i.i (omega arith) (omega arith)
    c.loop-i.seen c.from-h.result c.from-h.ensures c.if-halves-h.false c.if-seen-h.true c.loop-i.invariant.2

pub loop-i-preserved : goal.loop-i-preserved
loop-i-preserved c =
    let a = c.args in (
      omega arith,
      simp length-set (omega arith),
      seen_more a.halves a.nodes_outgoing.now c.loop-i.i (omega arith) (omega arith)
          c.loop-i.seen c.from-h.result c.from-h.ensures c.if-halves-h.false (omega arith) c.if-seen-h.false c.loop-i.invariant.2,
    )

pub returns : goal.returns
returns c =
    let a = c.args in
    let e : c.loop-i.i ≡ a.halves = omega arith in
    seen_all a.halves a.nodes_outgoing.now c.loop-i.seen (omega arith) (subst (λ i. Seen a.halves a.nodes_outgoing.now i c.loop-i.seen) e c.loop-i.invariant.2)
