use Prim.Native.Nat.{◌+◌, ◌*◌, ◌<◌}
use native.Mathlib.Omega.{arith}
use mathlib.Core.Path.{◌≡◌, refl, sym, ap, ◌∙◌}
use mathlib.Core.Bool.{true}
use lib.ListN.{length, get_or, replicate}
use Rattle.lists.specs.Lists.{over}
use Rattle.rules.specs.Cycles.{cycle}
use Rattle.stars.specs.Groups.{unmarked}
use Rattle.ring_labels.specs.Labels.{entry_of, written}
use Rattle.ring_labels.proofs.Labelling.{length-written, held_first, held_new, held-marked, held-has, held_all}
use Rattle.ring_labels.proofs.labels.label_rings.Goals as goal
use Rattle.ring_labels.proofs.labels.label_rings.Goals.{then-is_active+then-labels-from-eq0, then-is_active+else-labels-from-eq0, else-is_active}

pub from-requires : goal.from-requires
from-requires c = tt

pub loop-h-init : goal.loop-h-init
loop-h-init c =
    let a = c.args in
    let m = c.clear_labels.new.labels in
    let e : m ≡ over (replicate (2 * a.edges) 0) a.labels.now = c.clear_labels.ensures ∙ ap (λ k. over (replicate k 0) a.labels.now) c.from.ensures in
    (refl, omega arith, omega arith, λ t. held_first a.edges a.next.now a.dir_edges_marked.now m t a.labels.now e)

pub from-requires-then-is_active : goal.from-requires-then-is_active
from-requires-then-is_active c = tt

pub stamp_ring-requires : goal.stamp_ring-requires
stamp_ring-requires c =
    record {
      count = 2 * c.args.edges;
      active = unmarked c.args.dir_edges_marked.now;
      permutes = c.requires.permutes;
      live = (omega arith, sym c.is_active.ensures ∙ c.if-is_active.true);
      in_next = c.requires.in_next;
      in_labels = omega (arith, c.loop-h.invariant.0, c.clear_labels.auto.labels, c.requires.in_labels);
    }

pub loop-h-preserved : goal.loop-h-preserved
loop-h-preserved c =
    let q = c.loop-h in
    let l : q.h < 2 * c.args.edges = omega arith in
    let e = c.args.edges in
    let n = c.args.next.now in
    let m = c.args.dir_edges_marked.now in
    let old = c.clear_labels.new.labels in
    let test = sym c.is_active.ensures in
    elim c.if-is_active.branch [
      | then-is_active+then-labels-from-eq0 w ↦
          let a : unmarked m q.h ≡ true = test ∙ w.if-is_active.true in
          let z : get_or q.labels q.h 0 ≡ 0 = ap (λ i. get_or q.labels i 0) (sym w.from-then-is_active.ensures) ∙ w.if-labels-from-eq0.true in
          let made : c.if-is_active.labels ≡ written (cycle (entry_of n) (2 * e) q.h) (q.used + 1) q.labels = w.labels-is ∙ w.stamp_ring.ensures (2 * e) (unmarked m) c.requires.permutes (l, a) in (
            ap length made ∙ length-written (cycle (entry_of n) (2 * e) q.h) (q.used + 1) q.labels ∙ q.invariant.0,
            omega arith,
            omega (arith, w.used-is),
            λ t. held_new e n m old t q.labels c.if-is_active.labels q.used c.if-is_active.used q.h l a z made w.used-is (q.invariant.3 t),
          )
      | then-is_active+else-labels-from-eq0 w ↦
          let d : get_or q.labels q.h 0 ≡ 0 → ⊥ = λ z. w.if-labels-from-eq0.false (ap (λ i. get_or q.labels i 0) w.from-then-is_active.ensures ∙ z) in (
            ap length w.labels-is ∙ q.invariant.0,
            omega arith,
            omega (arith, w.used-is),
            λ t. held-has e n m old t q.labels c.if-is_active.labels q.used c.if-is_active.used q.h l (test ∙ w.if-is_active.true) d w.labels-is w.used-is (q.invariant.3 t),
          )
      | else-is_active w ↦ (
        ap length w.labels-is ∙ q.invariant.0,
        omega arith,
        omega (arith, w.used-is),
        λ t. held-marked e n m old t q.labels c.if-is_active.labels q.used c.if-is_active.used q.h l (test ∙ w.if-is_active.false) w.labels-is w.used-is (q.invariant.3 t),
      )
    ]

pub returns : goal.returns
returns c =
    let q = c.loop-h in
    let e : q.h ≡ 2 * c.args.edges = omega arith in
    held_all c.args.edges c.args.next.now c.args.dir_edges_marked.now c.clear_labels.new.labels c.requires.permutes q.labels q.used q.h e (q.invariant.3 c.requires.permutes)
