use Prim.Native.Nat.{◌<◌}
use native.Mathlib.Omega.{arith}
use mathlib.Core.Path.{◌≡◌, refl, sym, ap, ◌∙◌, subst}
use mathlib.Core.Bool.{◌&&◌}
use lib.ListN.{length, set, length-set}
use lib.Dec.{ltb}
use borrow.Author.Tests.{ltb-true}
use Rattle.lists.specs.Lists.{In}
use Rattle.lists.proofs.Tests.{both}
use Rattle.rules.specs.Cycles.{walk, cycle}
use Rattle.rules.specs.Sane.{Live}
use Rattle.rules.proofs.CycleLaws.{cycle_self, cycle-live}
use Rattle.rules.proofs.Marking.{stamp, cycle-next, walk_less, stamp_on, stamp_end}
use Rattle.rules.proofs.Sweep.{cycle_stamp}
use Rattle.ring_labels.specs.Labels.{entry_of, written}
use Rattle.rules.proofs.Framing.{permutes_wide, live_wide, cycle-frame}
use Rattle.ring_labels.proofs.Labelling.{mark_written}
use Rattle.ring_labels.proofs.labels.stamp_ring.Goals as goal

pub from-first-requires : goal.from-first-requires
from-first-requires c = tt

pub loop-cur-init : goal.loop-cur-init
loop-cur-init c =
    let m = cycle_self (entry_of c.args.next.now) (length c.args.next.now) (λ h. ltb h c.requires.count && c.requires.active h) (permutes_wide (entry_of c.args.next.now) c.requires.count (length c.args.next.now) c.requires.active c.requires.in_next c.requires.permutes) (c.from-first.result) (subst (λ h. Live (length c.args.next.now) (λ h. ltb h c.requires.count && c.requires.active h) h) (sym c.from-first.ensures) (live_wide c.requires.count (length c.args.next.now) c.requires.active c.args.start.0 c.requires.in_next c.requires.live)) in (
      refl,
      (let it : ((c.from-first.result) < (length c.args.next.now)) × ((c.from-first.result) < length c.args.labels.now) = let a = cycle-live (entry_of c.args.next.now) (length c.args.next.now) (λ h. ltb h c.requires.count && c.requires.active h) (permutes_wide (entry_of c.args.next.now) c.requires.count (length c.args.next.now) c.requires.active c.requires.in_next c.requires.permutes) (c.from-first.result) (c.from-first.result) (subst (λ h. Live (length c.args.next.now) (λ h. ltb h c.requires.count && c.requires.active h) h) (sym c.from-first.ensures) (live_wide c.requires.count (length c.args.next.now) c.requires.active c.args.start.0 c.requires.in_next c.requires.live)) m in
          let p = both (ltb (c.from-first.result) c.requires.count) (c.requires.active (c.from-first.result)) a.1 in
          (a.0, omega (arith, ltb-true (c.from-first.result) c.requires.count p.0, c.requires.in_labels)) in it).0,
      (let it : ((c.from-first.result) < (length c.args.next.now)) × ((c.from-first.result) < length c.args.labels.now) = let a = cycle-live (entry_of c.args.next.now) (length c.args.next.now) (λ h. ltb h c.requires.count && c.requires.active h) (permutes_wide (entry_of c.args.next.now) c.requires.count (length c.args.next.now) c.requires.active c.requires.in_next c.requires.permutes) (c.from-first.result) (c.from-first.result) (subst (λ h. Live (length c.args.next.now) (λ h. ltb h c.requires.count && c.requires.active h) h) (sym c.from-first.ensures) (live_wide c.requires.count (length c.args.next.now) c.requires.active c.args.start.0 c.requires.in_next c.requires.live)) m in
          let p = both (ltb (c.from-first.result) c.requires.count) (c.requires.active (c.from-first.result)) a.1 in
          (a.0, omega (arith, ltb-true (c.from-first.result) c.requires.count p.0, c.requires.in_labels)) in it).1,
      m,
      refl,
    )

pub from-cur-requires : goal.from-cur-requires
from-cur-requires c = tt

pub loop-cur-smaller : goal.loop-cur-smaller
loop-cur-smaller c =
    let q = c.loop-cur in
    let e : c.from-cur.result ≡ entry_of c.args.next.now q.cur = c.from-cur.ensures in
    subst (λ z. length (walk (entry_of c.args.next.now) (length c.args.next.now) (c.from-first.result) z) < length (walk (entry_of c.args.next.now) (length c.args.next.now) (c.from-first.result) q.cur)) (sym e)
    (walk_less (entry_of c.args.next.now) (length c.args.next.now) (λ h. ltb h c.requires.count && c.requires.active h) (permutes_wide (entry_of c.args.next.now) c.requires.count (length c.args.next.now) c.requires.active c.requires.in_next c.requires.permutes) (c.from-first.result) (subst (λ h. Live (length c.args.next.now) (λ h. ltb h c.requires.count && c.requires.active h) h) (sym c.from-first.ensures) (live_wide c.requires.count (length c.args.next.now) c.requires.active c.args.start.0 c.requires.in_next c.requires.live)) q.cur q.invariant.3 (λ z. c.if-cur-first.false (e ∙ z)))

pub loop-cur-preserved : goal.loop-cur-preserved
loop-cur-preserved c =
    let q = c.loop-cur in
    let e : c.from-cur.result ≡ entry_of c.args.next.now q.cur = c.from-cur.ensures in
    let m : In c.from-cur.result (cycle (entry_of c.args.next.now) (length c.args.next.now) (c.from-first.result)) =
    subst (λ z. In z (cycle (entry_of c.args.next.now) (length c.args.next.now) (c.from-first.result))) (sym e) (cycle-next (entry_of c.args.next.now) (length c.args.next.now) (λ h. ltb h c.requires.count && c.requires.active h) (permutes_wide (entry_of c.args.next.now) c.requires.count (length c.args.next.now) c.requires.active c.requires.in_next c.requires.permutes) (c.from-first.result) (subst (λ h. Live (length c.args.next.now) (λ h. ltb h c.requires.count && c.requires.active h) h) (sym c.from-first.ensures) (live_wide c.requires.count (length c.args.next.now) c.requires.active c.args.start.0 c.requires.in_next c.requires.live)) q.cur q.invariant.3) in
    let k = (let it : (c.from-cur.result < (length c.args.next.now)) × (c.from-cur.result < length c.args.labels.now) = let a = cycle-live (entry_of c.args.next.now) (length c.args.next.now) (λ h. ltb h c.requires.count && c.requires.active h) (permutes_wide (entry_of c.args.next.now) c.requires.count (length c.args.next.now) c.requires.active c.requires.in_next c.requires.permutes) (c.from-first.result) c.from-cur.result (subst (λ h. Live (length c.args.next.now) (λ h. ltb h c.requires.count && c.requires.active h) h) (sym c.from-first.ensures) (live_wide c.requires.count (length c.args.next.now) c.requires.active c.args.start.0 c.requires.in_next c.requires.live)) m in
    let p = both (ltb c.from-cur.result c.requires.count) (c.requires.active c.from-cur.result) a.1 in
    (a.0, omega (arith, ltb-true c.from-cur.result c.requires.count p.0, c.requires.in_labels)) in it) in
    let size : length (set q.labels q.cur c.args.label) ≡ length c.args.labels.now = length-set q.labels q.cur c.args.label ∙ q.invariant.0 in (
      size,
      k.0,
      omega arith,
      m,
      ap (λ z. stamp (entry_of c.args.next.now) c.args.label (length c.args.next.now) (c.from-first.result) z (set q.labels q.cur c.args.label)) e
          ∙ sym (stamp_on (entry_of c.args.next.now) (length c.args.next.now) (λ h. ltb h c.requires.count && c.requires.active h) (permutes_wide (entry_of c.args.next.now) c.requires.count (length c.args.next.now) c.requires.active c.requires.in_next c.requires.permutes) (c.from-first.result) (subst (λ h. Live (length c.args.next.now) (λ h. ltb h c.requires.count && c.requires.active h) h) (sym c.from-first.ensures) (live_wide c.requires.count (length c.args.next.now) c.requires.active c.args.start.0 c.requires.in_next c.requires.live)) c.args.label q.labels q.cur q.invariant.3 (λ z. c.if-cur-first.false (e ∙ z)))
          ∙ q.invariant.4,
    )

pub returns : goal.returns
returns c =
    let q = c.loop-cur in
    λ m active t a.
    let a' = subst (λ h. Live m active h) (sym c.from-first.ensures) a in
    sym (stamp_end (entry_of c.args.next.now) (length c.args.next.now) (λ h. ltb h c.requires.count && c.requires.active h) (permutes_wide (entry_of c.args.next.now) c.requires.count (length c.args.next.now) c.requires.active c.requires.in_next c.requires.permutes) (c.from-first.result) (subst (λ h. Live (length c.args.next.now) (λ h. ltb h c.requires.count && c.requires.active h) h) (sym c.from-first.ensures) (live_wide c.requires.count (length c.args.next.now) c.requires.active c.args.start.0 c.requires.in_next c.requires.live)) c.args.label q.labels q.cur q.invariant.3 (sym c.from-cur.ensures ∙ c.if-cur-first.true))
    ∙ q.invariant.4
    ∙ cycle_stamp (entry_of c.args.next.now) (length c.args.next.now) c.args.label (c.from-first.result) c.args.labels.now
    ∙ mark_written (cycle (entry_of c.args.next.now) (length c.args.next.now) (c.from-first.result)) c.args.label c.args.labels.now
    ∙ ap (λ l. written l c.args.label c.args.labels.now) (cycle-frame (entry_of c.args.next.now) (length c.args.next.now) m (λ h. ltb h c.requires.count && c.requires.active h) active (permutes_wide (entry_of c.args.next.now) c.requires.count (length c.args.next.now) c.requires.active c.requires.in_next c.requires.permutes) t (c.from-first.result) (subst (λ h. Live (length c.args.next.now) (λ h. ltb h c.requires.count && c.requires.active h) h) (sym c.from-first.ensures) (live_wide c.requires.count (length c.args.next.now) c.requires.active c.args.start.0 c.requires.in_next c.requires.live)) a')
    ∙ ap (λ h. written (cycle (entry_of c.args.next.now) m h) c.args.label c.args.labels.now) c.from-first.ensures
