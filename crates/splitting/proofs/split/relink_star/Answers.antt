use Prim.Native.Nat.{ℕ, ◌-◌, ◌*◌}
use native.Mathlib.Omega.{arith}
use mathlib.Core.Path.{◌≡◌, refl, sym, ap, ap₂, ◌∙◌}
use mathlib.Core.Bool.{Bool}
use mathlib.Core.List.{[], ◌∷◌}
use lib.ListN.{get_or, set, length-set}
use Rattle.lists.specs.Lists.{pick}
use Rattle.rules.specs.HalfEdge.{twin}
use Rattle.stars.specs.Groups.{unmarked, part}
use Rattle.splitting.specs.Splits.{entry_of, noted, relinked}
use Rattle.rules.proofs.Twin.{twin-below}
use Rattle.stars.proofs.Groups.{part_end, part_in}
use Rattle.splitting.proofs.Parts.{part_low, before_yes, before_no}
use Rattle.splitting.proofs.split.relink_star.Goals as goal

pub loop-i-init : goal.loop-i-init
loop-i-init c =
    let p : ℕ → Bool = unmarked c.args.dir_edges_marked.now in
    let lab = entry_of c.args.labels.now in
    let e : [] ≡ part c.args.to c.args.to c.args.grouped.now = sym (part_end c.args.to c.args.to c.args.grouped.now (omega arith)) in (
      c.requires.star_within.within.rises,
      omega arith,
      refl,
      refl,
      ap (λ r. noted lab (pick p r) c.args.upcoming.now) e,
      ap (λ r. relinked lab c.args.upcoming.now (pick p r) c.args.next.now) e,
    )

pub is_active-requires : goal.is_active-requires
is_active-requires c = omega (arith, part_low (2 * c.requires.star_within.edges) c.args.from c.args.to (c.loop-i.i - 1) c.args.grouped.now c.requires.star_within.within (omega arith) (omega arith), c.requires.star_within.in_marks)

pub index_at-requires : goal.index_at-requires
index_at-requires c = omega (arith, part_low (2 * c.requires.star_within.edges) c.args.from c.args.to (c.loop-i.i - 1) c.args.grouped.now c.requires.star_within.within (omega arith) (omega arith), c.requires.star_within.in_labels)

-- the half-edge's label has a place
pub bounds-upcoming-index_at : goal.bounds-upcoming-index_at
bounds-upcoming-index_at c =
    omega (arith, c.requires.star_within.low _ (part_low (2 * c.requires.star_within.edges) c.args.from c.args.to (c.loop-i.i - 1) c.args.grouped.now c.requires.star_within.within (omega arith) (omega arith)), c.index_at.ensures, c.loop-i.invariant.2)

pub index_at-requires-then-is_active : goal.index_at-requires-then-is_active
index_at-requires-then-is_active c =
    omega (arith, twin-below c.requires.star_within.edges (get_or c.args.grouped.now (c.loop-i.i - 1) 0) (part_low (2 * c.requires.star_within.edges) c.args.from c.args.to (c.loop-i.i - 1) c.args.grouped.now c.requires.star_within.within (omega arith) (omega arith)), c.twin_of-incoming.ensures, c.requires.star_within.in_labels)

-- the twin's label has one too
pub bounds-upcoming-index_at-then-is_active : goal.bounds-upcoming-index_at-then-is_active
bounds-upcoming-index_at-then-is_active c =
    let q = c.loop-i in
    let h : ℕ = get_or c.args.grouped.now (q.i - 1) 0 in
    let e : c.index_at-then-is_active.result ≡ get_or c.args.labels.now (twin h) 0 =
    c.index_at-then-is_active.ensures ∙ ap (entry_of c.args.labels.now) c.twin_of-incoming.ensures in
    omega (arith, c.requires.star_within.low _ (twin-below c.requires.star_within.edges (get_or c.args.grouped.now (c.loop-i.i - 1) 0) (part_low (2 * c.requires.star_within.edges) c.args.from c.args.to (c.loop-i.i - 1) c.args.grouped.now c.requires.star_within.within (omega arith) (omega arith))), q.invariant.2, length-set q.upcoming c.index_at.result h)

-- and the twin has a successor
pub bounds-next-from : goal.bounds-next-from
bounds-next-from c =
    omega (arith, c.requires.by_index _ (part_in c.args.from c.args.to (c.loop-i.i - 1) c.args.grouped.now (omega arith) (omega arith) c.requires.star_within.within.ends), c.from.ensures, c.twin_of-incoming.ensures, c.loop-i.invariant.3)

pub loop-i-preserved-then-is_active : goal.loop-i-preserved-then-is_active
loop-i-preserved-then-is_active c =
    let q = c.loop-i in
    let l = c.args.grouped.now in
    let lab = entry_of c.args.labels.now in
    let p : ℕ → Bool = unmarked c.args.dir_edges_marked.now in
    let h : ℕ = get_or l (q.i - 1) 0 in
    let u₀ = c.args.upcoming.now in
    let u = set q.upcoming c.index_at.result h in
    let r = pick p (part q.i c.args.to l) in
    let more : pick p (part (q.i - 1) c.args.to l) ≡ h ∷ r =
    before_yes p (q.i - 1) q.i c.args.to l (omega arith) q.invariant.1 c.requires.star_within.within.ends (sym c.is_active.ensures ∙ c.if-is_active.true) in
    let e₁ : c.from.result ≡ twin h = c.from.ensures ∙ c.twin_of-incoming.ensures in
    let e₂ : c.index_at-then-is_active.result ≡ lab (twin h) = c.index_at-then-is_active.ensures ∙ ap lab c.twin_of-incoming.ensures in
    let up : u ≡ noted lab (h ∷ r) u₀ = ap (λ k. set q.upcoming k h) c.index_at.ensures ∙ ap (λ z. set z (lab h) h) q.invariant.4 in (
      omega arith,
      omega arith,
      length-set q.upcoming c.index_at.result h ∙ q.invariant.2,
      length-set q.next c.from.result (get_or u c.index_at-then-is_active.result 0) ∙ q.invariant.3,
      up ∙ ap (λ z. noted lab z u₀) (sym more),
      ap (λ k. set q.next k (get_or u c.index_at-then-is_active.result 0)) e₁ ∙ ap (λ k. set q.next (twin h) (get_or u k 0)) e₂
          ∙ ap₂ (λ n z. set n (twin h) (get_or z (lab (twin h)) 0)) q.invariant.5 up ∙ ap (λ z. relinked lab u₀ z c.args.next.now) (sym more),
    )

pub loop-i-preserved : goal.loop-i-preserved
loop-i-preserved c =
    let q = c.loop-i in
    let l = c.args.grouped.now in
    let lab = entry_of c.args.labels.now in
    let p : ℕ → Bool = unmarked c.args.dir_edges_marked.now in
    let same = sym (before_no p (q.i - 1) q.i c.args.to l (omega arith) q.invariant.1 c.requires.star_within.within.ends (sym c.is_active.ensures ∙ c.if-is_active.false)) in (
      omega arith,
      omega arith,
      q.invariant.2,
      q.invariant.3,
      q.invariant.4 ∙ ap (λ r. noted lab r c.args.upcoming.now) same,
      q.invariant.5 ∙ ap (λ r. relinked lab c.args.upcoming.now r c.args.next.now) same,
    )

pub returns : goal.returns
returns c =
    let q = c.loop-i in
    let p : ℕ → Bool = unmarked c.args.dir_edges_marked.now in
    let lab = entry_of c.args.labels.now in
    let e : q.i ≡ c.args.from = omega arith in record {
      upcoming_after = q.invariant.4 ∙ ap (λ k. noted lab (pick p (part k c.args.to c.args.grouped.now)) c.args.upcoming.now) e;
      next_after = q.invariant.5 ∙ ap (λ k. relinked lab c.args.upcoming.now (pick p (part k c.args.to c.args.grouped.now)) c.args.next.now) e;
    }
