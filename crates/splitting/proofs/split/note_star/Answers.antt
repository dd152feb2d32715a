use Prim.Native.Nat.{ℕ, ◌-◌, ◌*◌}
use native.Mathlib.Omega.{arith}
use mathlib.Core.Path.{◌≡◌, refl, sym, ap, ◌∙◌}
use mathlib.Core.Bool.{Bool}
use lib.ListN.{get_or, set, length-set}
use Rattle.lists.specs.Lists.{pick}
use Rattle.stars.specs.Groups.{unmarked, part}
use Rattle.splitting.specs.Splits.{entry_of, noted}
use Rattle.stars.proofs.Groups.{part_end}
use Rattle.splitting.proofs.Parts.{part_low, before_yes, before_no}
use Rattle.splitting.proofs.split.note_star.Goals as goal

pub loop-i-init : goal.loop-i-init
loop-i-init c =
    let p : ℕ → Bool = unmarked c.args.dir_edges_marked.now in (
      c.requires.within.rises,
      omega arith,
      refl,
      ap (λ r. noted (entry_of c.args.labels.now) (pick p r) c.args.upcoming.now) (sym (part_end c.args.to c.args.to c.args.grouped.now (omega arith))),
    )

pub is_active-requires : goal.is_active-requires
is_active-requires c = omega (arith, part_low (2 * c.requires.edges) c.args.from c.args.to (c.loop-i.i - 1) c.args.grouped.now c.requires.within (omega arith) (omega arith), c.requires.in_marks)

pub index_at-requires : goal.index_at-requires
index_at-requires c = omega (arith, part_low (2 * c.requires.edges) c.args.from c.args.to (c.loop-i.i - 1) c.args.grouped.now c.requires.within (omega arith) (omega arith), c.requires.in_labels)

-- its label has a place
pub bounds-upcoming-index_at : goal.bounds-upcoming-index_at
bounds-upcoming-index_at c =
    omega (arith, c.requires.low _ (part_low (2 * c.requires.edges) c.args.from c.args.to (c.loop-i.i - 1) c.args.grouped.now c.requires.within (omega arith) (omega arith)), c.index_at.ensures, c.loop-i.invariant.2)

pub loop-i-preserved-then-is_active : goal.loop-i-preserved-then-is_active
loop-i-preserved-then-is_active c =
    let q = c.loop-i in
    let l = c.args.grouped.now in
    let lab = entry_of c.args.labels.now in
    let p : ℕ → Bool = unmarked c.args.dir_edges_marked.now in
    let h : ℕ = get_or l (q.i - 1) 0 in (
      omega arith,
      omega arith,
      length-set q.upcoming c.index_at.result h ∙ q.invariant.2,
      ap (λ k. set q.upcoming k h) c.index_at.ensures ∙ ap (λ u. set u (lab h) h) q.invariant.3
          ∙ ap (λ r. noted lab r c.args.upcoming.now)
          (sym (before_yes p (q.i - 1) q.i c.args.to l (omega arith) q.invariant.1 c.requires.within.ends (sym c.is_active.ensures ∙ c.if-is_active.true))),
    )

pub loop-i-preserved : goal.loop-i-preserved
loop-i-preserved c =
    let q = c.loop-i in
    let l = c.args.grouped.now in
    let lab = entry_of c.args.labels.now in
    let p : ℕ → Bool = unmarked c.args.dir_edges_marked.now in (
      omega arith,
      omega arith,
      q.invariant.2,
      q.invariant.3 ∙ ap (λ r. noted lab r c.args.upcoming.now)
          (sym (before_no p (q.i - 1) q.i c.args.to l (omega arith) q.invariant.1 c.requires.within.ends (sym c.is_active.ensures ∙ c.if-is_active.false))),
    )

pub returns : goal.returns
returns c =
    let q = c.loop-i in
    let p : ℕ → Bool = unmarked c.args.dir_edges_marked.now in
    let e : q.i ≡ c.args.from = omega arith in
    q.invariant.3 ∙ ap (λ k. noted (entry_of c.args.labels.now) (pick p (part k c.args.to c.args.grouped.now)) c.args.upcoming.now) e
