use Prim.Native.Nat.{ℕ, ◌-◌}
use native.Mathlib.Omega.{arith}
use mathlib.Core.Path.{refl, sym, ap, ◌∙◌}
use mathlib.Core.Bool.{Bool}
use Rattle.lists.specs.Lists.{pick, last_of}
use Rattle.stars.specs.Groups.{unmarked}
use Rattle.stars.proofs.Groups.{part_end, part_in}
use Rattle.ring_labels.proofs.Linking.{last_yes, last_no}
use Rattle.ring_labels.proofs.links.last_active.Goals as goal

pub loop-i-init : goal.loop-i-init
loop-i-init c = (c.requires.rises, omega arith, refl)

pub is_active-requires : goal.is_active-requires
is_active-requires c =
    let q = c.loop-i in
    c.requires.low _ (part_in c.args.from c.args.to (q.i - 1) c.args.grouped.now (omega arith) (omega arith) c.requires.ends)

pub returns-then-is_active : goal.returns-then-is_active
returns-then-is_active c =
    let q = c.loop-i in
    let p : ℕ → Bool = unmarked c.args.dir_edges_marked.now in
    sym (last_yes p c.args.from (q.i - 1) q.i c.args.grouped.now (omega arith) (omega arith) (omega (arith, c.requires.ends)) 0 (sym c.is_active.ensures ∙ c.if-is_active.true))
    ∙ q.invariant.2

pub loop-i-preserved : goal.loop-i-preserved
loop-i-preserved c =
    let q = c.loop-i in
    let p : ℕ → Bool = unmarked c.args.dir_edges_marked.now in (
      omega arith,
      omega arith,
      ap (last_of 0) (sym (last_no p c.args.from (q.i - 1) q.i c.args.grouped.now (omega arith) (omega arith) (omega (arith, c.requires.ends)) (sym c.is_active.ensures ∙ c.if-is_active.false)))
          ∙ q.invariant.2,
    )

pub returns : goal.returns
returns c =
    let q = c.loop-i in
    let p : ℕ → Bool = unmarked c.args.dir_edges_marked.now in
    sym (ap (λ r. last_of 0 (pick p r)) (part_end c.args.from q.i c.args.grouped.now (omega arith))) ∙ q.invariant.2
