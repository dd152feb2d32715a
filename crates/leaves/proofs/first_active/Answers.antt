use Prim.Native.Nat.{◌<◌, ◌≤◌}
use native.Mathlib.Omega.{arith}
use mathlib.Core.Path.{refl, sym, ap, ◌∙◌}
use lib.ListN.{length, get_or}
use Rattle.rules.specs.Prune.{first_active_lem}
use Rattle.stars.proofs.Groups.{part_end, part_in}
use Rattle.leaves.proofs.Latest.{first-here, first_later, later_in}
use Rattle.leaves.proofs.first_active.Goals as goal

pub loop-i-init : goal.loop-i-init
loop-i-init c = (refl, c.requires.1)

pub is_active-requires : goal.is_active-requires
is_active-requires c =
    let l = c.args.grouped.now in
    let q = c.loop-i in
    q.invariant.1 (get_or l q.i 0) (part_in q.i c.args.to q.i l (omega arith) (omega arith) c.requires.0)

pub returns-then-is_active : goal.returns-then-is_active
returns-then-is_active c =
    let a = c.args in
    let q = c.loop-i in
    sym (first-here a.dir_edges_marked.now q.i a.to a.grouped.now (omega arith) c.requires.0 (sym c.is_active.ensures ∙ c.if-is_active.true)) ∙ q.invariant.0

pub loop-i-preserved : goal.loop-i-preserved
loop-i-preserved c =
    let a = c.args in
    let q = c.loop-i in
    let m = a.dir_edges_marked.now in
    let l = a.grouped.now in
    let h : q.i < a.to = omega arith in
    let room : a.to ≤ length l = c.requires.0 in (
      sym (first_later m q.i a.to l h room (sym c.is_active.ensures ∙ c.if-is_active.false)) ∙ q.invariant.0,
      λ x i. q.invariant.1 x (later_in m q.i a.to l h room x i),
    )

pub returns : goal.returns
returns c =
    let a = c.args in
    let q = c.loop-i in
    sym (ap (first_active_lem a.dir_edges_marked.now 0) (part_end q.i a.to a.grouped.now (omega arith))) ∙ q.invariant.0
