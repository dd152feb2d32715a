use Prim.Native.Nat.{◌+◌, ◌*◌}
use native.Mathlib.Omega.{arith}
use mathlib.Core.Path.{◌≡◌, refl, sym, ap, ◌∙◌}
use mathlib.Core.Bool.{true}
use lib.ListN.{length, set, length-set}
use Rattle.lists.specs.Lists.{over}
use Rattle.rules.specs.Stages.{mark_edges}
use Rattle.cycles.specs.Cuts.{cuts_by}
use Rattle.cycles.proofs.Cutting.{passed_yes, passed_no}
use Rattle.cycles.proofs.cuts.cut_edges.Goals as goal
use Rattle.cycles.proofs.cuts.cut_edges.Goals.{then-is_cut, else-is_cut}

pub loop-k-init : goal.loop-k-init
loop-k-init c = (omega arith, omega arith, refl, refl, record { number = refl; marked = refl; listed = refl })

pub bounds-dir_edges_marked-i-then-is_cut : goal.bounds-dir_edges_marked-i-then-is_cut
bounds-dir_edges_marked-i-then-is_cut c = simp length-set (omega arith)

pub loop-k-preserved : goal.loop-k-preserved
loop-k-preserved c =
    let q = c.loop-k in
    elim c.if-is_cut.branch [
      | then-is_cut w ↦
          let m : c.if-is_cut.dir_edges_marked ≡ set (set q.dir_edges_marked (2 * q.k) true) (2 * q.k + 1) true =
          w.dir_edges_marked-is ∙ ap (λ z. set (set q.dir_edges_marked (2 * z) true) (2 * z + 1) true) w.from-i.ensures in
          let o : c.if-is_cut.out ≡ set q.out q.count q.k = w.out-is ∙ ap (λ z. set q.out z q.k) w.from.ensures in (
            omega arith,
            omega (arith, w.count-is),
            ap length m ∙ simp length-set q.invariant.2,
            ap length o ∙ simp length-set q.invariant.3,
            passed_yes c.args.labels.now c.args.dir_edges_marked.now c.args.out.now q.dir_edges_marked c.if-is_cut.dir_edges_marked q.out c.if-is_cut.out q.count c.if-is_cut.count q.k
                (omega (arith, c.requires.in_out)) (sym c.is_cut.ensures ∙ w.if-is_cut.true) m o w.count-is q.invariant.4,
          )
      | else-is_cut w ↦ (
        omega arith,
        omega (arith, w.count-is),
        ap length w.dir_edges_marked-is ∙ q.invariant.2,
        ap length w.out-is ∙ q.invariant.3,
        passed_no c.args.labels.now c.args.dir_edges_marked.now c.args.out.now q.dir_edges_marked c.if-is_cut.dir_edges_marked q.out c.if-is_cut.out q.count c.if-is_cut.count q.k
            (sym c.is_cut.ensures ∙ w.if-is_cut.false) w.dir_edges_marked-is w.out-is w.count-is q.invariant.4,
      )
    ]

pub returns : goal.returns
returns c =
    let q = c.loop-k in
    let m = c.args.dir_edges_marked.now in
    let l = c.args.labels.now in
    let e : q.k ≡ c.args.edges = omega arith in
    let r = q.invariant.4 in
    (r.number ∙ ap (λ k. length (cuts_by k m l)) e, r.marked ∙ ap (λ k. mark_edges (cuts_by k m l) m) e, r.listed ∙ ap (λ k. over (cuts_by k m l) c.args.out.now) e)
