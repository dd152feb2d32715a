use native.Mathlib.Omega.{arith}
use mathlib.Core.Path.{◌≡◌, sym, ap, subst, ◌∙◌}
use lib.ListN.{get_or}
use borrow.Author.Tests.{eq-eqb, ne_eqb}
use Rattle.candidates.specs.Candidates.{Candidates}
use Rattle.candidates.proofs.Listing.{listed-writable, gone_none, gone_other, gone_one}
use Rattle.candidates.proofs.list_enclosed.Goals as goal
use Rattle.candidates.proofs.list_enclosed.Goals.{then-enclosed, else-enclosed}

pub loop-i-init : goal.loop-i-init
loop-i-init c = gone_none

pub put_candidate-requires : goal.put_candidate-requires
put_candidate-requires c =
    let q = c.loop-i in
    let g = c.requires in
    let yes = eq-eqb _ 1 (ap (λ n. get_or c.args.ring_side.now n 0) (sym c.from.ensures) ∙ c.if-enclosed.true) in
    listed-writable g.1 c.loop-i-test.true (q.invariant.listed g.0 g.1) yes q.invariant.same_rings q.invariant.same_numbers

pub loop-i-preserved : goal.loop-i-preserved
loop-i-preserved c =
    let q = c.loop-i in
    let more = c.loop-i-test.true in
    let side = ap (λ n. get_or c.args.ring_side.now n 0) (sym c.from.ensures) in
    elim c.if-enclosed.branch [
      | then-enclosed w ↦
          rw (w.rings-is, w.numbers-is, w.n-is) (gone_one more q.invariant (eq-eqb _ 1 (side ∙ w.if-enclosed.true)) w.put_candidate.ensures)
      | else-enclosed w ↦
          rw (w.rings-is, w.numbers-is, w.n-is) (gone_other more q.invariant (ne_eqb _ 1 (λ e. w.if-enclosed.false (sym side ∙ e))))
    ]

pub returns : goal.returns
returns c =
    λ rs given.
    let q = c.loop-i in
    let a = c.args in
    let done : q.i ≡ a.count = omega (arith, q.invariant.goes, c.loop-i-test.false) in
    subst (λ k. Candidates rs a.nodes.now a.xs.now a.ys.now a.ring_first.now a.ring_length.now a.node_count k q.rings q.numbers q.n) done (q.invariant.listed rs given)
