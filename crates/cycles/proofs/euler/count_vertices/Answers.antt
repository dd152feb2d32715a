use Prim.Native.Nat.{ℕ, ◌+◌}
use native.Mathlib.Omega.{arith}
use native.Mathlib.Numerals.{add-one}
use borrow.Author.Tests.{lt-ltb, le-ltb}
use mathlib.Core.Path.{◌≡◌, refl, ap, ◌∙◌}
use mathlib.Core.Bool.{Bool}
use lib.Dec.{ltb}
use lib.ListN.{length, get_or}
use Rattle.lists.specs.Lists.{below, bit}
use Rattle.lists.proofs.Counts.{length-below}
use Rattle.cycles.proofs.euler.count_vertices.Goals as goal
use Rattle.cycles.proofs.euler.count_vertices.Goals.{then-placed, else-placed}

pub loop-k-init : goal.loop-k-init
loop-k-init c = (omega arith, omega arith, refl)

pub loop-k-preserved : goal.loop-k-preserved
loop-k-preserved c =
    let l = c.args.pieces.now in
    let q = c.loop-k in
    let t : ℕ → Bool = λ j. ltb 0 (get_or l j 0) in
    let one : length (below t (q.k + 1)) ≡ length (below t q.k) + bit (t q.k) = ap (λ k. length (below t k)) (add-one q.k) ∙ length-below t q.k in
    elim c.if-placed.branch [
      | then-placed w ↦ (omega arith, omega (arith, w.count-is), omega (arith, w.count-is, q.invariant.2, one, ap bit (lt-ltb 0 (get_or l q.k 0) w.if-placed.true)))
      | else-placed w ↦ (omega arith, omega (arith, w.count-is), omega (arith, w.count-is, q.invariant.2, one, ap bit (le-ltb 0 (get_or l q.k 0) w.if-placed.false)))
    ]

pub returns : goal.returns
returns c =
    let l = c.args.pieces.now in
    let q = c.loop-k in
    let e : q.k ≡ c.args.nodes = omega (arith, c.from-n.ensures) in
    q.invariant.2 ∙ ap (λ k. length (below (λ j. ltb 0 (get_or l j 0)) k)) e
