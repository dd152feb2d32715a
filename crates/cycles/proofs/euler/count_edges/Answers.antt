use Prim.Native.Nat.{ℕ, ◌+◌, ◌*◌}
use native.Mathlib.Omega.{arith}
use native.Mathlib.Numerals.{add-one}
use mathlib.Core.Path.{◌≡◌, refl, ap, ap₂, ◌∙◌}
use mathlib.Core.Bool.{Bool, true, false, not, ◌&&◌}
use lib.ListN.{length, get_or}
use Rattle.lists.specs.Lists.{below, bit}
use Rattle.lists.proofs.Counts.{length-below}
use Rattle.stars.specs.Groups.{unmarked}
use Rattle.lists.proofs.Entries.{get_d_any}
use Rattle.cycles.proofs.euler.count_edges.Goals as goal
use Rattle.cycles.proofs.euler.count_edges.Goals.{then-active, else-active}

pub loop-k-init : goal.loop-k-init
loop-k-init c = (omega arith, omega arith, refl)

pub loop-k-preserved : goal.loop-k-preserved
loop-k-preserved c =
    let q = c.loop-k in
    let m = c.args.dir_edges_marked.now in
    let t : ℕ → Bool = λ j. unmarked m (2 * j) && unmarked m (2 * j + 1) in
    let w : c.from-n.result ≡ c.args.edges = c.from-n.ensures in
    let a : unmarked m (2 * q.k) ≡ not (get_or m (2 * q.k) false) = ap not (get_d_any m (2 * q.k) true false (omega (arith, c.requires.1))) in
    let b : unmarked m (2 * q.k + 1) ≡ not (get_or m (2 * q.k + 1) false) = ap not (get_d_any m (2 * q.k + 1) true false (omega (arith, c.requires.1))) in
    let e : t q.k ≡ (not (get_or m (2 * q.k) false) && not (get_or m (2 * q.k + 1) false)) = ap₂ ◌&&◌ a b in
    let one : length (below t (q.k + 1)) ≡ length (below t q.k) + bit (t q.k) = ap (λ k. length (below t k)) (add-one q.k) ∙ length-below t q.k in
    elim c.if-active.branch [
      | then-active v ↦ (omega arith, omega (arith, v.count-is), omega (arith, v.count-is, q.invariant.2, one, ap bit (e ∙ v.if-active.true)))
      | else-active v ↦ (omega arith, omega (arith, v.count-is), omega (arith, v.count-is, q.invariant.2, one, ap bit (e ∙ v.if-active.false)))
    ]

pub returns : goal.returns
returns c =
    let q = c.loop-k in
    let m = c.args.dir_edges_marked.now in
    let e : q.k ≡ c.args.edges = omega (arith, c.from-n.ensures) in
    q.invariant.2 ∙ ap (λ k. length (below (λ j. unmarked m (2 * j) && unmarked m (2 * j + 1)) k)) e
