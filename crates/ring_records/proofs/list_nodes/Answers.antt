use Prim.Native.Nat.{ℕ, ◌<◌}
use native.Mathlib.Omega.{arith}
use mathlib.Core.Path.{◌≡◌, refl, ◌∙◌}
use lib.ListN.{length, get_or, set, length-set, length-map}
use Rattle.file_rules.specs.Lines.{starting_nodes}
use Rattle.tables.proofs.Writing.{over_more, over-all}
use Rattle.ring_records.proofs.Records.{whole, start-at}
use Rattle.ring_records.proofs.list_nodes.Goals as goal

pub loop-i-init : goal.loop-i-init
loop-i-init c = (omega arith, refl, refl)

pub loop-i-preserved : goal.loop-i-preserved
loop-i-preserved c =
    let q = c.loop-i in
    let a = c.args in
    let source = a.dir_edges_src.now in
    let halves = a.half_edges.now in
    let low : q.i < length halves = c.loop-i-test.true in
    let long : length (starting_nodes source halves) ≡ length halves = length-map halves (λ (h : ℕ). get_or source h 0) in
    let node = c.start_of.ensures ∙ start-at source halves q.i low in (
      omega (arith, low),
      length-set q.nodes q.i c.start_of.result ∙ q.invariant.1,
      (λ j. set (q.invariant.2 j) q.i (node j)) ∙ over_more (starting_nodes source halves) a.nodes.now q.i 0 (omega (arith, low, long)) (omega (arith, low)),
    )

pub returns : goal.returns
returns c =
    let q = c.loop-i in
    let a = c.args in
    let row = starting_nodes a.dir_edges_src.now a.half_edges.now in
    let long : length row ≡ length a.half_edges.now = length-map a.half_edges.now (λ (h : ℕ). get_or a.dir_edges_src.now h 0) in
    q.invariant.2 ∙ over-all row a.nodes.now q.i (omega (arith, long)) ∙ whole row a.nodes.now (omega (arith, long))
