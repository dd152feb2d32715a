use Prim.Native.Nat.{ℕ, ◌<◌}
use native.Mathlib.Omega.{arith}
use mathlib.Core.Path.{◌≡◌, refl, sym, ap, ◌∙◌}
use mathlib.Core.List.{List, map}
use lib.ListN.{length, get_or, set, length-set, length-map, get_or-map}
use Rattle.lists.proofs.Entries.{get_d_any}
use Rattle.tables.proofs.Writing.{over_more, over-all}
use Rattle.rules.specs.Holes.{ring_nodes}
use Rattle.holding.specs.Maps.{origins}
use Rattle.holders.proofs.write_nodes.Goals as goal

-- the start of half-edge k
start_of : (source halves : List ℕ) (k : ℕ) → k < length halves → get_or source (get_or halves k 0) 0 ≡ get_or (ring_nodes (origins source) halves) k 0
start_of source halves k low =
    let f : ℕ → ℕ = λ h. get_or source h 0 in
    sym (get_d_any (map f halves) k 0 (f 0) (omega (arith, low, length-map halves f)) ∙ get_or-map f halves k 0)

pub loop-k-init : goal.loop-k-init
loop-k-init c = (omega arith, refl, refl)

pub bounds-dir_edges_src-from : goal.bounds-dir_edges_src-from
bounds-dir_edges_src-from c = omega (arith, c.requires.1 c.loop-k.k c.loop-k-test.true, c.from.ensures)

pub loop-k-preserved : goal.loop-k-preserved
loop-k-preserved c =
    let q = c.loop-k in
    let source = c.args.dir_edges_src.now in
    let halves = c.args.half_edges.now in
    let row = ring_nodes (origins source) halves in
    let low : q.k < length halves = c.loop-k-test.true in
    let long : length row ≡ length halves = length-map halves (λ (h : ℕ). get_or source h 0) in
    let node = ap (λ h. get_or source h 0) c.from.ensures ∙ start_of source halves q.k low in (
      omega (arith, low),
      length-set q.nodes q.k (get_or source c.from.result 0) ∙ q.invariant.1,
      (λ i. set (q.invariant.2 i) q.k (node i)) ∙ over_more row c.args.nodes.now q.k 0 (omega (arith, low, long)) (omega (arith, low, c.requires.0)),
    )

pub returns : goal.returns
returns c =
    let q = c.loop-k in
    let row = ring_nodes (origins c.args.dir_edges_src.now) c.args.half_edges.now in
    let long : length row ≡ length c.args.half_edges.now = length-map c.args.half_edges.now (λ (h : ℕ). get_or c.args.dir_edges_src.now h 0) in
    q.invariant.2 ∙ over-all row c.args.nodes.now q.k (omega (arith, long))
