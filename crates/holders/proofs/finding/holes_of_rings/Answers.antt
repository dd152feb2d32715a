-- `holes_of_rings` meets its contract: the lists that extraction wrote are what finding the holes asks.
use Prim.Native.Nat.{ℕ, ◌*◌, ◌≤◌}
use native.Mathlib.Omega.{arith}
use mathlib.Core.Path.{◌≡◌, sym, ap, subst, ◌∙◌}
use mathlib.Core.List.{List, map}
use lib.ListN.{length, take, drop, length-append, length-drop}
use lib.Seq.{length-take-le}
use Rattle.lists.specs.Lists.{flatten}
use Rattle.rules.specs.Limits.{limits}
use Rattle.rules.specs.State.{State}
use Rattle.rules.specs.Face.{Ring}
use Rattle.rules.specs.Ringing.{rings_of}
use Rattle.rules.proofs.Replies.{rings_of-halves}
use Rattle.tables.specs.Regions.{state_in}
use Rattle.cycles.specs.Census.{census_of}
use Rattle.extracting.specs.Extraction.{lists_of}
use Rattle.extracting.proofs.Outcome.{total-is}
use Rattle.holders.specs.Asked.{Asked}
use Rattle.holders.specs.Finding.{RingsGiven}
use Rattle.holders.proofs.RingsAsked.{holes_are, asked_of}
use Rattle.holders.proofs.finding.holes_of_rings.Goals as goal
use Rattle.holders.proofs.finding.holes_of_rings.Goals.{Start, After-from-total}

-- what was given
abbrev Given : Start → Type 0
Given c = let a = c.args in RingsGiven a.graph a.floats.now a.numbers.now a.half_edges.now a.ring_first.now a.ring_length.now a.ring_face.now a.ring_side.now a.ring_area.now a.done

-- the state of it
abbrev state : (c : Start) → Given c → State
state c g = state_in limits c.args.graph c.args.floats.now c.args.numbers.now g.stars g.marks g.ids

-- the half-edges of its rings
abbrev row : (c : Start) → Given c → List ℕ
row c g = flatten (map (λ (r : Ring). r.half_edges_lem) (rings_of (state c g)))

-- they are as many as were counted
total : (c : After-from-total) (g : Given (goal.at.After-from-total c).Start) → length (row (goal.at.After-from-total c).Start g) ≡ 2 * c.from-total.result
total c g =
    let s = state (goal.at.After-from-total c).Start g in
    ap (λ l. length (flatten l)) (rings_of-halves s) ∙ sym (total-is limits s g.sense (census_of c.args.done.census) g.extraction.counted) ∙ ap (λ n. 2 * n) (sym c.from-total.ensures)

-- and stand in the list
room : (c : After-from-total) → 2 * c.from-total.result ≤ length c.args.half_edges.now
room c =
    let g = c.requires in
    let r = row (goal.at.After-from-total c).Start g in
    omega (arith, total c g, ap length g.extraction.half_edges_lem, length-append r (drop (length r) g.out.half_edges_lem))

-- what finding the holes asks
asked : (c : After-from-total) (g : Given (goal.at.After-from-total c).Start) → let t = state (goal.at.After-from-total c).Start g in let a = c.args in
    Asked (rings_of t) t.nodes t.node_x t.node_y t.source (take (2 * c.from-total.result) a.half_edges.now) a.ring_first.now a.ring_length.now a.ring_face.now a.ring_side.now a.ring_area.now a.done.count
asked c g =
    let t = state (goal.at.After-from-total c).Start g in
    let a = c.args in
    let floats = a.floats.now in
    let long = g.in_floats in
    subst (λ n. Asked (rings_of t) t.nodes t.node_x t.node_y t.source (take n a.half_edges.now) a.ring_first.now a.ring_length.now a.ring_face.now a.ring_side.now a.ring_area.now a.done.count) (total c g)
    (asked_of t
    (omega (arith, length-take-le limits.nodes floats (omega (arith, long))))
    (omega (arith, length-take-le limits.nodes (drop limits.nodes floats) (omega (arith, long, length-drop limits.nodes floats))))
    (omega (arith, length-take-le (2 * limits.edges) a.numbers.now (omega (arith, g.in_numbers))))
    g.sense g.out (lists_of a.half_edges.now a.ring_first.now a.ring_length.now a.ring_face.now a.ring_side.now a.ring_area.now) a.done g.extraction)

pub slice_bounds-find_holes-end-4 : goal.slice_bounds-find_holes-end-4
slice_bounds-find_holes-end-4 c = sym (length-take-le (2 * c.from-total.result) c.args.half_edges.now (room (goal.at.slice_bounds-find_holes-end-4 c).After-from-total))

pub find_holes-requires : goal.find_holes-requires
find_holes-requires c =
    let h = goal.at.find_holes-requires c in
    (rings_of (state h.Start c.requires), asked h.After-from-total c.requires)

pub returns : goal.returns
returns c =
    let h = goal.at.returns c in
    record {
      holes = λ g. c.find_holes.ensures.holes (rings_of (state h.Start g)) (asked h.After-from-total g) ∙ holes_are (state h.Start g);
      few = c.find_holes.ensures.few.0;
      full = c.find_holes.ensures.few.1;
    }
