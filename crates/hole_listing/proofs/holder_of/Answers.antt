-- `holder_of` meets its contract: its parts are the ring's nodes and leftmost node, and the best of all candidates is the holder.
use Prim.Native.Nat.{ℕ, ◌+◌, ◌-◌, ◌<◌, ◌≤◌}
use native.Mathlib.Omega.{arith}
use mathlib.Core.Path.{◌≡◌, sym, ap, ap₂, subst, ◌∙◌}
use mathlib.Core.Bool.{cond}
use mathlib.Core.List.{List}
use lib.IntN.{pos, nat_abs}
use lib.ListN.{length, get_or, take, drop}
use lib.Dec.{eqb}
use mir.Syntax.{w64}
use mir.Val.{to_z, of_z}
use mir.ValLaws.{to_z-of_z}
use borrow.Author.Tests.{eq-eqb, ne_eqb}
use Rattle.lists.proofs.Counts.{below_le}
use Rattle.geometry.specs.Coordinate.{coordinate_bound}
use Rattle.rules.specs.Face.{Ring}
use Rattle.rules.specs.Holes.{outside, enclosed, ring_at, holder_of_lem}
use Rattle.inside.specs.Spots.{spot_in}
use Rattle.corners.proofs.Whole.{entry_read}
use Rattle.holding.specs.Maps.{origins, Map, map_of, part_of}
use Rattle.views.specs.Views.{along_of_lem}
use Rattle.holder_search.specs.Search.{Field, Opening}
use Rattle.holder_search.proofs.Searching.{best_is}
use Rattle.hole_listing.proofs.Openings.{ring_standing, left-low, opening_of}
use Rattle.hole_listing.proofs.holder_of.Goals as goal
use Rattle.hole_listing.proofs.holder_of.Goals.{Start, After-sides_at-sides, After-from, After-best_holder-best}

-- the map of the lists and tables
abbrev here : Start → Map
here c = let a = c.args in map_of a.dir_edges_src.now a.xs.now a.ys.now a.half_edges.now a.nodes.now a.ring_first.now a.ring_length.now a.ring_face.now

-- the map with its candidates, as it is asked
abbrev FieldAt : Start → List Ring → ℕ → Type 0
FieldAt c rs bound = Field rs (here c) bound c.args.slope c.args.rings.now c.args.numbers.now c.args.count

-- the ring stands in the lists
stands : (c : Start) → (c.args.ring < length c.args.ring_first.now) × (c.args.ring < length c.args.ring_length.now)
stands c =
    let p = c.requires.by_index in
    let h = p.2.map in
    (omega (arith, p.4, h.in_first), omega (arith, p.4, h.in_size))

-- its leftmost node is a node
left_is_low : (c : After-sides_at-sides) → c.sides_at-sides.result.left < c.requires.by_index.1
left_is_low c =
    let s = (goal.at.After-sides_at-sides c).Start in
    let p = c.requires.by_index in
    left-low p.0 (here s) p.1 c.args.slope c.args.rings.now c.args.numbers.now c.args.count p.2 c.args.ring p.4 c.sides_at-sides.result c.sides_at-sides.ensures

pub sides_at-sides-requires : goal.sides_at-sides-requires
sides_at-sides-requires c =
    let p = c.requires.by_index in
    ring_standing p.0 (here (goal.at.sides_at-sides-requires c).Start) p.1 c.args.slope c.args.rings.now c.args.numbers.now c.args.count p.2 c.args.ring p.4

pub bounds-ys-corner : goal.bounds-ys-corner
bounds-ys-corner c = omega (arith, left_is_low (goal.at.bounds-ys-corner c).After-sides_at-sides, c.requires.by_index.2.map.spotted.in_ys, c.from-corner.ensures)

pub bounds-xs-corner : goal.bounds-xs-corner
bounds-xs-corner c = omega (arith, left_is_low (goal.at.bounds-xs-corner c).After-sides_at-sides, c.requires.by_index.2.map.spotted.in_xs, c.from-corner.ensures)

pub along_of-x-requires : goal.along_of-x-requires
along_of-x-requires c =
    let l = left_is_low (goal.at.along_of-x-requires c).After-sides_at-sides in
    let left = c.sides_at-sides.result.left in
    let w = c.from-corner in
    let spots = c.requires.by_index.2.map.spotted in (
      subst (λ z. nat_abs z ≤ coordinate_bound) (sym (entry_read c.args.xs.now w.result left (omega arith) w.ensures)) (spots.near_xs left l),
      subst (λ z. nat_abs z ≤ coordinate_bound) (sym (entry_read c.args.ys.now w.result left (omega arith) w.ensures)) (spots.near_ys left l),
    )

pub bounds-ring_first-i : goal.bounds-ring_first-i
bounds-ring_first-i c = omega (arith, (stands (goal.at.bounds-ring_first-i c).Start).0, c.from-i.ensures)

pub bounds-ring_length-i : goal.bounds-ring_length-i
bounds-ring_length-i c = omega (arith, (stands (goal.at.bounds-ring_length-i c).Start).1, c.from-i.ensures)

-- where the part begins and how long it is
first_is : (c : After-from) → c.from-first.result ≡ get_or c.args.ring_first.now c.args.ring 0
first_is c = c.from-first.ensures ∙ ap (λ k. get_or c.args.ring_first.now k 0) c.from-i.ensures

size_is : (c : After-from) → c.from.result ≡ get_or c.args.ring_length.now c.args.ring 0
size_is c = c.from.ensures ∙ ap (λ k. get_or c.args.ring_length.now k 0) c.from-i.ensures

-- it ends within the list
ends : (c : After-from) → c.from-first.result + c.from.result ≤ length c.args.nodes.now
ends c = let p = c.requires.by_index in omega (arith, (p.2.map.each c.args.ring p.4).in_nodes, first_is c, size_is c)

-- it is the ring's
part_is : (c : After-from) → let f = c.from-first.result in let n = c.from.result in
    take (f + n - f) (drop f c.args.nodes.now) ≡ part_of (here (goal.at.After-from c).Start) c.args.ring c.args.nodes.now
part_is c =
    let f = c.from-first.result in
    let n = c.from.result in
    let l = c.args.nodes.now in
    let size : f + n - f ≡ n = omega arith in
    ap (λ k. take k (drop f l)) size ∙ ap₂ (λ k g. take k (drop g l)) (size_is c) (first_is c)

-- x and y of its leftmost node
y_is : (c : After-from) → to_z w64 (of_z w64 (get_or c.args.ys.now c.from-corner.result (pos 0))) ≡ get_or c.args.ys.now c.sides_at-sides.result.left (pos 0)
y_is c = entry_read c.args.ys.now c.from-corner.result c.sides_at-sides.result.left (omega arith) c.from-corner.ensures

x_is : (c : After-from) → let a = c.args in let left = c.sides_at-sides.result.left in
    to_z w64 (of_z w64 c.along_of-x.result) ≡ along_of_lem a.slope (get_or a.xs.now left (pos 0)) (get_or a.ys.now left (pos 0))
x_is c =
    let k = c.along_of-x in
    let x = entry_read c.args.xs.now c.from-corner.result c.sides_at-sides.result.left (omega arith) c.from-corner.ensures in
    to_z-of_z w64 k.result (record { sfits = k.type_inv }) ∙ k.ensures ∙ (λ i. along_of_lem c.args.slope (x i) (y_is c i))

-- so the search is asked for its holder
opens : (c : After-from) (rs : List Ring) (bound : ℕ) → let s = (goal.at.After-from c).Start in let a = c.args in FieldAt s rs bound → a.ring < length rs
    → let f = c.from-first.result in let n = c.from.result in
    Opening (ring_at rs a.ring) (here s) bound a.slope (take (f + n - f) (drop f a.nodes.now)) c.sides_at-sides.result.left
    (to_z w64 (of_z w64 c.along_of-x.result)) (to_z w64 (of_z w64 (get_or a.ys.now c.from-corner.result (pos 0))))
opens c rs bound field low =
    let a = c.args in
    opening_of rs (here (goal.at.After-from c).Start) bound a.slope a.rings.now a.numbers.now a.count field a.ring low c.sides_at-sides.result c.sides_at-sides.ensures
    _ _ _ (part_is c) (x_is c) (y_is c)

pub slice_bounds-best_holder-end : goal.slice_bounds-best_holder-end
slice_bounds-best_holder-end c = ends (goal.at.slice_bounds-best_holder-end c).After-from

pub best_holder-best-requires : goal.best_holder-best-requires
best_holder-best-requires c =
    let p = c.requires.by_index in
    record {
      by_index = (p.0, p.1, c.args.slope, ring_at p.0 c.args.ring, p.2, opens (goal.at.best_holder-best-requires c).After-from p.0 p.1 p.2 p.4, p.3);
      in_order = c.requires.in_order;
    }

-- the best of all is the holder
holder_is : (c : After-best_holder-best) (rs : List Ring) (bound : ℕ) → let a = c.args in
    FieldAt (goal.at.After-best_holder-best c).Start rs bound → a.ring < length rs → cond (eqb c.best_holder-best.result a.count) outside (get_or a.rings.now c.best_holder-best.result 0)
    ≡ holder_of_lem (spot_in a.xs.now a.ys.now) (origins a.dir_edges_src.now) rs (ring_at rs a.ring)
holder_is c rs bound field low =
    let h = goal.at.After-best_holder-best c in
    let a = c.args in
    sym (best_is rs (here h.Start) bound a.slope a.rings.now a.numbers.now a.count field a.order.now c.requires.in_order.0 (ring_at rs a.ring) c.best_holder-best.result
    (c.best_holder-best.ensures.best rs bound a.slope (ring_at rs a.ring) field (opens h.After-from rs bound field low)))

pub returns-then-best-count : goal.returns-then-best-count
returns-then-best-count c =
    let d = (goal.at.returns-then-best-count c).After-best_holder-best in
    let a = c.args in
    let best = c.best_holder-best in record {
      holder = λ rs bound field low. sym (ap (λ t. cond t outside (get_or a.rings.now best.result 0)) (eq-eqb best.result a.count c.if-best-count.true)) ∙ holder_is d rs bound field low;
      stamps = λ rs bound field stamps. best.ensures.stamps rs bound a.slope field stamps;
    }

-- a best that is one is a candidate
low_best : (c : After-best_holder-best) → let a = c.args in (c.best_holder-best.result ≡ a.count → ⊥) → (c.best_holder-best.result < length a.rings.now) × (c.best_holder-best.result < outside)
low_best c d =
    let a = c.args in
    let p = c.requires.by_index in
    let all = p.2.candidates in
    let w = (goal.at.After-best_holder-best c).After-from in
    let low : c.best_holder-best.result < a.count = omega (arith, d, (c.best_holder-best.ensures.best p.0 p.1 a.slope (ring_at p.0 a.ring) p.2 (opens w p.0 p.1 p.2 p.4)).low) in
    (omega (arith, low, all.in_rings), omega (arith, low, all.many, below_le (λ i. enclosed (ring_at p.0 i)) (length p.0), p.2.map.few))

pub offset_bounds-rings-best : goal.offset_bounds-rings-best
offset_bounds-rings-best c = omega (arith, (low_best (goal.at.offset_bounds-rings-best c).After-best_holder-best c.if-best-count.false).1)

pub bounds-rings-best : goal.bounds-rings-best
bounds-rings-best c = (low_best (goal.at.bounds-rings-best c).After-best_holder-best c.if-best-count.false).0

pub returns : goal.returns
returns c =
    let d = (goal.at.returns c).After-best_holder-best in
    let a = c.args in
    let best = c.best_holder-best in record {
      holder = λ rs bound field low. sym (ap (λ t. cond t outside (get_or a.rings.now best.result 0)) (ne_eqb best.result a.count c.if-best-count.false)) ∙ holder_is d rs bound field low;
      stamps = λ rs bound field stamps. best.ensures.stamps rs bound a.slope field stamps;
    }
