-- `improve` meets its contract: what comes later, lies beside or does not hold changes nothing, and the rest is better.
use Prim.Native.Nat.{◌<◌}
use native.Mathlib.Omega.{arith}
use mathlib.Core.Path.{◌≡◌, sym, subst, ◌∙◌}
use mir.Syntax.{w64}
use mir.ValLaws.{to_z-of_z}
use Rattle.candidates.specs.Candidates.{in_box_lem}
use Rattle.candidate_order.proofs.Ordering.{order-low}
use Rattle.holding.specs.Maps.{Map, map_of}
use Rattle.holder_search.proofs.HoldingLaws.{candidate_ring}
use Rattle.holder_search.proofs.Searching.{behind_open, behind_late, beside, leave, take_better}
use Rattle.holder_search.proofs.improve.Goals as goal
use Rattle.holder_search.proofs.improve.Goals.{Start, After-from-j, After-in_box}

-- the map that is lent
abbrev map : Start → Map
map c = let a = c.args in map_of a.dir_edges_src.now a.xs.now a.ys.now a.half_edges.now a.nodes.now a.ring_first.now a.ring_length.now a.ring_face.now

-- what stands at the place is a candidate
low : (c : After-from-j) → c.from-j.result < c.args.count
low c =
    let a = c.args in
    subst (λ j. j < a.count) (sym c.from-j.ensures) (order-low a.numbers.now a.count a.order.now c.requires.in_order a.place c.requires.by_index.7)

pub bounds-order-place : goal.bounds-order-place
bounds-order-place c = omega (arith, c.requires.by_index.7, c.requires.in_order.in_order_lem)

pub comes_first-requires : goal.comes_first-requires
comes_first-requires c =
    let a = c.args in
    let p = c.requires.by_index in (
      low (goal.at.comes_first-requires c).After-from-j,
      p.8,
      p.4.candidates.in_rings,
      p.4.candidates.in_numbers,
      λ i h. omega (arith, (candidate_ring p.0 _ p.1 p.2 a.rings.now a.numbers.now a.count p.4 i h).0, p.4.map.in_face),
    )

pub in_box-requires : goal.in_box-requires
in_box-requires c = omega (arith, low (goal.at.in_box-requires c).After-from-j, c.requires.by_index.4.candidates.in_numbers)

-- the corner is the one that was asked for
asked : (c : After-in_box) → let a = c.args in in_box_lem a.numbers.now c.from-j.result a.x a.y ≡ c.in_box.result
asked c =
    let a = c.args in
    sym (c.in_box.ensures ∙ (λ t. in_box_lem a.numbers.now c.from-j.result (to_z-of_z w64 a.x c.ranges.x t) (to_z-of_z w64 a.y c.ranges.y t)))

pub candidate_holds-requires : goal.candidate_holds-requires
candidate_holds-requires c =
    let p = c.requires.by_index in
    (p.0, p.1, p.2, p.4, p.6, p.5.within, p.5.leftmost, low (goal.at.candidate_holds-requires c).After-from-j)

pub returns-then-candidate_holds : goal.returns-then-candidate_holds
returns-then-candidate_holds c =
    let a = c.args in
    let j = c.from-j in
    let h = c.candidate_holds in record {
      best = λ rs bound slope o field opening old.
          take_better rs _ bound slope a.rings.now a.numbers.now a.count field a.order.now o a.place a.best j.result (sym j.ensures) (low (goal.at.returns-then-candidate_holds c).After-from-j) old
          (sym (h.ensures.held rs bound slope o a.x a.y field opening) ∙ c.if-candidate_holds.true) (sym c.comes_first.ensures ∙ c.if-comes_first.true);
      stamps = h.ensures.stamps;
    }

pub returns-else-candidate_holds : goal.returns-else-candidate_holds
returns-else-candidate_holds c =
    let t = goal.at.returns-else-candidate_holds c in
    let a = c.args in
    let j = c.from-j in
    let h = c.candidate_holds in record {
      best = λ rs bound slope o field opening old.
          leave rs _ bound slope a.rings.now a.numbers.now a.count field a.order.now o a.place a.best j.result (sym j.ensures) (low t.After-from-j) old
          (behind_open rs (map t.Start) o a.rings.now a.count a.best j.result (sym (h.ensures.held rs bound slope o a.x a.y field opening) ∙ c.if-candidate_holds.false));
      stamps = h.ensures.stamps;
    }

pub returns-else-in_box : goal.returns-else-in_box
returns-else-in_box c =
    let h = goal.at.returns-else-in_box c in
    let a = c.args in
    let j = c.from-j in record {
      best = λ rs bound slope o field opening old.
          leave rs _ bound slope a.rings.now a.numbers.now a.count field a.order.now o a.place a.best j.result (sym j.ensures) (low h.After-from-j) old
          (behind_open rs (map h.Start) o a.rings.now a.count a.best j.result
          (beside rs _ bound slope a.rings.now a.numbers.now a.count field o a.inner.now a.corner.0 a.x a.y opening j.result (low h.After-from-j) (asked h.After-in_box ∙ c.if-in_box.false)));
      stamps = λ rs bound slope field stamps. stamps;
    }

pub returns-else-comes_first : goal.returns-else-comes_first
returns-else-comes_first c =
    let l = low (goal.at.returns-else-comes_first c).After-from-j in
    let a = c.args in
    let j = c.from-j in record {
      best = λ rs bound slope o field opening old.
          leave rs _ bound slope a.rings.now a.numbers.now a.count field a.order.now o a.place a.best j.result (sym j.ensures) l old
          (behind_late rs _ bound slope a.rings.now a.numbers.now a.count field o a.best j.result l c.requires.by_index.8 (sym c.comes_first.ensures ∙ c.if-comes_first.false));
      stamps = λ rs bound slope field stamps. stamps;
    }
