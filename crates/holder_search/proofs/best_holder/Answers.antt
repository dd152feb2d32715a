use Prim.Native.Nat.{ℕ, suc, ◌+◌, ◌-◌, ◌<◌, ◌≤◌}
use native.Mathlib.Omega.{arith}
use mathlib.Core.Path.{◌≡◌, refl, sym, subst, ◌∙◌}
use mathlib.Core.List.{List}
use mir.Syntax.{w64}
use mir.Val.{to_z, of_z}
use mir.ValLaws.{to_z-of_z}
use Rattle.rules.specs.Face.{Ring}
use Rattle.holding.specs.Maps.{Map, map_of}
use Rattle.holder_search.specs.Search.{Field, Opening, Best}
use Rattle.holder_search.proofs.Searching.{best_start, best_next, best_settled}
use Rattle.holder_search.proofs.best_holder.Goals as goal
use Rattle.holder_search.proofs.best_holder.Goals.{Start, In-loop-end}

-- the map that is lent
abbrev map : Start → Map
map c = let a = c.args in map_of a.dir_edges_src.now a.xs.now a.ys.now a.half_edges.now a.nodes.now a.ring_first.now a.ring_length.now a.ring_face.now

-- the corner as it is handed on
corner_read : (c : Start) (bound slope : ℕ) (o : Ring) → let a = c.args in Opening o (map c) bound slope a.inner.now a.corner.0 a.x a.y
    → Opening o (map c) bound slope a.inner.now a.corner.0 (to_z w64 (of_z w64 a.x)) (to_z w64 (of_z w64 a.y))
corner_read c bound slope o opening =
    let a = c.args in
    subst (λ x. Opening o (map c) bound slope a.inner.now a.corner.0 x (to_z w64 (of_z w64 a.y))) (sym (to_z-of_z w64 a.x c.ranges.x))
    (subst (λ y. Opening o (map c) bound slope a.inner.now a.corner.0 a.x y) (sym (to_z-of_z w64 a.y c.ranges.y)) opening)

pub place_for-end-requires : goal.place_for-end-requires
place_for-end-requires c = c.requires.in_order.0

pub loop-end-init : goal.loop-end-init
loop-end-init c =
    let a = c.args in (
      refl,
      c.place_for-end.ensures.within,
      λ rs bound slope o field opening.
          best_start rs (map (goal.at.loop-end-init c).Start) bound slope a.rings.now a.numbers.now a.count field a.order.now c.requires.in_order.0 o a.inner.now a.corner.0 _ _ opening c.place_for-end.result c.place_for-end.ensures,
      λ rs bound slope field stamps. stamps,
    )

-- ---- a turn

-- the place that is met is one of the order's
place_low : (c : In-loop-end) → c.loop-end.end - 1 < c.args.count
place_low c = omega (arith, c.loop-end-test.true, c.loop-end.invariant.1)

-- the best so far is that of the candidates behind it
best_behind : (c : In-loop-end) (rs : List Ring) (bound slope : ℕ) (o : Ring) → let s = (goal.at.In-loop-end c).Start in let a = c.args in Field rs (map s) bound slope a.rings.now a.numbers.now a.count
    → Opening o (map s) bound slope a.inner.now a.corner.0 (to_z w64 (of_z w64 a.x)) (to_z w64 (of_z w64 a.y))
    → (next : ℕ) → next ≡ suc (c.loop-end.end - 1) → Best rs (map s) o a.rings.now a.order.now a.count next c.loop-end.best
best_behind c rs bound slope o field opening next e =
    let s = (goal.at.In-loop-end c).Start in
    let a = c.args in
    let q = c.loop-end in
    let same : q.end ≡ next = omega (arith, e, c.loop-end-test.true) in
    subst (λ n. Best rs (map s) o a.rings.now a.order.now a.count n q.best) same (q.invariant.2 rs bound slope o field opening)

-- it is a candidate, or there is none
best_low : (c : In-loop-end) → c.loop-end.best ≤ c.args.count
best_low c =
    let p = c.requires.by_index in
    (c.loop-end.invariant.2 p.0 p.1 p.2 p.3 p.4 (corner_read (goal.at.In-loop-end c).Start p.1 p.2 p.3 p.5)).low

pub rest_is_larger-requires : goal.rest_is_larger-requires
rest_is_larger-requires c =
    let t = (goal.at.rest_is_larger-requires c).In-loop-end in
    let p = c.requires.in_order in
    (p.0.in_numbers, best_low t, omega (arith, place_low t, p.1.in_least))

pub returns-then-rest_is_larger : goal.returns-then-rest_is_larger
returns-then-rest_is_larger c =
    let h = goal.at.returns-then-rest_is_larger c in
    let t = h.In-loop-end in
    let a = c.args in
    let q = c.loop-end in record {
      best = λ rs bound slope o field opening.
          best_settled rs (map h.Start) bound slope a.rings.now a.numbers.now a.count field a.order.now c.requires.in_order.0 o a.least.now c.requires.in_order.1.areas (q.end - 1) q.best (place_low t)
          (sym c.rest_is_larger.ensures ∙ c.if-rest_is_larger.true) (best_behind t rs bound slope o field (corner_read h.Start bound slope o opening) (suc (q.end - 1)) refl);
      stamps = λ rs bound slope field stamps. q.invariant.3 rs bound slope field stamps;
    }

pub improve-best-requires : goal.improve-best-requires
improve-best-requires c =
    let h = goal.at.improve-best-requires c in
    let t = h.In-loop-end in
    let p = c.requires.by_index in
    record {
      by_index = (p.0, p.1, p.2, p.3, p.4, corner_read h.Start p.1 p.2 p.3 p.5, c.loop-end.invariant.3 p.0 p.1 p.2 p.4 p.6, place_low t, best_low t);
      in_order = c.requires.in_order.0;
    }

pub next_end-end-requires : goal.next_end-end-requires
next_end-end-requires c =
    let p = c.requires.in_order in
    (p.0, p.1.reached, p.1.in_reaches, place_low (goal.at.next_end-end-requires c).In-loop-end)

pub loop-end-preserved : goal.loop-end-preserved
loop-end-preserved c =
    let h = goal.at.loop-end-preserved c in
    let t = h.In-loop-end in
    let a = c.args in
    let q = c.loop-end in
    let i = q.invariant in
    let better = c.improve-best in
    let next = c.next_end-end in (
      better.auto.stamps ∙ i.0,
      omega (arith, next.ensures.0, place_low t),
      λ rs bound slope o field opening.
          best_next rs (map h.Start) bound slope a.rings.now a.numbers.now a.count field a.order.now c.requires.in_order.0 o a.inner.now a.corner.0 _ _ opening (q.end - 1) next.result better.result (omega (arith, place_low t)) next.ensures.1
          (better.ensures.best rs bound slope o field opening (best_behind t rs bound slope o field opening (q.end - 1 + 1) (omega arith))),
      λ rs bound slope field stamps. better.ensures.stamps rs bound slope field (i.3 rs bound slope field stamps),
    )

pub returns : goal.returns
returns c =
    let s = (goal.at.returns c).Start in
    let a = c.args in
    let q = c.loop-end in
    let all : q.end ≡ 0 = omega (arith, c.loop-end-test.false) in record {
      best = λ rs bound slope o field opening. subst (λ n. Best rs (map s) o a.rings.now a.order.now a.count n q.best) all (q.invariant.2 rs bound slope o field (corner_read s bound slope o opening));
      stamps = λ rs bound slope field stamps. q.invariant.3 rs bound slope field stamps;
    }
