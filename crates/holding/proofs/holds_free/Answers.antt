-- `holds_free` meets its contract: the leftmost node without the stamp lies where the test point does.
use Prim.Native.Nat.{ℕ, ◌<◌, ◌≤◌}
use native.Mathlib.Omega.{arith}
use mathlib.Core.Path.{◌≡◌, sym, ap, subst, ◌∙◌}
use mathlib.Core.Logic.{inl, inr}
use mathlib.Core.Bool.{◌&&◌, cond, not}
use mathlib.Core.List.{List}
use lib.IntN.{nat_abs}
use lib.ListN.{get_or}
use borrow.Author.Tests.{ltb-true}
use Rattle.lists.proofs.Counts.{by_test}
use Rattle.lists.proofs.Members.{pick_in}
use Rattle.lists.specs.Lists.{member}
use Rattle.geometry.specs.Coordinate.{coordinate_bound}
use Rattle.std.specs.declared.option.Option.TheVariants.{Some}
use Rattle.rules.specs.Holes.{left_of, foremost_of}
use Rattle.inside.specs.Spots.{spot_in}
use Rattle.inside.specs.Standing.{is_inside}
use Rattle.corners.specs.Nodes.{Stamped, Leftmost}
use Rattle.corners.proofs.Whole.{entry_read}
use Rattle.holding.specs.Holding.{free, inside_by, holds_by_lem, Restamped}
use Rattle.holding.proofs.TestPoints.{no_point_lem, some-point, same_point, unstamped-free}
use Rattle.holding.proofs.holds_free.Goals as goal
use Rattle.holding.proofs.holds_free.Goals.{After-test_point, After-ring_stands}

-- nodes of the ring alone got the stamp
restamped : (nodes : List ℕ) (stamp : ℕ) (before after : List ℕ) → Stamped nodes stamp before after → Restamped nodes stamp before after
restamped nodes stamp before after s = record {
  size = s.size;
  each = λ n l. by_test (member n nodes)
      (λ e. inr (s.each n l ∙ ap (λ b. cond b stamp (get_or before n 0)) e, ltb-true 0 _ e))
      (λ e. inl (s.each n l ∙ ap (λ b. cond b stamp (get_or before n 0)) e));
}

-- the test point is the leftmost of the nodes that the ring does not pass
leftmost : (c : After-test_point) → let a = c.args in Leftmost (spot_in a.xs.now a.ys.now) (free a.outer.now a.inner.now) c.test_point.result
leftmost c =
    let a = c.args in
    let p = c.requires.1 in
    subst (λ l. Leftmost (spot_in a.xs.now a.ys.now) l c.test_point.result)
    (unstamped-free a.outer.now a.inner.now a.stamp a.stamps.now c.stamp_nodes.new.stamps c.stamp_nodes.ensures p.fresh (λ n m. omega (arith, p.inner_nodes n m, p.room)))
    c.test_point.ensures

-- where there is one
found : (c : After-test_point) (n : ℕ) → c.test_point.result ≡ Some n → let a = c.args in Leftmost (spot_in a.xs.now a.ys.now) (free a.outer.now a.inner.now) (Some n)
found c n e = let a = c.args in subst (Leftmost (spot_in a.xs.now a.ys.now) (free a.outer.now a.inner.now)) e (leftmost c)

-- it is a node
low : (c : After-test_point) (n : ℕ) → c.test_point.result ≡ Some n → n < c.requires.0
low c n e = c.requires.1.inner_nodes n (pick_in (λ n. not (member n c.args.outer.now)) n c.args.inner.now (found c n e).0).0

-- the stamps after it
stamped : (c : After-test_point) → let a = c.args in Restamped a.outer.now a.stamp a.stamps.now c.stamp_nodes.new.stamps
stamped c = let a = c.args in restamped a.outer.now a.stamp a.stamps.now c.stamp_nodes.new.stamps c.stamp_nodes.ensures

pub stamp_nodes-requires : goal.stamp_nodes-requires
stamp_nodes-requires c = let p = c.requires.1 in λ n m. omega (arith, p.outer_nodes n m, p.room)

pub test_point-requires : goal.test_point-requires
test_point-requires c =
    let p = c.requires.1 in
    let size = c.stamp_nodes.ensures.size in (
      λ n m. omega (arith, p.inner_nodes n m, p.room, size),
      λ n m. omega (arith, p.inner_nodes n m, p.spots.in_xs),
      λ n m. omega (arith, p.inner_nodes n m, p.spots.in_ys),
    )

pub returns-in-None : goal.returns-in-None
returns-in-None c =
    let t = (goal.at.returns-in-None c).After-test_point in
    let at = spot_in c.args.xs.now c.args.ys.now in
    let l = free c.args.outer.now c.args.inner.now in
    record {
      held = sym (ap (λ t. t && inside_by at c.args.outer.now (at (foremost_of (left_of at) 0 l))) (no_point_lem at l (subst (Leftmost at l) c.in-None.is (leftmost t))));
      stamps = stamped t;
    }

pub bounds-xs-n : goal.bounds-xs-n
bounds-xs-n c = omega (arith, low (goal.at.bounds-xs-n c).After-test_point _ c.in-Some.is, c.from-n.ensures, c.requires.1.spots.in_xs)

pub bounds-ys-n : goal.bounds-ys-n
bounds-ys-n c = omega (arith, low (goal.at.bounds-ys-n c).After-test_point _ c.in-Some.is, c.from-n.ensures, c.requires.1.spots.in_ys)

pub ring_stands-requires : goal.ring_stands-requires
ring_stands-requires c =
    let p = c.requires.1 in
    let n = c.in-Some.point in
    let h = low (goal.at.ring_stands-requires c).After-test_point _ c.in-Some.is in
    let w = c.from-n in (
      c.requires.0,
      p.some,
      p.outer_nodes,
      p.spots,
      (
        subst (λ z. nat_abs z ≤ coordinate_bound) (sym (entry_read c.args.xs.now w.result n (omega arith) w.ensures)) (p.spots.near_xs n h),
        subst (λ z. nat_abs z ≤ coordinate_bound) (sym (entry_read c.args.ys.now w.result n (omega arith) w.ensures)) (p.spots.near_ys n h),
      ),
    )

-- whether the test point is inside decides
held : (c : After-ring_stands) → let a = c.args in is_inside c.ring_stands.result ≡ holds_by_lem (spot_in a.xs.now a.ys.now) a.outer.now a.inner.now
held c =
    let a = c.args in
    let at = spot_in a.xs.now a.ys.now in
    let outer = a.outer.now in
    let l = free outer a.inner.now in
    let n = c.in-Some.point in
    let t = found (goal.at.After-ring_stands c).After-test_point _ c.in-Some.is in
    let x = entry_read a.xs.now c.from-n.result n (omega arith) c.from-n.ensures in
    let y = entry_read a.ys.now c.from-n.result n (omega arith) c.from-n.ensures in
    ap is_inside c.ring_stands.ensures
    ∙ (λ i. inside_by at outer (record { x = x i; y = y i }))
    ∙ ap (inside_by at outer) (same_point at l n t)
    ∙ sym (ap (λ b. b && inside_by at outer (at (foremost_of (left_of at) 0 l))) (some-point at l n t))

pub returns-in-Inside : goal.returns-in-Inside
returns-in-Inside c =
    let h = goal.at.returns-in-Inside c in
    record { held = sym (ap is_inside c.in-Inside.is) ∙ held h.After-ring_stands; stamps = stamped h.After-test_point }

pub returns-in-Outside : goal.returns-in-Outside
returns-in-Outside c =
    let h = goal.at.returns-in-Outside c in
    record { held = sym (ap is_inside c.in-Outside.is) ∙ held h.After-ring_stands; stamps = stamped h.After-test_point }

pub returns-in-OnRing : goal.returns-in-OnRing
returns-in-OnRing c =
    let h = goal.at.returns-in-OnRing c in
    record { held = sym (ap is_inside c.in-OnRing.is) ∙ held h.After-ring_stands; stamps = stamped h.After-test_point }
