-- `ring_holds` meets its contract: where the leftmost node is not on the ring, it decides.
use Prim.Native.Nat.{◌<◌, ◌≤◌}
use native.Mathlib.Omega.{arith}
use mathlib.Core.Path.{◌≡◌, refl, sym, subst, ◌∙◌}
use mathlib.Core.Logic.{inl}
use mathlib.Core.Bool.{false}
use lib.IntN.{nat_abs}
use Rattle.geometry.specs.Coordinate.{coordinate_bound}
use Rattle.inside.specs.Spots.{spot_in}
use Rattle.inside.specs.Standing.{stands_from, is_inside}
use Rattle.inside.specs.declared.rings.Stands.{Stands}
use Rattle.inside.specs.declared.rings.Stands.TheVariants.{Inside, Outside, OnRing}
use Rattle.lists.specs.Lists.{last_of}
use Rattle.corners.proofs.Whole.{entry_read}
use Rattle.holding.specs.Holding.{holds_by_lem}
use Rattle.holding.proofs.TestPoints.{corner_stands}
use Rattle.holding.proofs.ring_holds.Goals as goal
use Rattle.holding.proofs.ring_holds.Goals.{Start, After-ring_stands}

-- the corner is a node
low : (c : Start) → c.args.corner.0 < c.requires.by_index.0
low c = c.requires.by_index.1.inner_nodes c.args.corner.0 c.requires.corner.one

pub bounds-xs-n : goal.bounds-xs-n
bounds-xs-n c = omega (arith, low (goal.at.bounds-xs-n c).Start, c.from-n.ensures, c.requires.by_index.1.spots.in_xs)

pub bounds-ys-n : goal.bounds-ys-n
bounds-ys-n c = omega (arith, low (goal.at.bounds-ys-n c).Start, c.from-n.ensures, c.requires.by_index.1.spots.in_ys)

pub ring_stands-requires : goal.ring_stands-requires
ring_stands-requires c =
    let p = c.requires.by_index.1 in
    let n = c.args.corner.0 in
    let h = low (goal.at.ring_stands-requires c).Start in (
      c.requires.by_index.0,
      p.some,
      p.outer_nodes,
      p.spots,
      (
        subst (λ z. nat_abs z ≤ coordinate_bound) (sym (entry_read c.args.xs.now c.from-n.result n (omega arith) c.from-n.ensures)) (p.spots.near_xs n h),
        subst (λ z. nat_abs z ≤ coordinate_bound) (sym (entry_read c.args.ys.now c.from-n.result n (omega arith) c.from-n.ensures)) (p.spots.near_ys n h),
      ),
    )

pub holds_free-requires : goal.holds_free-requires
holds_free-requires c = c.requires.by_index

-- how the corner stands to the ring
stands : (c : After-ring_stands) → let a = c.args in let at = spot_in a.xs.now a.ys.now in
    stands_from at (at a.corner.0) false (last_of 0 a.outer.now) a.outer.now ≡ c.ring_stands.result
stands c =
    let a = c.args in
    let at = spot_in a.xs.now a.ys.now in
    let outer = a.outer.now in
    let x = entry_read a.xs.now c.from-n.result a.corner.0 (omega arith) c.from-n.ensures in
    let y = entry_read a.ys.now c.from-n.result a.corner.0 (omega arith) c.from-n.ensures in
    sym (c.ring_stands.ensures ∙ (λ i. stands_from at (record { x = x i; y = y i }) false (last_of 0 outer) outer))

-- it decides where it is not on it
held : (c : After-ring_stands) (r : Stands) → c.ring_stands.result ≡ r → (r ≡ OnRing → ⊥) → let a = c.args in
    is_inside r ≡ holds_by_lem (spot_in a.xs.now a.ys.now) a.outer.now a.inner.now
held c r e off = let a = c.args in sym (corner_stands a.xs.now a.ys.now a.outer.now a.inner.now a.corner.0 c.requires.corner r (stands c ∙ e) off)

pub returns-in-Inside : goal.returns-in-Inside
returns-in-Inside c = record {
  held = held (goal.at.returns-in-Inside c).After-ring_stands Inside c.in-Inside.is (λ e. cc);
  stamps = record { size = refl; each = λ n l. inl refl };
}

pub returns-in-Outside : goal.returns-in-Outside
returns-in-Outside c = record {
  held = held (goal.at.returns-in-Outside c).After-ring_stands Outside c.in-Outside.is (λ e. cc);
  stamps = record { size = refl; each = λ n l. inl refl };
}

pub returns-in-OnRing : goal.returns-in-OnRing
returns-in-OnRing c = c.holds_free.ensures
