use Prim.Native.Nat.{◌<◌}
use native.Mathlib.Omega.{arith}
use mathlib.Core.Path.{◌≡◌, refl, sym, ap, subst, ◌∙◌}
use lib.IntN.{ℤ}
use lib.ListN.{length, get_or}
use lib.Ieee.{nan}
use mir.Syntax.{w64}
use mir.Val.{to_z, of_z}
use mir.ValLaws.{to_z-of_z}
use borrow.Author.Tests.{eq-eqb, ne_eqb}
use Rattle.rules.specs.Limits.{limits, shaped_rings}
use Rattle.rules.specs.Holes.{ring_at}
use Rattle.ring_lists.specs.Shown.{HalfOf}
use Rattle.holding.specs.Maps.{map_of}
use Rattle.hole_listing.proofs.ListingLaws.{Listed, listed-few, listed-all, listed-room, gone_none, gone_other, gone_one}
use Rattle.hole_listing.proofs.list_holes.Goals as goal
use Rattle.hole_listing.proofs.list_holes.Goals.{After-from-ring, Then-open, then-open, else-open}

pub loop-i-init : goal.loop-i-init
loop-i-init c = gone_none refl

-- what is listed so far of the rings of the contract
listed : (c : After-from-ring) → let a = c.args in let g = c.requires.by_index in let q = c.loop-i in
    Listed g.0 (map_of a.dir_edges_src.now a.xs.now a.ys.now a.half_edges.now a.nodes.now a.ring_first.now a.ring_length.now a.ring_face.now) g.1 q.i q.list q.stamps q.k
listed c = let g = c.requires.by_index in c.loop-i.invariant.listed g.0 g.1 g.2 g.3 g.4

-- the side that is tested is that of ring i
tested : (c : After-from-ring) → let l = c.args.ring_side.now in get_or l c.loop-i.i 0 ≡ get_or l c.from-ring.result 0
tested c = ap (λ n. get_or c.args.ring_side.now n 0) (sym c.from-ring.ensures)

-- and so is the area
halved : (c : After-from-ring) → let l = c.args.ring_area.now in (z : ℤ) → HalfOf (get_or l c.loop-i.i nan) z → HalfOf (get_or l c.from-ring.result nan) z
halved c z = subst (λ n. HalfOf (get_or c.args.ring_area.now n nan) z) (sym c.from-ring.ensures)

-- there is room for an open ring's record
room : (c : Then-open) → c.loop-i.k < shaped_rings limits
room c =
    let k = (goal.at.Then-open c).After-from-ring in
    listed-room c.requires.by_index.3 (listed k) c.loop-i-test.true (eq-eqb _ 2 (tested k ∙ c.if-open.true))

pub bounds-ring_side-ring : goal.bounds-ring_side-ring
bounds-ring_side-ring c = omega (arith, c.from-ring.ensures, c.loop-i-test.true, c.requires.by_index.3.in_side)

pub slice_bounds-holder_of-end : goal.slice_bounds-holder_of-end
slice_bounds-holder_of-end c = sym c.loop-i.invariant.same_stamps

pub holder_of-holder-requires : goal.holder_of-holder-requires
holder_of-holder-requires c =
    let p = c.requires.by_index in
    let k = (goal.at.holder_of-holder-requires c).After-from-ring in
    record {
      by_index = (p.0, p.1, p.2, (listed k).stamped, omega (arith, c.loop-i-test.true, p.3.counted));
      in_order = c.requires.in_order;
    }

pub bounds-ring_area-ring : goal.bounds-ring_area-ring
bounds-ring_area-ring c = omega (arith, c.from-ring.ensures, c.loop-i-test.true, c.requires.by_index.3.in_area)

pub doubled_area-doubled-requires : goal.doubled_area-doubled-requires
doubled_area-doubled-requires c =
    let g = c.requires.by_index in
    let i = c.loop-i.i in
    ((ring_at g.0 i).doubled, halved (goal.at.doubled_area-doubled-requires c).After-from-ring (ring_at g.0 i).doubled (g.3.halved i c.loop-i-test.true))

pub offset_bounds-list-k : goal.offset_bounds-list-k
offset_bounds-list-k c = omega (arith, room (goal.at.offset_bounds-list-k c).Then-open)

pub bounds-list-k : goal.bounds-list-k
bounds-list-k c = room (goal.at.bounds-list-k c).Then-open

pub overflow_add-k : goal.overflow_add-k
overflow_add-k c = omega (arith, room (goal.at.overflow_add-k c).Then-open)

pub loop-i-preserved : goal.loop-i-preserved
loop-i-preserved c =
    let k = (goal.at.loop-i-preserved c).After-from-ring in
    let q = c.loop-i in
    elim c.if-open.branch [
      | then-open w ↦
          let found = w.holder_of-holder in
          let area = w.doubled_area-doubled in
          let same : length found.new.stamps ≡ length q.stamps = omega arith in
          let doubled = to_z w64 (of_z w64 area.result) in
          let exact : doubled ≡ area.result = to_z-of_z w64 area.result (record { sfits = area.type_inv }) in
          rw (w.list-is, w.stamps-is, w.k-is)
          (gone_one c.loop-i-test.true q.invariant (eq-eqb _ 2 (tested k ∙ w.if-open.true)) found.result doubled found.new.stamps same found.ensures.holder
          (λ z h. exact ∙ area.ensures z (halved k z h)) found.ensures.stamps)
      | else-open w ↦
          rw (w.list-is, w.stamps-is, w.k-is) (gone_other c.loop-i-test.true q.invariant (ne_eqb _ 2 (λ e. w.if-open.false (sym (tested k) ∙ e))))
    ]

pub returns : goal.returns
returns c =
    let q = c.loop-i in
    let g = c.requires.by_index in
    let done : q.i ≡ c.args.ring_count = omega (arith, q.invariant.goes, c.loop-i-test.false) in
    record {
      holes = λ rs bound field given small. listed-all given (q.invariant.listed rs bound field given small) done;
      few = (listed-few g.3 (q.invariant.listed g.0 g.1 g.2 g.3 g.4) q.invariant.goes, q.invariant.same_list);
    }
