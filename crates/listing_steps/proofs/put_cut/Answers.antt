-- `put_cut` meets its contract: line one, and then the lines of the rings that the lists hold.
use Prim.Native.Nat.{◌+◌, ◌*◌, ◌≤◌}
use mathlib.Core.Path.{refl, subst, ◌∙◌}
use mathlib.Core.List.{◌++◌}
use native.Mathlib.Omega.{arith}
use lib.ListN.{length}
use Rattle.rules.specs.Limits.{limits}
use Rattle.rules.specs.State.{State}
use Rattle.rules.specs.Ringing.{rings_of}
use Rattle.tables.specs.Regions.{state_in}
use Rattle.tables.proofs.SliceRoom.{room_of}
use Rattle.lists.specs.Buffer.{Put}
use Rattle.file_rules.specs.Lines.{head_line}
use Rattle.rules.specs.Listing.{lines_of}
use Rattle.ring_lines.specs.Rooms.{lines_room}
use Rattle.ring_lines.proofs.RingTexts.{put_row, head_room_lem}
use Rattle.listing_steps.proofs.put_cut.Goals as goal
use Rattle.listing_steps.proofs.put_cut.Goals.{Start, After-put_head-place}

-- the lists that are made have an entry for each half-edge
pub ring_map-rings-requires : goal.ring_map-rings-requires
ring_map-rings-requires c = (
  record { held = c.requires.held; here = c.requires.here },
  record { half_edges_lem = refl; first = refl; size = refl; face = refl; side = refl; area = refl },
)

-- the slices have room for their regions
roomed : (c : Start) → 2 * limits.edges ≤ length c.args.numbers.now
roomed c =
    let a = c.args in
    omega (arith, (room_of limits a.graph a.floats.now a.numbers.now a.stars.now a.marks.now a.ids.now c.requires.held.room).number_room)

-- and after line one the lines have room
lines : (c : After-put_head-place) → let t = c.put_head-place in t.result + lines_room limits ≤ length t.new.out
lines c =
    let t = c.put_head-place in
    head_room_lem _ _ _ _ _ _ c.args.out.now t.new.out t.result
    (omega (arith, c.from.ensures)) (omega (arith, c.from-2.ensures)) (omega (arith, c.from-3.ensures)) (omega (arith, c.from-4.ensures)) (omega (arith, c.from-5.ensures))
    t.ensures c.requires.room t.auto.out

pub slice_bounds-put_rings-end-6 : goal.slice_bounds-put_rings-end-6
slice_bounds-put_rings-end-6 c = roomed (goal.at.slice_bounds-put_rings-end-6 c).Start

pub put_rings-requires : goal.put_rings-requires
put_rings-requires c =
    let x = c.ring_map-rings.ensures in
    (rings_of _, x.shown, x.many, lines (goal.at.put_rings-requires c).After-put_head-place)

pub returns : goal.returns
returns c =
    let a = c.args in
    let s = state_in limits a.graph a.floats.now a.numbers.now a.stars.now a.marks.now a.ids.now in
    let x = c.ring_map-rings in
    let h = c.put_head-place in
    let t = c.put_rings in
    let room = lines (goal.at.returns c).After-put_head-place in
    subst (λ y. Put 0 y a.out.now t.new.out t.result)
    ((λ i. head_line (c.from.ensures i) (c.from-2.ensures i) (c.from-3.ensures i) (c.from-4.ensures i) (c.from-5.ensures i) x.result.euler ++ lines_of s.source (rings_of s) x.result.count)
    ∙ (λ i. head_line s.nodes s.edges a.dangles a.cuts (x.ensures.many i) (x.ensures.seen i) ++ lines_of s.source (rings_of s) (x.ensures.many i)))
    (put_row 0 _ _ a.out.now h.new.out t.new.out h.result t.result (omega (arith, h.ensures.after, room, h.auto.out)) h.ensures
    (t.ensures (rings_of s) x.ensures.shown x.ensures.many))
