-- `put_cut` meets its contract: the lists hold the rings, and their records are written.
use Prim.Native.Nat.{◌*◌, ◌≤◌}
use native.Mathlib.Omega.{arith}
use mathlib.Core.Path.{refl}
use lib.ListN.{length}
use Rattle.rules.specs.Limits.{limits}
use Rattle.rules.specs.Ringing.{rings_of}
use Rattle.tables.specs.Regions.{state_in}
use Rattle.tables.proofs.SliceRoom.{room_of}
use Rattle.extracting.specs.Extraction.{lists_of}
use Rattle.ring_records.specs.Given.{Listed}
use Rattle.ring_steps.proofs.Rings.{rung_listed}
use Rattle.ring_steps.proofs.put_cut.Goals as goal
use Rattle.ring_steps.proofs.put_cut.Goals.{Start, After-ring_map-rings}

-- the lists that are made have an entry for each half-edge
pub ring_map-rings-requires : goal.ring_map-rings-requires
ring_map-rings-requires c = (
  c.requires.0,
  record { half_edges_lem = refl; first = refl; size = refl; face = refl; side = refl; area = refl },
)

-- the slices have room for their regions
roomed : (c : Start) → 2 * limits.edges ≤ length c.args.numbers.now
roomed c =
    let a = c.args in
    omega (arith, (room_of limits a.graph a.floats.now a.numbers.now a.stars.now a.marks.now a.ids.now c.requires.0.held.room).number_room)

pub slice_bounds-put_records-end-6 : goal.slice_bounds-put_records-end-6
slice_bounds-put_records-end-6 c = roomed (goal.at.slice_bounds-put_records-end-6 c).Start

-- the lists hold the rings
listed : (c : After-ring_map-rings)
    → let a = c.args in
    let t = c.ring_map-rings.new in
    Listed (rings_of (state_in limits a.graph a.floats.now a.numbers.now a.stars.now a.marks.now a.ids.now)) t.half_edges t.ring_first t.ring_length t.ring_face t.ring_area
listed c =
    let x = c.ring_map-rings in
    let t = x.new in
    let k = x.auto in
    rung_listed _ (lists_of t.half_edges t.ring_first t.ring_length t.ring_face t.ring_side t.ring_area) x.result.count x.result.euler c.requires.0.held x.ensures
    k.half_edges k.ring_first k.ring_length

pub put_records-requires : goal.put_records-requires
put_records-requires c = (c.requires.1, (rings_of _, listed (goal.at.put_records-requires c).After-ring_map-rings, c.ring_map-rings.ensures.many))

pub returns : goal.returns
returns c = c.put_records.ensures (rings_of _) (listed (goal.at.returns c).After-ring_map-rings) c.ring_map-rings.ensures.many
