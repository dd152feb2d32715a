-- `extract_core` meets its contract: where all tests pass, `extract_checked` lists the rings and finds their holes.
use Rattle.std.proofs.Common.{◌*◌, subst}
use Rattle.rules.specs.Limits.{limits}
use Rattle.tables.specs.Regions.{state_in}
use Rattle.tables.proofs.SliceRoom.{room_of}
use Rattle.extracting.specs.Extraction.{lists_of}
use Rattle.extracting.proofs.Outcome.{long-room}
use Rattle.hole_checks.specs.Checks.{HolesChecked}
use Rattle.hole_entry.proofs.Outcome.{refused_made, done_made}
use Rattle.hole_entry.proofs.extract_core.Goals as goal

pub returns-in-Err : goal.returns-in-Err
returns-in-Err c =
    let a = c.args in
    refused_made a.graph a.floats.now a.numbers.now a.stars.now a.marks.now a.ids.now a.room
    (lists_of a.half_edges.now a.ring_first.now a.ring_length.now a.ring_face.now a.ring_side.now a.ring_area.now)
    c.in-Err.why c.turned_down.result c.turned_down.ensures c.in-Err.ensures

pub extract_checked-requires : goal.extract_checked-requires
extract_checked-requires c =
    let a = c.args in
    let rings = lists_of a.half_edges.now a.ring_first.now a.ring_length.now a.ring_face.now a.ring_side.now a.ring_area.now in
    let checks = subst (HolesChecked a.room (state_in limits a.graph a.floats.now a.numbers.now a.stars.now a.marks.now a.ids.now) rings) c.in_default.is c.check_holes-checked.ensures in
    let ring_checks = checks.0 in
    let room = room_of limits a.graph a.floats.now a.numbers.now a.stars.now a.marks.now a.ids.now ring_checks.0 in
    record {
      limits_in_bounds = (room.float_room, room.number_room, room.star_room, room.mark_room);
      slice_sound = record { ids = a.ids.now; roomed = ring_checks.0; sense = ring_checks.1 };
      room = long-room (2 * a.graph.edge_count) rings ring_checks.3;
    }

pub returns : goal.returns
returns c =
    let a = c.args in
    let new = c.extract_checked.new in
    let rings = lists_of a.half_edges.now a.ring_first.now a.ring_length.now a.ring_face.now a.ring_side.now a.ring_area.now in
    let written = lists_of new.half_edges new.ring_first new.ring_length new.ring_face new.ring_side new.ring_area in
    let checks = subst (HolesChecked a.room (state_in limits a.graph a.floats.now a.numbers.now a.stars.now a.marks.now a.ids.now) rings) c.in_default.is c.check_holes-checked.ensures in
    done_made a.graph a.floats.now a.numbers.now a.stars.now a.marks.now a.ids.now a.room rings checks written
    c.extract_checked.result (c.extract_checked.ensures a.ids.now checks.0.1)
