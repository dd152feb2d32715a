-- `extract_without_holes` meets its clause: where numbers 6, 7, 5 and 8 pass, `extract_regions` lists the rings.
use Prim.Native.Nat.{◌*◌}
use mathlib.Core.Path.{sym, subst}
use Rattle.rules.specs.Limits.{limits}
use Rattle.tables.specs.Regions.{state_in, xs_in, ys_in, zs_in, segments_in, sources_in, targets_in, star_table_in, degrees_in, node_marks_in, half_marks_in, line_ids_in, tracings_in}
use Rattle.tables.proofs.SliceRoom.{room_of}
use Rattle.extracting.specs.Extraction.{lists_of}
use Rattle.extracting.proofs.Outcome.{long-room, extraction-is-outcome}
use Rattle.ring_checks.specs.Checks.{RingChecked}
use Rattle.ring_entry.proofs.extract_without_holes.Goals as goal

pub returns-in-Err : goal.returns-in-Err
returns-in-Err c = subst (RingChecked (state_in limits c.args.graph c.args.floats.now c.args.numbers.now c.args.stars.now c.args.marks.now c.args.ids.now) (lists_of c.args.half_edges.now c.args.ring_first.now c.args.ring_length.now c.args.ring_face.now c.args.ring_side.now c.args.ring_area.now)) c.in-Err.is c.check_rings-checked.ensures

pub extract_regions-done-requires : goal.extract_regions-done-requires
extract_regions-done-requires c =
    let a = c.args in
    let g = (subst (RingChecked (state_in limits c.args.graph c.args.floats.now c.args.numbers.now c.args.stars.now c.args.marks.now c.args.ids.now) (lists_of c.args.half_edges.now c.args.ring_first.now c.args.ring_length.now c.args.ring_face.now c.args.ring_side.now c.args.ring_area.now)) c.in_default.is c.check_rings-checked.ensures) in
    let room = room_of limits a.graph a.floats.now a.numbers.now a.stars.now a.marks.now a.ids.now g.0 in record {
      limits_in_bounds = (room.float_room, room.number_room, room.star_room, room.mark_room);
      slice_sound = record { ids = a.ids.now; roomed = g.0; sense = g.1 };
      room = long-room (2 * a.graph.edge_count) (lists_of c.args.half_edges.now c.args.ring_first.now c.args.ring_length.now c.args.ring_face.now c.args.ring_side.now c.args.ring_area.now) g.3;
    }

pub returns : goal.returns
returns c =
    let a = c.args in
    let floats = a.floats.now in
    let numbers = a.numbers.now in
    let stars = a.stars.now in
    let marks = a.marks.now in
    let g = (subst (RingChecked (state_in limits c.args.graph c.args.floats.now c.args.numbers.now c.args.stars.now c.args.marks.now c.args.ids.now) (lists_of c.args.half_edges.now c.args.ring_first.now c.args.ring_length.now c.args.ring_face.now c.args.ring_side.now c.args.ring_area.now)) c.in_default.is c.check_rings-checked.ensures) in
    sym (extraction-is-outcome limits a.graph (xs_in limits floats) (ys_in limits floats) (zs_in limits floats) (degrees_in limits stars) (node_marks_in limits marks)
    (segments_in limits floats) (line_ids_in limits a.ids.now) (sources_in limits numbers) (targets_in limits numbers) (half_marks_in limits marks) (star_table_in limits stars) (tracings_in limits numbers a.ids.now)
    g.0 g.1 g.2 (lists_of c.args.half_edges.now c.args.ring_first.now c.args.ring_length.now c.args.ring_face.now c.args.ring_side.now c.args.ring_area.now) _ _ g.3 (c.extract_regions-done.ensures a.ids.now g.1))
