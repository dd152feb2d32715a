-- `sort_edges` meets its clause: where numbers 6, 7 and 5 pass, `sort_region` sorts the star table.
use mathlib.Core.Path.{sym, ◌∙◌}
use Rattle.geometry.specs.Reply.{success}
use Rattle.rules.specs.Limits.{limits}
use Rattle.tables.specs.Tables.{state_of}
use Rattle.tables.specs.Regions.{state_in, xs_in, ys_in, zs_in, segments_in, sources_in, targets_in, node_marks_in, half_marks_in, line_ids_in, tracings_in}
use Rattle.tables.proofs.SliceRoom.{room_of}
use Rattle.stars.proofs.Sound.{sound_sortable, sort-passed}
use Rattle.calls.specs.Replies.{left}
use Rattle.calls.proofs.Shells.{stage-passed}
use Rattle.sort_entry.proofs.Shell.{sort_stops}
use Rattle.sort_entry.proofs.sort_edges.Goals as goal

pub returns-in-Err : goal.returns-in-Err
returns-in-Err c = sort_stops limits (state_in limits c.args.graph c.args.floats.now c.args.numbers.now c.args.stars.now c.args.marks.now c.args.ids.now) _ (sym c.in-Err.is ∙ c.check_stage-checked.ensures)

pub sort_region-done-requires : goal.sort_region-done-requires
sort_region-done-requires c =
    let a = c.args in
    let g = (stage-passed limits 0 (state_in limits c.args.graph c.args.floats.now c.args.numbers.now c.args.stars.now c.args.marks.now c.args.ids.now) (sym c.in_default.is ∙ c.check_stage-checked.ensures)).0 in
    let room = room_of limits a.graph a.floats.now a.numbers.now a.stars.now a.marks.now a.ids.now g.room in
    record {
      limits_in_bounds = (room.float_room, room.number_room, room.star_room);
      sortable = sound_sortable limits (state_in limits c.args.graph c.args.floats.now c.args.numbers.now c.args.stars.now c.args.marks.now c.args.ids.now) g.room g.sense;
    }

pub returns : goal.returns
returns c =
    let a = c.args in
    let floats = a.floats.now in
    let numbers = a.numbers.now in
    let marks = a.marks.now in
    let e = c.sort_region-done.ensures in
    (λ i. left (success (record {})) (state_of (e.graph i) (xs_in limits floats) (ys_in limits floats) (zs_in limits floats) (e.degrees i) (node_marks_in limits marks)
    (segments_in limits floats) (line_ids_in limits a.ids.now) (sources_in limits numbers) (targets_in limits numbers) (half_marks_in limits marks) (e.star i) (tracings_in limits numbers a.ids.now)))
    ∙ sym (sort-passed limits (state_in limits c.args.graph c.args.floats.now c.args.numbers.now c.args.stars.now c.args.marks.now c.args.ids.now) (stage-passed limits 0 (state_in limits c.args.graph c.args.floats.now c.args.numbers.now c.args.stars.now c.args.marks.now c.args.ids.now) (sym c.in_default.is ∙ c.check_stage-checked.ensures)).0.room (stage-passed limits 0 (state_in limits c.args.graph c.args.floats.now c.args.numbers.now c.args.stars.now c.args.marks.now c.args.ids.now) (sym c.in_default.is ∙ c.check_stage-checked.ensures)).0.sense (stage-passed limits 0 (state_in limits c.args.graph c.args.floats.now c.args.numbers.now c.args.stars.now c.args.marks.now c.args.ids.now) (sym c.in_default.is ∙ c.check_stage-checked.ensures)).1)
