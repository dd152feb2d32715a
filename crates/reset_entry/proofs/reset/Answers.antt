-- `reset` meets its clause: where numbers 6 and 7 pass, `reset_regions` writes what the rules write.
use mathlib.Core.Path.{sym, ◌∙◌}
use Rattle.geometry.specs.Reply.{success}
use Rattle.rules.specs.Limits.{limits}
use Rattle.tables.specs.Tables.{state_of}
use Rattle.tables.specs.Regions.{state_in, xs_in, ys_in, zs_in, segments_in, sources_in, targets_in, line_ids_in, tracings_in}
use Rattle.table_tests.proofs.Shells.{reset-given, reset-is}
use Rattle.tables.proofs.SliceRoom.{room_of}
use Rattle.calls.specs.Replies.{left}
use Rattle.calls.proofs.Shells.{check_passed}
use Rattle.reset_entry.proofs.Shell.{reset_stops}
use Rattle.reset_entry.proofs.reset.Goals as goal

pub returns-in-Err : goal.returns-in-Err
returns-in-Err c = reset_stops limits (state_in limits c.args.graph c.args.floats.now c.args.numbers.now c.args.stars.now c.args.marks.now c.args.ids.now) _ (sym c.in-Err.is ∙ c.check_sound-checked.ensures)

pub reset_regions-done-requires : goal.reset_regions-done-requires
reset_regions-done-requires c =
    let a = c.args in
    let g = (check_passed limits (state_in limits c.args.graph c.args.floats.now c.args.numbers.now c.args.stars.now c.args.marks.now c.args.ids.now) (sym c.in_default.is ∙ c.check_sound-checked.ensures)) in
    let room = room_of limits a.graph a.floats.now a.numbers.now a.stars.now a.marks.now a.ids.now g.room in
    record {
      limits_in_bounds = (room.number_room, room.star_room, room.mark_room);
      resettable = reset-given limits (state_in limits c.args.graph c.args.floats.now c.args.numbers.now c.args.stars.now c.args.marks.now c.args.ids.now) g.room g.sense;
    }

pub returns : goal.returns
returns c =
    let a = c.args in
    let floats = a.floats.now in
    let numbers = a.numbers.now in
    let e = c.reset_regions-done.ensures in
    (λ i. left (success (record {})) (state_of (e.graph i) (xs_in limits floats) (ys_in limits floats) (zs_in limits floats) (e.degrees i) (e.nodes i)
    (segments_in limits floats) (line_ids_in limits a.ids.now) (sources_in limits numbers) (targets_in limits numbers) (e.halves i) (e.star i) (tracings_in limits numbers a.ids.now)))
    ∙ sym (reset-is limits (state_in limits c.args.graph c.args.floats.now c.args.numbers.now c.args.stars.now c.args.marks.now c.args.ids.now) (check_passed limits (state_in limits c.args.graph c.args.floats.now c.args.numbers.now c.args.stars.now c.args.marks.now c.args.ids.now) (sym c.in_default.is ∙ c.check_sound-checked.ensures)).room (check_passed limits (state_in limits c.args.graph c.args.floats.now c.args.numbers.now c.args.stars.now c.args.marks.now c.args.ids.now) (sym c.in_default.is ∙ c.check_sound-checked.ensures)).sense)
