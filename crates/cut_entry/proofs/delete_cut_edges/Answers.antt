-- `delete_cut_edges` meets its clause: where numbers 6, 7, 5 and 8 pass, `cut_region` counts, marks and lists.
use native.Mathlib.Omega.{arith}
use mathlib.Core.Path.{sym, ◌∙◌}
use Rattle.geometry.specs.Reply.{success}
use Rattle.rules.specs.Limits.{limits}
use Rattle.tables.specs.Tables.{state_of}
use Rattle.tables.specs.Regions.{state_in, xs_in, ys_in, zs_in, segments_in, sources_in, targets_in, star_table_in, degrees_in, line_ids_in, tracings_in}
use Rattle.tables.proofs.SliceRoom.{room_of}
use Rattle.stars.proofs.Sound.{sound-groupable, sound_sortable}
use Rattle.calls.specs.Replies.{left_with}
use Rattle.calls.proofs.Shells.{stage-passed, held-sane}
use Rattle.cut_entry.proofs.Shell.{cut_stops, cut_short, cut-passes}
use Rattle.cut_entry.proofs.delete_cut_edges.Goals as goal

pub returns-in-Err : goal.returns-in-Err
returns-in-Err c = cut_stops limits (state_in limits c.args.graph c.args.floats.now c.args.numbers.now c.args.stars.now c.args.marks.now c.args.ids.now) c.args.out.now _ (sym c.in-Err.is ∙ c.check_stage-checked.ensures)

pub returns-then-out-from : goal.returns-then-out-from
returns-then-out-from c = cut_short limits (state_in limits c.args.graph c.args.floats.now c.args.numbers.now c.args.stars.now c.args.marks.now c.args.ids.now) c.args.out.now (stage-passed limits 2 (state_in limits c.args.graph c.args.floats.now c.args.numbers.now c.args.stars.now c.args.marks.now c.args.ids.now) (sym c.in_default.is ∙ c.check_stage-checked.ensures)).0 (stage-passed limits 2 (state_in limits c.args.graph c.args.floats.now c.args.numbers.now c.args.stars.now c.args.marks.now c.args.ids.now) (sym c.in_default.is ∙ c.check_stage-checked.ensures)).1 (omega (arith, c.if-out-from.true, c.from.ensures))

pub cut_region-done-requires : goal.cut_region-done-requires
cut_region-done-requires c =
    let a = c.args in
    let g = (stage-passed limits 2 (state_in limits c.args.graph c.args.floats.now c.args.numbers.now c.args.stars.now c.args.marks.now c.args.ids.now) (sym c.in_default.is ∙ c.check_stage-checked.ensures)).0 in
    let room = room_of limits a.graph a.floats.now a.numbers.now a.stars.now a.marks.now a.ids.now g.room in record {
      limits_in_bounds = (room.float_room, room.number_room, room.star_room, room.mark_room, (omega (arith, c.if-out-from.false, c.from.ensures)));
      slice_cuttable = record {
        groupable = sound-groupable limits (state_in limits c.args.graph c.args.floats.now c.args.numbers.now c.args.stars.now c.args.marks.now c.args.ids.now) g.room g.sense;
        sane = held-sane limits (state_in limits c.args.graph c.args.floats.now c.args.numbers.now c.args.stars.now c.args.marks.now c.args.ids.now) g;
        placed = (sound_sortable limits (state_in limits c.args.graph c.args.floats.now c.args.numbers.now c.args.stars.now c.args.marks.now c.args.ids.now) g.room g.sense).located;
      };
    }

pub returns : goal.returns
returns c =
    let a = c.args in
    let floats = a.floats.now in
    let numbers = a.numbers.now in
    let stars = a.stars.now in
    let e = c.cut_region-done.ensures.cut in
    (λ i. left_with (success (record { count = e.count i; census = e.counted i }))
    (state_of (e.advanced i) (xs_in limits floats) (ys_in limits floats) (zs_in limits floats) (degrees_in limits stars) (c.cut_region-done.ensures.nodes i)
    (segments_in limits floats) (line_ids_in limits a.ids.now) (sources_in limits numbers) (targets_in limits numbers) (e.marked i) (star_table_in limits stars) (tracings_in limits numbers a.ids.now))
    (e.listed i))
    ∙ cut-passes limits (state_in limits c.args.graph c.args.floats.now c.args.numbers.now c.args.stars.now c.args.marks.now c.args.ids.now) a.out.now (stage-passed limits 2 (state_in limits c.args.graph c.args.floats.now c.args.numbers.now c.args.stars.now c.args.marks.now c.args.ids.now) (sym c.in_default.is ∙ c.check_stage-checked.ensures)).0 (stage-passed limits 2 (state_in limits c.args.graph c.args.floats.now c.args.numbers.now c.args.stars.now c.args.marks.now c.args.ids.now) (sym c.in_default.is ∙ c.check_stage-checked.ensures)).1 (omega (arith, c.if-out-from.false, c.from.ensures))
