-- `prune_dangles` meets its clause: where numbers 6, 7, 5 and 8 pass, `prune_regions` marks and lists.
use native.Mathlib.Omega.{arith}
use mathlib.Core.Path.{sym, ◌∙◌}
use lib.ListN.{length-reverse}
use Rattle.geometry.specs.Reply.{success}
use Rattle.rules.specs.Limits.{limits}
use Rattle.tables.specs.Tables.{state_of}
use Rattle.tables.specs.Regions.{state_in, xs_in, ys_in, zs_in, segments_in, sources_in, targets_in, line_ids_in, tracings_in}
use Rattle.tables.proofs.SliceRoom.{room_of}
use Rattle.stars.proofs.Sound.{sound-groupable}
use Rattle.calls.specs.Replies.{left_with}
use Rattle.calls.proofs.Shells.{stage-passed}
use Rattle.prune_entry.specs.Given.{pruned_in}
use Rattle.prune_entry.proofs.Shell.{prune_stops, prune-short, prune-passes, held-starred, held-counted}
use Rattle.prune_entry.proofs.prune_dangles.Goals as goal

pub returns-in-Err : goal.returns-in-Err
returns-in-Err c = prune_stops limits (state_in limits c.args.graph c.args.floats.now c.args.numbers.now c.args.stars.now c.args.marks.now c.args.ids.now) c.args.out.now _ (sym c.in-Err.is ∙ c.check_stage-checked.ensures)

pub returns-then-out-from : goal.returns-then-out-from
returns-then-out-from c = prune-short limits (state_in limits c.args.graph c.args.floats.now c.args.numbers.now c.args.stars.now c.args.marks.now c.args.ids.now) c.args.out.now (stage-passed limits 1 (state_in limits c.args.graph c.args.floats.now c.args.numbers.now c.args.stars.now c.args.marks.now c.args.ids.now) (sym c.in_default.is ∙ c.check_stage-checked.ensures)).0 (stage-passed limits 1 (state_in limits c.args.graph c.args.floats.now c.args.numbers.now c.args.stars.now c.args.marks.now c.args.ids.now) (sym c.in_default.is ∙ c.check_stage-checked.ensures)).1 (omega (arith, c.if-out-from.true, c.from.ensures))

pub prune_regions-done-requires : goal.prune_regions-done-requires
prune_regions-done-requires c =
    let a = c.args in
    let g = (stage-passed limits 1 (state_in limits c.args.graph c.args.floats.now c.args.numbers.now c.args.stars.now c.args.marks.now c.args.ids.now) (sym c.in_default.is ∙ c.check_stage-checked.ensures)).0 in
    let room = room_of limits a.graph a.floats.now a.numbers.now a.stars.now a.marks.now a.ids.now g.room in record {
      limits_in_bounds = (room.number_room, room.star_room, room.mark_room, (omega (arith, c.if-out-from.false, c.from.ensures)));
      slice_prunable = record {
        groupable = sound-groupable limits (state_in limits c.args.graph c.args.floats.now c.args.numbers.now c.args.stars.now c.args.marks.now c.args.ids.now) g.room g.sense;
        starred = held-starred limits (state_in limits c.args.graph c.args.floats.now c.args.numbers.now c.args.stars.now c.args.marks.now c.args.ids.now) g (stage-passed limits 1 (state_in limits c.args.graph c.args.floats.now c.args.numbers.now c.args.stars.now c.args.marks.now c.args.ids.now) (sym c.in_default.is ∙ c.check_stage-checked.ensures)).1;
        counted = held-counted limits (state_in limits c.args.graph c.args.floats.now c.args.numbers.now c.args.stars.now c.args.marks.now c.args.ids.now) g (stage-passed limits 1 (state_in limits c.args.graph c.args.floats.now c.args.numbers.now c.args.stars.now c.args.marks.now c.args.ids.now) (sym c.in_default.is ∙ c.check_stage-checked.ensures)).1;
      };
    }

pub returns : goal.returns
returns c =
    let a = c.args in
    let floats = a.floats.now in
    let numbers = a.numbers.now in
    let found = (pruned_in limits a.graph numbers a.stars.now a.marks.now).found in
    let e = c.prune_regions-done.ensures.pruned in
    (λ i. left_with (success ((e.count ∙ sym (length-reverse found)) i))
    (state_of (e.advanced i) (xs_in limits floats) (ys_in limits floats) (zs_in limits floats) (e.degree i) (e.node_mark i)
    (segments_in limits floats) (line_ids_in limits a.ids.now) (sources_in limits numbers) (targets_in limits numbers) (e.half_mark i) (c.prune_regions-done.ensures.star i) (tracings_in limits numbers a.ids.now))
    (e.listed i))
    ∙ prune-passes limits (state_in limits c.args.graph c.args.floats.now c.args.numbers.now c.args.stars.now c.args.marks.now c.args.ids.now) a.out.now (stage-passed limits 1 (state_in limits c.args.graph c.args.floats.now c.args.numbers.now c.args.stars.now c.args.marks.now c.args.ids.now) (sym c.in_default.is ∙ c.check_stage-checked.ensures)).0 (stage-passed limits 1 (state_in limits c.args.graph c.args.floats.now c.args.numbers.now c.args.stars.now c.args.marks.now c.args.ids.now) (sym c.in_default.is ∙ c.check_stage-checked.ensures)).1 (omega (arith, c.if-out-from.false, c.from.ensures))
