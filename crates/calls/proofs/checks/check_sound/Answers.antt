-- `check_sound` meets its contract: number 6 decides, then number 7.
use mathlib.Core.Path.{sym, ◌∙◌}
use Rattle.rules.specs.Limits.{limits}
use Rattle.tables.specs.Regions.{state_in}
use Rattle.tables.proofs.SliceRoom.{room_of}
use Rattle.calls.specs.Checks.{passed}
use Rattle.calls.proofs.Shells.{check_room, check_sense, check_rest}
use Rattle.calls.proofs.checks.check_sound.Goals as goal

pub is_sound-requires : goal.is_sound-requires
is_sound-requires c =
    let a = c.args in
    room_of limits a.graph a.floats.now a.numbers.now a.stars.now a.marks.now a.ids.now (sym (c.has_room.ensures c.args.graph) ∙ c.if-has_room.true)

pub returns-then-is_sound : goal.returns-then-is_sound
returns-then-is_sound c =
    check_rest limits (state_in limits c.args.graph c.args.floats.now c.args.numbers.now c.args.stars.now c.args.marks.now c.args.ids.now) passed (sym (c.has_room.ensures c.args.graph) ∙ c.if-has_room.true)
    (sym c.is_sound.ensures ∙ c.if-is_sound.true)

pub returns-then-has_room : goal.returns-then-has_room
returns-then-has_room c =
    check_sense limits (state_in limits c.args.graph c.args.floats.now c.args.numbers.now c.args.stars.now c.args.marks.now c.args.ids.now) passed (sym (c.has_room.ensures c.args.graph) ∙ c.if-has_room.true)
    (sym c.is_sound.ensures ∙ c.if-is_sound.false)

pub returns : goal.returns
returns c = check_room limits (state_in limits c.args.graph c.args.floats.now c.args.numbers.now c.args.stars.now c.args.marks.now c.args.ids.now) passed (sym (c.has_room.ensures c.args.graph) ∙ c.if-has_room.false)
