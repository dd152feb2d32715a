-- `has_room` meets its contract: number 6 of the regions is the five lengths.
use mathlib.Core.Path.{◌∙◌}
use Rattle.rules.specs.Limits.{limits}
use Rattle.tables.proofs.SliceRoom.{room-is}
use Rattle.calls.proofs.room.has_room.Goals as goal

pub returns : goal.returns
returns c graph =
    let a = c.args in
    c.are_long.ensures ∙ room-is limits graph a.floats.now a.numbers.now a.stars.now a.marks.now a.ids.now
