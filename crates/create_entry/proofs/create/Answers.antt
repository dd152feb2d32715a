-- `create` meets its clause: number 6 is tested, and nothing else.
use mathlib.Core.Path.{◌∙◌}
use Rattle.rules.specs.Limits.{limits}
use Rattle.tables.specs.Regions.{state_in}
use Rattle.calls.specs.Replies.{left}
use Rattle.create_entry.specs.Replies.{created_reply, created_graph}
use Rattle.create_entry.proofs.Shell.{create-is}
use Rattle.create_entry.proofs.create.Goals as goal

pub returns : goal.returns
returns c graph =
    let a = c.args in
    let room = c.has_room in
    (λ i. left (created_reply (c.create_if.ensures i)) (state_in limits (created_graph graph (c.create_if.ensures i)) a.floats.now a.numbers.now a.stars.now a.marks.now a.ids.now))
    ∙ create-is limits graph a.floats.now a.numbers.now a.stars.now a.marks.now a.ids.now room.result (room.ensures graph)
