-- `tukmiheb_create` meets its contract.
use mathlib.Core.List.{[]}
use mathlib.Core.Path.{refl, ◌∙◌}
use Rattle.rules.specs.Limits.{limits}
use Rattle.rules.specs.Adding.{Nothing}
use Rattle.rules.specs.Stages.{create}
use Rattle.tables.specs.Regions.{state_in}
use Rattle.calls.specs.Replies.{left}
use Rattle.create_entry.specs.Replies.{created_reply, created_graph}
use Rattle.create_entry.proofs.Shell.{create-is}
use Rattle.create_entry.proofs.Refusals.{create-keeps}
use Rattle.lent_marks.specs.Marks.{marks_in}
use Rattle.replies.specs.Lent.{graph_in}
use Rattle.replies.specs.Values.{no_values}
use Rattle.replies.specs.Left.{Lent, lent, none, held_in}
use Rattle.replies.proofs.Handing.{bytes_read, settled}
use Rattle.station_building.proofs.create.tukmiheb_create.Goals as goal

-- what was lent, from the place where number 6 was tested
abbrev start : goal.After-answer_created → Lent Nothing
start c =
    let a = c.args in
    lent a.state.now a.floats.now a.numbers.now a.stars.now a.marks.now a.ids.now none []

pub returns : goal.returns
returns c =
    let k = start c in
    let g = graph_in k.small in
    let row = marks_in limits k.bytes in
    let o = create limits (held_in k) in
    let done = c.create_if-done.result in
    let k' = lent c.answer_created.new.state k.floats k.numbers k.stars k.bytes k.ids none [] in
    let e =
    (λ i. left (created_reply (c.create_if-done.ensures i)) (state_in limits (created_graph g (c.create_if-done.ensures i)) k.floats k.numbers k.stars row k.ids))
    ∙ create-is limits g k.floats k.numbers k.stars row k.ids c.has_room-room.result (c.has_room-room.ensures g) in
    settled no_values k k' o (create-keeps limits (held_in k)) (created_graph g done) row (created_reply done) e (bytes_read row k.bytes refl) _ c.answer_created.ensures
