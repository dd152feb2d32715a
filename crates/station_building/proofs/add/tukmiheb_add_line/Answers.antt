-- `tukmiheb_add_line` meets its contract.
use Rattle.std.proofs.Common.{arith, sym, ◌∙◌}
use Rattle.rules.specs.Limits.{limits}
use Rattle.rules.specs.Adding.{add}
use Rattle.tables.specs.Regions.{state_in}
use Rattle.adding.specs.Outcomes.{reply_of}
use Rattle.add_entry.proofs.Refusals.{add-keeps}
use Rattle.replies.specs.Values.{added_values}
use Rattle.replies.specs.Left.{lent, none, held_in}
use Rattle.replies.proofs.Handing.{bytes_written_lem, check_read, bytes-enough, row-size, turned-away, let_in, settled}
use Rattle.station_building.specs.Calls.{line_from_lem}
use Rattle.station_building.proofs.add.tukmiheb_add_line.Goals as goal

pub returns-in-Err : goal.returns-in-Err
returns-in-Err c =
    let a = c.args in
    let k = lent a.state.now a.floats.now a.numbers.now a.stars.now a.marks.now a.ids.now none a.reply.now in
    turned-away added_values k (add limits (line_from_lem a.x1 a.y1 a.z1 a.x2 a.y2 a.z2 a.line_id) (held_in k)) _ (sym c.in-Err.is ∙ check_read k _ c.read_state-graph.ensures _ c.check_marks-checked.ensures) _ c.refusal_number.ensures

pub read_marks-row-requires : goal.read_marks-row-requires
read_marks-row-requires c =
    let a = c.args in
    let k = lent a.state.now a.floats.now a.numbers.now a.stars.now a.marks.now a.ids.now none a.reply.now in
    bytes-enough k (sym c.in_default.is ∙ check_read k _ c.read_state-graph.ensures _ c.check_marks-checked.ensures)

pub write_marks-requires : goal.write_marks-requires
write_marks-requires c =
    let a = c.args in
    let k = lent a.state.now a.floats.now a.numbers.now a.stars.now a.marks.now a.ids.now none a.reply.now in
    let passes = sym c.in_default.is ∙ check_read k _ c.read_state-graph.ensures _ c.check_marks-checked.ensures in
    omega (arith, bytes-enough k passes, c.add_line-done.auto.marks, row-size k passes c.read_marks-row.result c.read_marks-row.ensures)

pub returns : goal.returns
returns c =
    let a = c.args in
    let k = lent a.state.now a.floats.now a.numbers.now a.stars.now a.marks.now a.ids.now none a.reply.now in
    let o = add limits (line_from_lem a.x1 a.y1 a.z1 a.x2 a.y2 a.z2 a.line_id) (held_in k) in
    let passes = sym c.in_default.is ∙ check_read k _ c.read_state-graph.ensures _ c.check_marks-checked.ensures in
    let done = c.add_line-done.result in
    let new = c.add_line-done.new in
    let row = new.marks in
    let k' = lent c.answer_added.new.state new.floats new.numbers new.stars c.write_marks.new.bytes new.ids none c.answer_added.new.reply in
    let e = c.add_line-done.ensures.outcome ∙ (λ i. add limits (c.line_from-line.ensures i) (state_in limits (c.read_state-graph.ensures i) k.floats k.numbers k.stars (c.read_marks-row.ensures i) k.ids)) in
    settled added_values k k' o (add-keeps limits (line_from_lem a.x1 a.y1 a.z1 a.x2 a.y2 a.z2 a.line_id) (held_in k)) done.graph row (reply_of done.reply) e
    (bytes_written_lem row k.bytes k'.bytes (bytes-enough k passes) (c.add_line-done.auto.marks ∙ row-size k passes c.read_marks-row.result c.read_marks-row.ensures) c.write_marks.ensures) _ c.answer_added.ensures
    ∙ let_in added_values k o passes
