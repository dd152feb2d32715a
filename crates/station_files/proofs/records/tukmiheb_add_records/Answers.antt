-- `tukmiheb_add_records` meets its contract.
use Rattle.std.proofs.Common.{arith, sym, ◌∙◌}
use Rattle.rules.specs.Limits.{limits}
use Rattle.tables.specs.Regions.{state_in}
use Rattle.file_taking.specs.FileAdding.{add_records_lem}
use Rattle.file_taking.specs.Replies.{file_reply}
use Rattle.file_entry.proofs.Refusals.{records-keeps}
use Rattle.replies.specs.Left.{lent, none, held_in}
use Rattle.replies.proofs.Handing.{bytes_written_lem, check_read, bytes-enough, row-size, turned-away, let_in, settled}
use Rattle.station_files.specs.Calls.{file_values}
use Rattle.station_files.proofs.records.tukmiheb_add_records.Goals as goal

pub returns-in-Err : goal.returns-in-Err
returns-in-Err c =
    let a = c.args in
    let k = lent a.state.now a.floats.now a.numbers.now a.stars.now a.marks.now a.ids.now none a.reply.now in
    turned-away file_values k (add_records_lem limits a.file.now (held_in k)) _ (sym c.in-Err.is ∙ check_read k _ c.read_state-graph.ensures _ c.check_marks-checked.ensures) _ c.refusal_number.ensures

pub read_marks-row-requires : goal.read_marks-row-requires
read_marks-row-requires c =
    let a = c.args in
    let k = lent a.state.now a.floats.now a.numbers.now a.stars.now a.marks.now a.ids.now none a.reply.now in
    bytes-enough k (sym c.in_default.is ∙ check_read k _ c.read_state-graph.ensures _ c.check_marks-checked.ensures)

pub write_marks-requires : goal.write_marks-requires
write_marks-requires c =
    let a = c.args in
    let k = lent a.state.now a.floats.now a.numbers.now a.stars.now a.marks.now a.ids.now none a.reply.now in
    let passes = sym c.in_default.is ∙ check_read k _ c.read_state-graph.ensures _ c.check_marks-checked.ensures in
    omega (arith, bytes-enough k passes, c.add_records-done.auto.marks, row-size k passes c.read_marks-row.result c.read_marks-row.ensures)

pub returns : goal.returns
returns c =
    let a = c.args in
    let k = lent a.state.now a.floats.now a.numbers.now a.stars.now a.marks.now a.ids.now none a.reply.now in
    let o = add_records_lem limits a.file.now (held_in k) in
    let passes = sym c.in_default.is ∙ check_read k _ c.read_state-graph.ensures _ c.check_marks-checked.ensures in
    let done = c.add_records-done.result in
    let new = c.add_records-done.new in
    let row = new.marks in
    let k' = lent c.answer_records.new.state new.floats new.numbers new.stars c.write_marks.new.bytes new.ids none c.answer_records.new.reply in
    let e = c.add_records-done.ensures ∙ (λ i. add_records_lem limits a.file.now (state_in limits (c.read_state-graph.ensures i) k.floats k.numbers k.stars (c.read_marks-row.ensures i) k.ids)) in
    settled file_values k k' o (records-keeps limits a.file.now (held_in k)) done.graph row (file_reply done.reply) e
    (bytes_written_lem row k.bytes k'.bytes (bytes-enough k passes) (c.add_records-done.auto.marks ∙ row-size k passes c.read_marks-row.result c.read_marks-row.ensures) c.write_marks.ensures) _ c.answer_records.ensures
    ∙ let_in file_values k o passes
