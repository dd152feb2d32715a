-- `tukmiheb_reset` meets its contract.
use Rattle.std.proofs.Common.{arith, [], sym, ◌∙◌}
use Rattle.rules.specs.Limits.{limits}
use Rattle.rules.specs.Stages.{reset}
use Rattle.tables.specs.Regions.{state_in}
use Rattle.calls.specs.Replies.{step_reply}
use Rattle.reset_entry.proofs.Refusals.{reset-keeps}
use Rattle.replies.specs.Values.{no_values}
use Rattle.replies.specs.Left.{lent, none, held_in}
use Rattle.replies.proofs.Handing.{bytes_written_lem, check_read, bytes-enough, row-size, turned-away, let_in, settled}
use Rattle.station_steps.proofs.reset.tukmiheb_reset.Goals as goal

pub returns-in-Err : goal.returns-in-Err
returns-in-Err c =
    let a = c.args in
    let k = lent a.state.now a.floats.now a.numbers.now a.stars.now a.marks.now a.ids.now none [] in
    turned-away no_values k (reset limits (held_in k)) _ (sym c.in-Err.is ∙ check_read k _ c.read_state-graph.ensures _ c.check_marks-checked.ensures) _ c.refusal_number.ensures

pub read_marks-row-requires : goal.read_marks-row-requires
read_marks-row-requires c =
    let a = c.args in
    let k = lent a.state.now a.floats.now a.numbers.now a.stars.now a.marks.now a.ids.now none [] in
    bytes-enough k (sym c.in_default.is ∙ check_read k _ c.read_state-graph.ensures _ c.check_marks-checked.ensures)

pub write_marks-requires : goal.write_marks-requires
write_marks-requires c =
    let a = c.args in
    let k = lent a.state.now a.floats.now a.numbers.now a.stars.now a.marks.now a.ids.now none [] in
    let passes = sym c.in_default.is ∙ check_read k _ c.read_state-graph.ensures _ c.check_marks-checked.ensures in
    omega (arith, bytes-enough k passes, c.reset-done.auto.marks, row-size k passes c.read_marks-row.result c.read_marks-row.ensures)

pub returns : goal.returns
returns c =
    let a = c.args in
    let k = lent a.state.now a.floats.now a.numbers.now a.stars.now a.marks.now a.ids.now none [] in
    let o = reset limits (held_in k) in
    let passes = sym c.in_default.is ∙ check_read k _ c.read_state-graph.ensures _ c.check_marks-checked.ensures in
    let done = c.reset-done.result in
    let new = c.reset-done.new in
    let row = new.marks in
    let k' = lent c.answer_step.new.state k.floats k.numbers new.stars c.write_marks.new.bytes k.ids none [] in
    let e = c.reset-done.ensures ∙ (λ i. reset limits (state_in limits (c.read_state-graph.ensures i) k.floats k.numbers k.stars (c.read_marks-row.ensures i) k.ids)) in
    settled no_values k k' o (reset-keeps limits (held_in k)) done.graph row (step_reply done.reply) e
    (bytes_written_lem row k.bytes k'.bytes (bytes-enough k passes) (c.reset-done.auto.marks ∙ row-size k passes c.read_marks-row.result c.read_marks-row.ensures) c.write_marks.ensures) _ c.answer_step.ensures
    ∙ let_in no_values k o passes
