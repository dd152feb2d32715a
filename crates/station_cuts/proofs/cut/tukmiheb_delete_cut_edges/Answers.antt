-- `tukmiheb_delete_cut_edges` meets its contract.
use Rattle.std.proofs.Common.{arith, sym, ◌∙◌}
use Rattle.rules.specs.Limits.{limits}
use Rattle.rules.specs.Stages.{cut_step}
use Rattle.tables.specs.Regions.{state_in}
use Rattle.cut_entry.specs.Replies.{cut_reply}
use Rattle.cut_entry.proofs.Refusals.{cut_keeps}
use Rattle.replies.specs.Values.{cut_values}
use Rattle.replies.specs.Left.{lent, held_in}
use Rattle.replies.proofs.Handing.{bytes_written_lem, check_read, bytes-enough, row-size, turned-away, let_in, settled}
use Rattle.station_cuts.proofs.cut.tukmiheb_delete_cut_edges.Goals as goal

pub returns-in-Err : goal.returns-in-Err
returns-in-Err c =
    let a = c.args in
    let k = lent a.state.now a.floats.now a.numbers.now a.stars.now a.marks.now a.ids.now a.cuts.now a.reply.now in
    turned-away cut_values k (cut_step limits (held_in k) k.lists) _ (sym c.in-Err.is ∙ check_read k _ c.read_state-graph.ensures _ c.check_marks-checked.ensures) _ c.refusal_number.ensures

pub read_marks-row-requires : goal.read_marks-row-requires
read_marks-row-requires c =
    let a = c.args in
    let k = lent a.state.now a.floats.now a.numbers.now a.stars.now a.marks.now a.ids.now a.cuts.now a.reply.now in
    bytes-enough k (sym c.in_default.is ∙ check_read k _ c.read_state-graph.ensures _ c.check_marks-checked.ensures)

pub write_marks-requires : goal.write_marks-requires
write_marks-requires c =
    let a = c.args in
    let k = lent a.state.now a.floats.now a.numbers.now a.stars.now a.marks.now a.ids.now a.cuts.now a.reply.now in
    let passes = sym c.in_default.is ∙ check_read k _ c.read_state-graph.ensures _ c.check_marks-checked.ensures in
    omega (arith, bytes-enough k passes, c.delete_cut_edges-done.auto.marks, row-size k passes c.read_marks-row.result c.read_marks-row.ensures)

pub returns : goal.returns
returns c =
    let a = c.args in
    let k = lent a.state.now a.floats.now a.numbers.now a.stars.now a.marks.now a.ids.now a.cuts.now a.reply.now in
    let o = cut_step limits (held_in k) k.lists in
    let passes = sym c.in_default.is ∙ check_read k _ c.read_state-graph.ensures _ c.check_marks-checked.ensures in
    let done = c.delete_cut_edges-done.result in
    let new = c.delete_cut_edges-done.new in
    let row = new.marks in
    let k' = lent c.answer_cutting.new.state k.floats k.numbers k.stars c.write_marks.new.bytes k.ids new.out c.answer_cutting.new.reply in
    let e = c.delete_cut_edges-done.ensures ∙ (λ i. cut_step limits (state_in limits (c.read_state-graph.ensures i) k.floats k.numbers k.stars (c.read_marks-row.ensures i) k.ids) k.lists) in
    settled cut_values k k' o (cut_keeps limits (held_in k) k.lists) done.graph row (cut_reply done.reply) e
    (bytes_written_lem row k.bytes k'.bytes (bytes-enough k passes) (c.delete_cut_edges-done.auto.marks ∙ row-size k passes c.read_marks-row.result c.read_marks-row.ensures) c.write_marks.ensures) _ c.answer_cutting.ensures
    ∙ let_in cut_values k o passes
