-- `tukmiheb_prune_dangles` meets its contract.
use Rattle.std.proofs.Common.{arith, sym, ◌∙◌}
use Rattle.rules.specs.Limits.{limits}
use Rattle.rules.specs.Stages.{prune_step}
use Rattle.tables.specs.Regions.{state_in}
use Rattle.prune_entry.specs.Replies.{prune_reply}
use Rattle.prune_entry.proofs.Refusals.{prune-keeps}
use Rattle.replies.specs.Values.{count_value_lem}
use Rattle.replies.specs.Left.{lent, held_in}
use Rattle.replies.proofs.Handing.{bytes_written_lem, check_read, bytes-enough, row-size, turned-away, let_in, settled}
use Rattle.station_cuts.proofs.prune.tukmiheb_prune_dangles.Goals as goal

pub returns-in-Err : goal.returns-in-Err
returns-in-Err c =
    let a = c.args in
    let k = lent a.state.now a.floats.now a.numbers.now a.stars.now a.marks.now a.ids.now a.dangles.now a.reply.now in
    turned-away count_value_lem k (prune_step limits (held_in k) k.lists) _ (sym c.in-Err.is ∙ check_read k _ c.read_state-graph.ensures _ c.check_marks-checked.ensures) _ c.refusal_number.ensures

pub read_marks-row-requires : goal.read_marks-row-requires
read_marks-row-requires c =
    let a = c.args in
    let k = lent a.state.now a.floats.now a.numbers.now a.stars.now a.marks.now a.ids.now a.dangles.now a.reply.now in
    bytes-enough k (sym c.in_default.is ∙ check_read k _ c.read_state-graph.ensures _ c.check_marks-checked.ensures)

pub write_marks-requires : goal.write_marks-requires
write_marks-requires c =
    let a = c.args in
    let k = lent a.state.now a.floats.now a.numbers.now a.stars.now a.marks.now a.ids.now a.dangles.now a.reply.now in
    let passes = sym c.in_default.is ∙ check_read k _ c.read_state-graph.ensures _ c.check_marks-checked.ensures in
    omega (arith, bytes-enough k passes, c.prune_dangles-done.auto.marks, row-size k passes c.read_marks-row.result c.read_marks-row.ensures)

pub returns : goal.returns
returns c =
    let a = c.args in
    let k = lent a.state.now a.floats.now a.numbers.now a.stars.now a.marks.now a.ids.now a.dangles.now a.reply.now in
    let o = prune_step limits (held_in k) k.lists in
    let passes = sym c.in_default.is ∙ check_read k _ c.read_state-graph.ensures _ c.check_marks-checked.ensures in
    let done = c.prune_dangles-done.result in
    let new = c.prune_dangles-done.new in
    let row = new.marks in
    let k' = lent c.answer_pruned.new.state k.floats k.numbers new.stars c.write_marks.new.bytes k.ids new.out c.answer_pruned.new.reply in
    let e = c.prune_dangles-done.ensures ∙ (λ i. prune_step limits (state_in limits (c.read_state-graph.ensures i) k.floats k.numbers k.stars (c.read_marks-row.ensures i) k.ids) k.lists) in
    settled count_value_lem k k' o (prune-keeps limits (held_in k) k.lists) done.graph row (prune_reply done.reply) e
    (bytes_written_lem row k.bytes k'.bytes (bytes-enough k passes) (c.prune_dangles-done.auto.marks ∙ row-size k passes c.read_marks-row.result c.read_marks-row.ensures) c.write_marks.ensures) _ c.answer_pruned.ensures
    ∙ let_in count_value_lem k o passes
