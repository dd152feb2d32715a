-- `tukmiheb_sort_edges` meets its contract.
use Rattle.std.proofs.Common.{[], sym, ◌∙◌}
use Rattle.rules.specs.Limits.{limits}
use Rattle.rules.specs.Stages.{sort}
use Rattle.tables.specs.Regions.{state_in}
use Rattle.calls.specs.Replies.{step_reply}
use Rattle.sort_entry.proofs.Refusals.{sort-keeps}
use Rattle.replies.specs.Values.{no_values}
use Rattle.replies.specs.Left.{lent, none, held_in}
use Rattle.replies.proofs.Handing.{bytes_read, check_read, bytes-enough, turned-away, let_in, settled}
use Rattle.station_steps.proofs.sort.tukmiheb_sort_edges.Goals as goal

pub returns-in-Err : goal.returns-in-Err
returns-in-Err c =
    let a = c.args in
    let k = lent a.state.now a.floats.now a.numbers.now a.stars.now a.marks.now a.ids.now none [] in
    turned-away no_values k (sort limits (held_in k)) _ (sym c.in-Err.is ∙ check_read k _ c.read_state-graph.ensures _ c.check_marks-checked.ensures) _ c.refusal_number.ensures

pub read_marks-row-requires : goal.read_marks-row-requires
read_marks-row-requires c =
    let a = c.args in
    let k = lent a.state.now a.floats.now a.numbers.now a.stars.now a.marks.now a.ids.now none [] in
    bytes-enough k (sym c.in_default.is ∙ check_read k _ c.read_state-graph.ensures _ c.check_marks-checked.ensures)

pub returns : goal.returns
returns c =
    let a = c.args in
    let k = lent a.state.now a.floats.now a.numbers.now a.stars.now a.marks.now a.ids.now none [] in
    let o = sort limits (held_in k) in
    let passes = sym c.in_default.is ∙ check_read k _ c.read_state-graph.ensures _ c.check_marks-checked.ensures in
    let done = c.sort_edges-done.result in
    let new = c.sort_edges-done.new in
    let row = c.read_marks-row.result in
    let k' = lent c.answer_step.new.state k.floats k.numbers new.stars k.bytes k.ids none [] in
    let e = c.sort_edges-done.ensures ∙ (λ i. sort limits (state_in limits (c.read_state-graph.ensures i) k.floats k.numbers k.stars (c.read_marks-row.ensures i) k.ids)) in
    settled no_values k k' o (sort-keeps limits (held_in k)) done.graph row (step_reply done.reply) e
    (bytes_read row k.bytes c.read_marks-row.ensures) _ c.answer_step.ensures
    ∙ let_in no_values k o passes
