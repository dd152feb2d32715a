-- `rings_core` meets its contract: where the tests of the bytes pass, the core of the public entry works on their row of marks.
use Rattle.std.proofs.Common.{◌∙◌, sym, ap, arith}
use Rattle.std.proofs.Math.ListN.{take}
use Rattle.lists.specs.Lists.{over}
use Rattle.rules.specs.Limits.{limits}
use Rattle.rules.specs.Extraction.{extract}
use Rattle.tables.specs.Regions.{state_in}
use Rattle.extracting.specs.Extraction.{lists_of}
use Rattle.holes.specs.Lent.{lent_holes}
use Rattle.hole_entry.specs.Replies.{rings_reply}
use Rattle.hole_entry.proofs.Refusals.{extract-keeps}
use Rattle.ring_replies.specs.Values.{ring_values}
use Rattle.replies.specs.Left.{lent, held_in, gives}
use Rattle.replies.proofs.Handing.{bytes_read, check_read, bytes-enough, turned-away, let_in, settled}
use Rattle.station_rings.specs.declared.telling.Told.{Told}
use Rattle.station_rings.specs.Telling.{with_holes, written_over}
use Rattle.station_rings.proofs.telling.rings_core.Goals as goal

pub returns-in-Err : goal.returns-in-Err
returns-in-Err c =
    let a = c.args in
    let s = lent a.state.now a.floats.now a.numbers.now a.stars.now a.marks.now a.ids.now
    (lists_of a.half_edges.now a.ring_first.now a.ring_length.now a.ring_face.now a.ring_side.now a.ring_area.now) a.reply.now in
    let told = c.turned_down.result in
    let none = c.turned_down.ensures.1 in
    record {
      done = λ old long.
          let k = with_holes s old in
          ap (λ n. gives told.number (with_holes s (over (lent_holes (take n told.list)) old))) none
          ∙ turned-away ring_values k (extract limits (held_in k) k.lists) _ (sym c.in-Err.is ∙ check_read s _ c.read_state-graph.ensures _ c.check_marks-checked.ensures) _ c.turned_down.ensures.0;
      roomed = omega (arith, none);
      few = omega (arith, none);
    }

pub read_marks-row-requires : goal.read_marks-row-requires
read_marks-row-requires c =
    let a = c.args in
    let s = lent a.state.now a.floats.now a.numbers.now a.stars.now a.marks.now a.ids.now
    (lists_of a.half_edges.now a.ring_first.now a.ring_length.now a.ring_face.now a.ring_side.now a.ring_area.now) a.reply.now in
    bytes-enough s (sym c.in_default.is ∙ check_read s _ c.read_state-graph.ensures _ c.check_marks-checked.ensures)

pub returns : goal.returns
returns c =
    let a = c.args in
    let s = lent a.state.now a.floats.now a.numbers.now a.stars.now a.marks.now a.ids.now
    (lists_of a.half_edges.now a.ring_first.now a.ring_length.now a.ring_face.now a.ring_side.now a.ring_area.now) a.reply.now in
    let made = c.extract_core-made.result in
    let makes = c.extract_core-made.ensures in
    let new = c.extract_core-made.new in
    let row = c.read_marks-row.result in
    let told : Told = record { list = made.list; count = made.count; number = c.answer_rings-number.result } in
    let s' = lent c.answer_rings-number.new.state s.floats s.numbers s.stars s.bytes s.ids
    (lists_of new.half_edges new.ring_first new.ring_length new.ring_face new.ring_side new.ring_area) c.answer_rings-number.new.reply in
    record {
      done = λ old long.
          let k = with_holes s old in
          let k' = with_holes s' (written_over told old) in
          let o = extract limits (held_in k) k.lists in
          let e = makes.done old long ∙ (λ i. extract limits (state_in limits (c.read_state-graph.ensures i) s.floats s.numbers s.stars (c.read_marks-row.ensures i) s.ids) k.lists) in
          settled ring_values k k' o (extract-keeps limits (held_in k) k.lists) made.ringed.graph row (rings_reply made.ringed.reply) e (bytes_read row s.bytes c.read_marks-row.ensures) _ c.answer_rings-number.ensures
          ∙ let_in ring_values k o (sym c.in_default.is ∙ check_read s _ c.read_state-graph.ensures _ c.check_marks-checked.ensures);
      roomed = makes.roomed;
      few = makes.few;
    }
