-- `ring_map` meets its contract: ring extraction succeeds, and the lists hold the rings.
use mathlib.Core.Path.{ap, ◌∙◌}
use Rattle.rules.specs.Limits.{limits}
use Rattle.rules.specs.State.{State}
use Rattle.rules.specs.Ringing.{RingLists, Ringing}
use Rattle.rules.proofs.Going.{ring_went}
use Rattle.tables.specs.Regions.{state_in}
use Rattle.extracting.specs.Extraction.{lists_of}
use Rattle.ring_entry.specs.Replies.{ringing_of, ring_reply}
use Rattle.map_steps.proofs.Steps.{unrefused, ring-room}
use Rattle.map_rings.proofs.Extracted.{extracted-count, extracted-census, extracted-shown}
use Rattle.map_rings.proofs.ring_map.Goals as goal
use Rattle.map_rings.proofs.ring_map.Goals.{Start}

-- the state that the slices hold
abbrev held : Start → State
held c = let a = c.args in state_in limits a.graph a.floats.now a.numbers.now a.stars.now a.marks.now a.ids.now

-- the lists as they were lent
abbrev lent : Start → RingLists
lent c = let a = c.args in lists_of a.half_edges.now a.ring_first.now a.ring_length.now a.ring_face.now a.ring_side.now a.ring_area.now

pub returns-in-Ok : goal.returns-in-Ok
returns-in-Ok c =
    let s = held (goal.at.returns-in-Ok c).Start in
    let x = c.extract_without_holes-done in
    let answer : Ringing = ringing_of c.in-Ok.rings in
    let done = ap ring_reply c.in-Ok.is in
    record {
      shown = extracted-shown s _ _ _ _ answer x.ensures done (x.auto.half_edges ∙ c.requires.1.half_edges_lem) (x.auto.ring_first ∙ c.requires.1.first);
      many = extracted-count s _ _ _ _ answer x.ensures done;
      seen = ap (λ z. z.verdict) (extracted-census s _ _ _ _ answer x.ensures done);
    }

-- no step refuses what is sound and in its stage
pub returns-in-Err : goal.returns-in-Err
returns-in-Err c =
    let k = (goal.at.returns-in-Err c).Start in
    absurd
    (unrefused _ _ _ _ c.extract_without_holes-done.ensures
    (ring_went limits (held k) c.requires.0.held _ c.requires.0.here (ring-room (held k) (lent k) c.requires.0.held c.requires.1)).goes.succeeds _ (ap ring_reply c.in-Err.is))
