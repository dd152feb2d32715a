-- `extract_rings` meets its contract: the core lists the rings, and its holes are written over those that were lent.
use Rattle.std.proofs.Common.{◌≡◌, ◌∙◌, ◌≤◌, List, length, arith, ap}
use Rattle.std.proofs.Math.ListN.{length-map}
use Rattle.rules.specs.Limits.{limits}
use Rattle.rules.specs.Holes as rules
use Rattle.tables.specs.Regions.{state_in}
use Rattle.calls.specs.Replies.{left_with}
use Rattle.extracting.specs.Extraction.{lists_of}
use Rattle.holes.specs.Lent.{hole_of, lent_holes}
use Rattle.holes.proofs.Filling.{map-filled}
use Rattle.hole_checks.specs.Clause.{lent}
use Rattle.hole_entry.specs.Making.{written_over}
use Rattle.hole_entry.specs.Replies.{rings_reply}
use Rattle.hole_entry.proofs.extract_rings.Goals as goal

pub fill_holes-requires : goal.fill_holes-requires
fill_holes-requires c = (c.extract_core-made.ensures.roomed, c.extract_core-made.ensures.few)

pub returns : goal.returns
returns c =
    let made = c.extract_core-made.result in
    let new = c.extract_core-made.new in
    let makes = c.extract_core-made.ensures in
    let full : made.count ≤ length made.list = omega (arith, makes.few) in
    let same : lent_holes c.fill_holes.new.holes ≡ written_over made (lent_holes c.args.holes.now) =
    ap lent_holes c.fill_holes.ensures ∙ map-filled hole_of made.list made.count c.args.holes.now full in
    ap (λ (l : List rules.Hole). left_with (rings_reply made.ringed.reply)
    (state_in limits made.ringed.graph c.args.floats.now c.args.numbers.now c.args.stars.now c.args.marks.now c.args.ids.now)
    (lent (lists_of new.half_edges new.ring_first new.ring_length new.ring_face new.ring_side new.ring_area) l)) same
    ∙ makes.done (lent_holes c.args.holes.now) (length-map c.args.holes.now hole_of)
