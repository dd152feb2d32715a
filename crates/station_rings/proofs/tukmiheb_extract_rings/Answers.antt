-- `tukmiheb_extract_rings` meets its contract: the core lists the rings, and its holes are written over those that were lent.
use Rattle.std.proofs.Common.{◌≡◌, ◌∙◌, ◌≤◌, List, length, arith, ap}
use Rattle.std.proofs.Math.ListN.{length-map}
use Rattle.rules.specs.Holes as rules
use Rattle.extracting.specs.Extraction.{lists_of}
use Rattle.holes.specs.Lent.{hole_of, lent_holes}
use Rattle.holes.proofs.Filling.{map-filled}
use Rattle.replies.specs.Left.{lent, gives}
use Rattle.station_rings.specs.Telling.{with_holes, written_over}
use Rattle.station_rings.proofs.tukmiheb_extract_rings.Goals as goal

pub fill_holes-requires : goal.fill_holes-requires
fill_holes-requires c = (c.rings_core-told.ensures.roomed, c.rings_core-told.ensures.few)

pub returns : goal.returns
returns c =
    let a = c.args in
    let told = c.rings_core-told.result in
    let tells = c.rings_core-told.ensures in
    let new = c.rings_core-told.new in
    let full : told.count ≤ length told.list = omega (arith, tells.few) in
    let same : lent_holes c.fill_holes.new.holes ≡ written_over told (lent_holes a.holes.now) =
    ap lent_holes c.fill_holes.ensures ∙ map-filled hole_of told.list told.count a.holes.now full in
    ap (λ (l : List rules.Hole). gives told.number (with_holes
    (lent new.state a.floats.now a.numbers.now a.stars.now a.marks.now a.ids.now
    (lists_of new.half_edges new.ring_first new.ring_length new.ring_face new.ring_side new.ring_area) new.reply) l)) same
    ∙ tells.done (lent_holes a.holes.now) (length-map a.holes.now hole_of)
