-- `extract_checked` meets its contract: `extract_regions` lists the rings, and their holes are found.
use Rattle.std.proofs.Common.{ap}
use Rattle.rules.specs.Limits.{limits}
use Rattle.tables.specs.Regions.{state_in}
use Rattle.extracting.specs.Extraction.{lists_of}
use Rattle.std.specs.Prelude.{Ok}
use Rattle.tables.specs.declared.Answer.{Answer}
use Rattle.hole_entry.specs.declared.RingsAndHoles.{RingsAndHoles}
use Rattle.hole_entry.proofs.Outcome.{census-few}
use Rattle.hole_entry.proofs.making.extract_checked.Goals as goal

pub holes_of_rings-found-requires : goal.holes_of_rings-found-requires
holes_of_rings-found-requires c =
    let a = c.args in
    let s = c.requires.slice_sound in
    record {
      stars = a.stars.now;
      marks = a.marks.now;
      ids = s.ids;
      in_floats = c.requires.limits_in_bounds.0;
      in_numbers = c.requires.limits_in_bounds.1;
      sense = s.sense;
      out = lists_of a.half_edges.now a.ring_first.now a.ring_length.now a.ring_face.now a.ring_side.now a.ring_area.now;
      extraction = c.extract_regions-done.ensures s.ids s.sense;
    }

pub answer-reply-requires : goal.answer-reply-requires
answer-reply-requires c =
    let a = c.args in
    let s = c.requires.slice_sound in
    let new = c.extract_regions-done.new in (
      census-few limits (state_in limits a.graph a.floats.now a.numbers.now a.stars.now a.marks.now s.ids)
          (lists_of a.half_edges.now a.ring_first.now a.ring_length.now a.ring_face.now a.ring_side.now a.ring_area.now)
          (lists_of new.half_edges new.ring_first new.ring_length new.ring_face new.ring_side new.ring_area)
          c.extract_regions-done.result s.sense (c.extract_regions-done.ensures s.ids s.sense),
      c.holes_of_rings-found.ensures.few,
    )

pub returns : goal.returns
returns c ids sense =
    let a = c.args in
    let found = c.holes_of_rings-found.ensures in
    record {
      done = c.extract_regions-done.result;
      extraction = c.extract_regions-done.ensures ids sense;
      answer = ap {B = Answer RingsAndHoles} (λ (q : RingsAndHoles). record { graph = c.extract_regions-done.result.graph; reply = Ok q }) c.answer-reply.ensures;
      holes = found.holes (record {
        stars = a.stars.now;
        marks = a.marks.now;
        ids = ids;
        in_floats = c.requires.limits_in_bounds.0;
        in_numbers = c.requires.limits_in_bounds.1;
        sense = sense;
        out = lists_of a.half_edges.now a.ring_first.now a.ring_length.now a.ring_face.now a.ring_side.now a.ring_area.now;
        extraction = c.extract_regions-done.ensures ids sense;
      });
      few = found.few;
      full = found.full;
    }
