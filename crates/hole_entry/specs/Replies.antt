-- The documents' number and values for each case of the reply.
use Rattle.std.specs.Prelude.{ℕ, ◌*◌, Result}
use Rattle.geometry.specs.Reply.{Reply}
use Rattle.rules.specs.Extraction.{RingAnswer}
use Rattle.tables.specs.Refusals.{reply_by}
use Rattle.tables.specs.declared.Refusal.{Refusal}
use Rattle.extracting.specs.declared.Extracted.{Extracted}
use Rattle.ring_entry.specs.Replies.{ringing_of}
use Rattle.hole_entry.specs.declared.RingsAndHoles.{RingsAndHoles}

-- the count, the census, the comparisons, and the half-edges and holes written
abbrev pub rings_answer : RingsAndHoles → RingAnswer
rings_answer a = record { ringing = ringing_of a.rings; half_edges_lem = a.half_edges; holes = a.holes }

-- the same, or the number
abbrev pub rings_reply : Result RingsAndHoles Refusal → Reply RingAnswer
rings_reply = reply_by rings_answer

-- what is answered where the rings were extracted, with so many holes
abbrev pub answer_of : Extracted → ℕ → RingsAndHoles
answer_of done holes = record {
  rings = record { count = done.count; census = done.census; comparisons = done.comparisons };
  half_edges = 2 * done.census.edges;
  holes = holes;
}
