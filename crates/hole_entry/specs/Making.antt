-- What the core of ring extraction makes, for the entry to write.
use Rattle.std.specs.Prelude.{ℕ, ◌≤◌, ◌≡◌, List, length, take, Ok, Err}
use Rattle.lists.specs.Lists.{over}
use Rattle.rules.specs.Limits.{limits, shaped_rings}
use Rattle.rules.specs.State.{State}
use Rattle.rules.specs.Ringing.{RingLists}
use Rattle.rules.specs.Holes as rules
use Rattle.rules.specs.Extraction.{holes_in}
use Rattle.tables.specs.declared.PlanarGraph.{PlanarGraph}
use Rattle.tables.specs.declared.Refusal.{Refusal}
use Rattle.extracting.specs.declared.Extracted.{Extracted}
use Rattle.extracting.specs.Extraction.{Extraction}
use Rattle.holes.specs.Lent.{lent_holes}
use Rattle.hole_entry.specs.declared.Made.{Made}
use Rattle.hole_entry.specs.Replies.{rings_reply, answer_of}
use Rattle.hole_checks.specs.Clause.{lent, Extracts}

-- a refusal, and no hole
pub record TurnedDown (graph : PlanarGraph) (why : Refusal) (r : Made) : Type 0 where
  pub answer : r.ringed ≡ record { graph = graph; reply = Err why }
  pub none : r.count ≡ 0

-- the rings of a state are written, and with the answer come its holes, in a full array
pub record RingsMade (s : State) (rings written : RingLists) (r : Made) : Type 0 where
  pub done : Extracted
  pub extraction : Extraction s rings written done
  pub answer : r.ringed ≡ record { graph = done.graph; reply = Ok (answer_of done r.count) }
  pub holes : lent_holes (take r.count r.list) ≡ holes_in s
  pub few : r.count ≤ shaped_rings limits
  pub full : length r.list ≡ shaped_rings limits

-- the holes made, written over a list
abbrev pub written_over : Made → List rules.Hole → List rules.Hole
written_over r old = over (lent_holes (take r.count r.list)) old

-- Of every hole list with so many records: with the holes that were made written over it, ring extraction is done. They are no more than its records,
-- nor than rings with an area.
pub record Makes (room : ℕ) (before : State) (rings : RingLists) (r : Made) (after : State) (written : RingLists) : Type 0 where
  pub done : (old : List rules.Hole) → length old ≡ room → Extracts before (lent rings old) (rings_reply r.ringed.reply) after (lent written (written_over r old))
  pub roomed : r.count ≤ room
  pub few : r.count ≤ shaped_rings limits
