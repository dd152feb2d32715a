-- Document 01's number and values for each case of the reply.
use Rattle.std.specs.Prelude.{Result}
use Rattle.geometry.specs.Reply.{Reply}
use Rattle.rules.specs.Ringing.{Ringing}
use Rattle.tables.specs.Refusals.{reply_by}
use Rattle.tables.specs.declared.Refusal.{Refusal}
use Rattle.cycles.specs.Census.{census_of}
use Rattle.ring_entry.specs.declared.Rings.{Rings}

-- the count, the census and the comparisons
abbrev pub ringing_of : Rings → Ringing
ringing_of rings = record { count = rings.count; census = census_of rings.census; comparisons = rings.comparisons }

-- the same, or the number
abbrev pub ring_reply : Result Rings Refusal → Reply Ringing
ring_reply = reply_by ringing_of
