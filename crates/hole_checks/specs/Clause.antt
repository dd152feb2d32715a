-- What ring extraction ensures: ONE equation between all that came out of a call (its reply, the state with every table, the lent lists)
-- and the outcome that the rules give for all that went in.
use Rattle.std.specs.Prelude.{◌≡◌, List}
use Rattle.geometry.specs.Reply.{Reply}
use Rattle.rules.specs.Limits.{limits}
use Rattle.rules.specs.State.{State}
use Rattle.rules.specs.Ringing.{RingLists}
use Rattle.rules.specs.Holes as rules
use Rattle.rules.specs.Extraction.{Lent, RingAnswer, extract}
use Rattle.calls.specs.Replies.{left_with}
use Rattle.holes.specs.declared.Hole.{Hole}
use Rattle.holes.specs.Lent.{lent_holes}

-- the lent ring lists and a list of holes
abbrev pub lent : RingLists → List rules.Hole → Lent
lent rings holes = record { rings = rings; holes = holes }

-- the lent ring lists and the lent list of records
abbrev pub lent_of : RingLists → List Hole → Lent
lent_of rings holes = lent rings (lent_holes holes)

-- ring extraction: the count, the census, the comparisons and how much was written, the rings in the lent lists, and the holes in theirs
abbrev pub Extracts : State → Lent → Reply RingAnswer → State → Lent → Type 0
Extracts before out reply after written = left_with reply after written ≡ extract limits before out
