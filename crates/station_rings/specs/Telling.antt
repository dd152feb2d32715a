-- What the core of ring extraction tells, for the entry to write.
use Rattle.std.specs.Prelude.{ℕ, ◌≤◌, ◌≡◌, List, length, take}
use Rattle.lists.specs.Lists.{over}
use Rattle.rules.specs.Limits.{limits, shaped_rings}
use Rattle.rules.specs.Ringing.{RingLists}
use Rattle.rules.specs.Holes.{Hole}
use Rattle.rules.specs.Extraction as rules
use Rattle.holes.specs.Lent.{lent_holes}
use Rattle.hole_checks.specs.Clause as entry
use Rattle.replies.specs.Left.{Lent, lent, gives}
use Rattle.station_rings.specs.declared.telling.Told.{Told}
use Rattle.station_rings.specs.Calls.{ringed}

-- all that is lent, with a list of holes beside the ring lists
abbrev pub with_holes : Lent RingLists → List Hole → Lent rules.Lent
with_holes k holes = lent k.small k.floats k.numbers k.stars k.bytes k.ids (entry.lent k.lists holes) k.reply

-- the holes told, written over a list
abbrev pub written_over : Told → List Hole → List Hole
written_over r old = over (lent_holes (take r.count r.list)) old

-- Of every hole list with so many records: with the holes told written over it, the call is done. They are no more than its records, nor than rings with an area.
pub record Tells (room : ℕ) (k : Lent RingLists) (r : Told) (k' : Lent RingLists) : Type 0 where
  pub done : (old : List Hole) → length old ≡ room → gives r.number (with_holes k' (written_over r old)) ≡ ringed (with_holes k old)
  pub roomed : r.count ≤ room
  pub few : r.count ≤ shaped_rings limits
