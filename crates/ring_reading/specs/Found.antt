-- What each answer of the reader says.
use Rattle.std.specs.Prelude.{ℕ, ◌+◌, ◌*◌, List, map, length, Result, Ok, Err, Option as Maybe, Some, None}
use Rattle.std.proofs.Math.Option.{Option, none, some}
use Rattle.std.specs.Int.{w64}
use Rattle.std.proofs.Common.{to_z}
use Rattle.lists.specs.Lists.{upto}
use Rattle.geometry.specs.Reply.{Reply, refused, success}
use Rattle.file_rules.specs.Records.{field, Found, taken, passed, wrong, end, Reading}
use Rattle.file_rules.specs.RingFile.{RingRecord, all_nodes, RingCounts}
use Rattle.frames.specs.Frames as frames
use Rattle.ring_reading.specs.declared.RingFileRefusal.{RingFileRefusal}
use Rattle.ring_reading.specs.declared.RingFileRefusal.TheVariants.{Frame, Ring, Room}
use Rattle.ring_reading.specs.declared.RingFound.{RingFound}
use Rattle.ring_reading.specs.declared.RingFound.TheVariants as found
use Rattle.ring_reading.specs.declared.RingsCounted.{RingsCounted}

-- document 02's number of a refusal
abbrev pub number_of : RingFileRefusal → ℕ
number_of (Frame why) = frames.number_of why
number_of Ring = 15
number_of Room = 14

-- a ring of so many nodes, from the bytes that its record begins
abbrev pub ring_of : List ℕ → ℕ → RingRecord
ring_of s n = record { face = field s 6 2; doubled = to_z w64 (field s 10 8); nodes = map (λ i. field s (18 + 2 * i) 2) (upto n) }

-- a record at the start of these bytes
abbrev pub record_of : List ℕ → RingFound → Found RingRecord
record_of s (found.Ring n) = taken (ring_of s n) (18 + 2 * n)
record_of s (found.Passed size) = passed size

-- one of a ring's kind, or a refusal's number
abbrev pub whole_of : List ℕ → Result RingFound RingFileRefusal → Found RingRecord
whole_of s (Ok f) = record_of s f
whole_of s (Err why) = wrong (number_of why)

-- what was found at the start of these bytes
abbrev pub found_of : List ℕ → Result (Maybe RingFound) RingFileRefusal → Found RingRecord
found_of s (Ok (Some f)) = record_of s f
found_of s (Ok None) = end
found_of s (Err why) = wrong (number_of why)

-- how many rings and nodes, or the refusal's number
abbrev pub survey_of : Result RingsCounted RingFileRefusal → Reply RingCounts
survey_of (Ok n) = success (record { rings = n.rings; nodes = n.nodes })
survey_of (Err why) = refused (number_of why)

-- the same of a reading
abbrev pub counted : Option ℕ → List RingRecord → Reply RingCounts
counted (some n) rs = refused n
counted none rs = success (record { rings = length rs; nodes = length (all_nodes rs) })

abbrev pub surveyed : Reading RingRecord → Reply RingCounts
surveyed r = counted r.refusal r.holds
