-- What the two calls answer and leave, in the words of rules/specs/RingFile.
use Rattle.std.specs.Prelude.{ℕ, List, Result, Ok, Err}
use Rattle.geometry.specs.Reply.{refused, success}
use Rattle.file_rules.specs.RingFile.{FileRings, Answered, RingCounts}
use Rattle.ring_reading.specs.declared.RingFileRefusal.{RingFileRefusal}
use Rattle.ring_reading.specs.declared.RingsCounted.{RingsCounted}
use Rattle.ring_reading.specs.Found.{number_of}

-- the writer's answer, and the bytes after it
abbrev pub written_of : Result ℕ RingFileRefusal → List ℕ → Answered ℕ (List ℕ)
written_of (Ok n) out = record { reply = success n; lists = out }
written_of (Err why) out = record { reply = refused (number_of why); lists = out }

-- the reader's answer, and the lists after it
abbrev pub read_of : Result RingsCounted RingFileRefusal → FileRings → Answered RingCounts FileRings
read_of (Ok n) t = record { reply = success (record { rings = n.rings; nodes = n.nodes }); lists = t }
read_of (Err why) t = record { reply = refused (number_of why); lists = t }
