-- Adding the records of a segment file that is held in memory to a graph that is being built.
use Rattle.std.specs.Prelude.{ℕ, List}
use Rattle.geometry.specs.Reply.{Reply, refused, success}
use Rattle.rules.specs.Limits.{Limits}
use Rattle.rules.specs.State.{State, roomy, sound}
use Rattle.rules.specs.Adding.{Outcome, Nothing, add}
use Rattle.rules.specs.Stages.{step}
use Rattle.file_rules.specs.SegmentFile.{segment_next}
use Rattle.taking.specs.Taking.{Taking, take_on, take_file_lem}

-- what is answered: how many records were taken, those passed over among them, and the number of the refusal that ended the taking, 0 where the file did
pub record Records : Type 0 where
  pub taken : ℕ
  pub number : ℕ

-- how many a reply says were taken, none where the call was refused
abbrev pub taken_of : Reply Records → ℕ
taken_of (refused n) = 0
taken_of (success r) = r.taken

-- the number of a refusal, 0 for success
abbrev pub end_number_lem : Reply Nothing → ℕ
end_number_lem (refused n) = n
end_number_lem (success none) = 0

-- a taking as a success: what it came to is its value, since the records before a bad one were added
abbrev pub records_taken : Taking → Outcome Records Nothing
records_taken t = record {
  reply = success (record { taken = t.count; number = end_number_lem t.reply });
  state = t.state;
  lists = record {};
}

-- 6, 7 and 5, tested once; then the file from its first byte to its end or to its first bad record
unfoldable pub add_records_lem : Limits → List ℕ → State → Outcome Records Nothing
unfolding roomy sound segment_next add take_on
add_records_lem l bytes s = step l 0 s (record {}) (records_taken (take_file_lem l bytes s))
