-- What each case of a frame says.
use Rattle.std.specs.Prelude.{ℕ, ◌≤◌, Result, Ok, Err, Option, Some, None}
use Rattle.file_rules.specs.Records.{Found, taken, wrong, end}
use Rattle.frames.specs.declared.FileRefusal.{FileRefusal}
use Rattle.frames.specs.declared.FileRefusal.TheVariants.{Short, Length, Kind}
use Rattle.frames.specs.declared.Frame.{Frame}
use Rattle.frames.specs.declared.Frame.TheVariants.{Segment, Ring, Skipped}

-- the documents' number of a refusal
abbrev pub number_of : FileRefusal → ℕ
number_of Short = 9
number_of Length = 10
number_of Kind = 11

-- a record by its kind and its bytes
abbrev pub record_of : Frame → Found ℕ
record_of (Segment size) = taken 1 size
record_of (Ring size) = taken 2 size
record_of (Skipped kind size) = taken kind size

-- a record that is there to its end, or a refusal's number
abbrev pub whole_of : Result Frame FileRefusal → Found ℕ
whole_of (Ok f) = record_of f
whole_of (Err why) = wrong (number_of why)

-- a record, the end, or a refusal's number
abbrev pub frame_of : Result (Option Frame) FileRefusal → Found ℕ
frame_of (Ok (Some f)) = record_of f
frame_of (Ok None) = end
frame_of (Err why) = wrong (number_of why)

-- a record that is skipped is no segment and no ring
abbrev pub RecordSkips : Frame → Type 0
RecordSkips (Segment size) = Unit {0}
RecordSkips (Ring size) = Unit {0}
RecordSkips (Skipped kind size) = 3 ≤ kind

abbrev pub WholeSkips : Result Frame FileRefusal → Type 0
WholeSkips (Ok f) = RecordSkips f
WholeSkips (Err why) = Unit {0}

abbrev pub Skips : Result (Option Frame) FileRefusal → Type 0
Skips (Ok (Some f)) = RecordSkips f
Skips (Ok None) = Unit {0}
Skips (Err why) = Unit {0}
