-- What each case of a record read from the file says.
use Rattle.std.specs.Prelude.{ℕ, ◌+◌, List, Result, Ok, Err, Option, Some, None}
use Rattle.geometry.specs.declared.Line3D.{Line3D}
use Rattle.frames.specs.declared.FileRefusal.{FileRefusal}
use Rattle.frames.specs.Frames.{number_of}
use Rattle.file_rules.specs.Records.{field, Found, taken, passed, wrong, end}
use Rattle.file_rules.specs.SegmentFile.{coord_at_lem}
use Rattle.segment_file.specs.declared.Record.{Record}
use Rattle.segment_file.specs.declared.Record.TheVariants.{Segment, Passed}

-- the segment of the record at a place
abbrev pub line_at : List ℕ → ℕ → Line3D
line_at s at = record { start = coord_at_lem s (at + 10); end = coord_at_lem s (at + 34); line_id = field s (at + 6) 4 }

-- a segment or a record passed over, with its bytes
abbrev pub record_of : Record → Found Line3D
record_of (Segment line size) = taken line size
record_of (Passed size) = passed size

-- a record, the end, or a refusal's number
abbrev pub read_of : Result (Option Record) FileRefusal → Found Line3D
read_of (Ok (Some r)) = record_of r
read_of (Ok None) = end
read_of (Err why) = wrong (number_of why)
