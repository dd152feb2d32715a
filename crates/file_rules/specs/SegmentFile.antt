-- The segment file: records of kind 1, each a line id and six floats. Rings and records of kinds 3 to 15 are passed over.
use Rattle.std.specs.Prelude.{ℕ, ◌+◌, List}
use Rattle.std.specs.Float.{binary64}
use Rattle.std.specs.Float.Ieee.{of_bits}
use Rattle.geometry.specs.Reply.{Reply, success}
use Rattle.geometry.specs.declared.Coord3D.{Coord3D}
use Rattle.geometry.specs.declared.Line3D.{Line3D}
use Rattle.file_rules.specs.Records.{field, Found, read_next}

-- three floats by their bits; every NaN pattern is the one NaN
abbrev pub coord_at_lem : List ℕ → ℕ → Coord3D
coord_at_lem s at = record {
  x = of_bits binary64 (field s at 8);
  y = of_bits binary64 (field s (at + 8) 8);
  z = of_bits binary64 (field s (at + 16) 8);
}

-- a segment from its record's 58 bytes: length (4), kind (2), line id (4), start and end (24 each)
abbrev pub segment_in : List ℕ → Reply Line3D
segment_in r = success (record { start = coord_at_lem r 10; end = coord_at_lem r 34; line_id = field r 6 4 })

-- what the segment reader finds
unfoldable pub segment_next : List ℕ → Found Line3D
unfolding read_next of_bits
segment_next s = read_next 1 segment_in s
