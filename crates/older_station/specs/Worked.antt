-- Answers that the definitions give by computation: small files at an old station for 3 nodes and 2 edges, and at a new one for 6 and 4.
use Rattle.std.specs.Prelude.{ℕ, ◌≡◌, refl, Bool, true, false, List, [], ◌∷◌, ◌++◌, map, length, take, replicate}
use Rattle.std.proofs.Math.Option.{none, some}
use Rattle.std.specs.Float.{nan}
use Rattle.geometry.specs.Angle.{planar}
use Rattle.geometry.specs.Reply.{Reply, success}
use Rattle.rules.specs.Keys.{key_of}
use Rattle.rules.specs.Limits.{Limits, limits}
use Rattle.rules.specs.State.{State}
use Rattle.file_rules.specs.Records.{read_file}
use Rattle.file_rules.specs.SegmentFile.{segment_next}
use Rattle.rules.specs.Filing.{file_segments}
use Rattle.rules.specs.Sketch.{feed}
use Rattle.file_taking.specs.FileAdding.{Records, add_records_lem}
use Rattle.older_station.specs.Drawing.{drawn_by, sound_segments}

-- ---- two stations with so many pairs

abbrev old : ℕ → Limits
old pairs = record { nodes = 3; edges = 2; pairs = pairs; bound = limits.bound }

abbrev new : ℕ → Limits
new pairs = record { nodes = 6; edges = 4; pairs = pairs; bound = limits.bound }

-- a new graph over tables that hold anything and are long enough for both
abbrev empty : ℕ → State
empty pairs = record {
  nodes = 0;
  edges = 0;
  stage = 0;
  node_x = replicate 6 nan;
  node_y = replicate 6 nan;
  node_z = replicate 6 nan;
  degree = replicate 6 7;
  node_mark = replicate 6 true;
  segment = replicate 24 nan;
  line_id = replicate 4 7;
  source = replicate 8 7;
  target = replicate 8 7;
  half_mark = replicate 8 true;
  star = replicate 8 7;
  tracings = record { place = replicate 4 7; id = replicate pairs 7; next = replicate pairs 7 };
}

-- ---- files

-- a point's bytes: x is 2.0, 4.0, 6.0 or 8.0 by a byte, 0, 16, 24 or 32; y and z are 0.0
abbrev point : ℕ → List ℕ
point byte = replicate 6 0 ++ byte ∷ 64 ∷ replicate 16 0

-- a record of a line id, from one point to another
abbrev line : ℕ → ℕ → ℕ → List ℕ
line id a b = 54 ∷ 0 ∷ 0 ∷ 0 ∷ 1 ∷ 0 ∷ id ∷ 0 ∷ 0 ∷ 0 ∷ (point a ++ point b)

-- a record of kind 3 that says nothing
abbrev skipped : List ℕ
skipped = 2 ∷ 0 ∷ 0 ∷ 0 ∷ 3 ∷ 0 ∷ []

-- two segments that meet
abbrev path : List ℕ
path = line 1 0 16 ++ line 1 16 24

-- two that do not
abbrev apart : List ℕ
apart = line 1 0 16 ++ line 1 24 32

-- three around three points
abbrev around : List ℕ
around = path ++ skipped ++ line 1 24 0

-- a segment twice, with two ids
abbrev twice : List ℕ
twice = line 1 0 16 ++ line 2 0 16

-- and then two that go on
abbrev long : List ℕ
long = twice ++ line 1 16 24 ++ line 1 24 32

-- ---- what the two stations answer

-- a case: what the old and the new one answer, with so many pairs
abbrev answers : ℕ → List ℕ → List (Reply Records)
answers pairs bytes = (add_records_lem (old pairs) bytes (empty pairs)).reply ∷ (add_records_lem (new pairs) bytes (empty pairs)).reply ∷ []

abbrev taken : ℕ → ℕ → Reply Records
taken n number = success (record { taken = n; number = number })

-- two segments that meet, which both take; two that do not, where the old one answers 3; three around, where it answers 4; a file that 12 ends before
-- its last record goes past the old limits; a record due for 3 and 12, and one due for 4 and 12, where the new one answers 12
abbrev found : List (List (Reply Records))
found =
    answers 3 path
    ∷ answers 3 apart
    ∷ answers 3 around
    ∷ answers 2 long
    ∷ answers 2 (twice ++ line 1 24 32)
    ∷ answers 2 around
    ∷ []

abbrev expected : List (List (Reply Records))
expected =
    (taken 2 0 ∷ taken 2 0 ∷ [])
    ∷ (taken 1 3 ∷ taken 2 0 ∷ [])
    ∷ (taken 3 4 ∷ taken 4 0 ∷ [])
    ∷ (taken 2 12 ∷ taken 2 12 ∷ [])
    ∷ (taken 2 3 ∷ taken 2 12 ∷ [])
    ∷ (taken 3 4 ∷ taken 3 12 ∷ [])
    ∷ []

pub as_answered : found ≡ expected
unfolding add_records_lem
as_answered = refl

-- ---- what the files draw

-- points and lines of the drawing of the first k records
abbrev drawn : List ℕ → ℕ → List ℕ
drawn bytes k = let m = drawn_by bytes k in length m.points ∷ length m.lines ∷ []

-- before the record that the old station refuses, and with it: 4 points are more than 3, 3 lines more than 2; a second id draws nothing
abbrev drawings : List (List ℕ)
drawings = drawn path 2 ∷ drawn apart 1 ∷ drawn apart 2 ∷ drawn around 3 ∷ drawn around 4 ∷ drawn long 2 ∷ drawn long 3 ∷ drawn long 4 ∷ []

pub as_drawn : drawings ≡ ((3 ∷ 2 ∷ []) ∷ (2 ∷ 1 ∷ []) ∷ (4 ∷ 2 ∷ []) ∷ (3 ∷ 2 ∷ []) ∷ (3 ∷ 3 ∷ []) ∷ (2 ∷ 1 ∷ []) ∷ (3 ∷ 2 ∷ []) ∷ (4 ∷ 3 ∷ []) ∷ [])
unfolding segment_next feed
as_drawn = refl

-- they are files of sound segments; one from a point to itself is not
abbrev sense : List ℕ → Bool
sense bytes = sound_segments limits.bound (file_segments bytes)

pub as_sound : map sense (path ∷ apart ∷ around ∷ long ∷ line 1 16 16 ∷ []) ≡ (true ∷ true ∷ true ∷ true ∷ false ∷ [])
unfolding segment_next read_file planar key_of
as_sound = refl

-- no record of them is bad; in one that is cut short there is one
pub as_whole : map (λ bytes. (read_file segment_next bytes).refusal) (path ∷ apart ∷ around ∷ long ∷ take 57 path ∷ []) ≡ (none ∷ none ∷ none ∷ none ∷ some 9 ∷ [])
unfolding segment_next read_file
as_whole = refl
