-- What a file draws, whatever a station says of it: document 01's sketch, fed every segment as an addition that was not refused. And files of
-- sound segments.
use Rattle.std.specs.Prelude.{ℕ, ◌≤◌, ◌≡◌, Bool, true, false, ◌&&◌, not, List, [], ◌∷◌, length}
use Rattle.std.proofs.Math.Option.{none}
use Rattle.geometry.specs.Angle.{planar}
use Rattle.geometry.specs.declared.Line3D.{Line3D}
use Rattle.rotation.specs.Rotation.{key_same}
use Rattle.rules.specs.Keys.{key_of}
use Rattle.rules.specs.Limits.{Limits}
use Rattle.file_rules.specs.Records.{read_on, read_file}
use Rattle.file_rules.specs.SegmentFile.{segment_next}
use Rattle.rules.specs.Sketch.{Sketch, adding, feed}
use Rattle.rules.specs.Claim.{empty_sketch}
use Rattle.rules.specs.Filing.{file_segments}

-- ---- drawings

-- segments drawn on a sketch, one after another
abbrev pub drawn_on : List Line3D → Sketch → Sketch
drawn_on [] k = k
drawn_on (g ∷ gs) k = drawn_on gs (feed false (adding g) k)

-- what the segments among a file's first k records draw
abbrev pub drawn_by : List ℕ → ℕ → Sketch
drawn_by bytes k = drawn_on (read_on segment_next k bytes).holds empty_sketch

-- what all of them draw
abbrev pub drawing : List ℕ → Sketch
drawing bytes = drawn_on (file_segments bytes) empty_sketch

-- no more points and no more lines than the limits allow
abbrev pub Within : Limits → Sketch → Type 0
Within l k = (length k.points ≤ l.nodes) × (length k.lines ≤ l.edges)

-- ---- files of sound segments

-- a segment that passes 1 and 2
abbrev pub sound_segment : ℕ → Line3D → Bool
sound_segment bound g =
    (planar bound g.start && planar bound g.end) && not (key_same (key_of g.start.x g.start.y) (key_of g.end.x g.end.y))

-- so does each
abbrev pub sound_segments : ℕ → List Line3D → Bool
sound_segments bound [] = true
sound_segments bound (g ∷ gs) = sound_segment bound g && sound_segments bound gs

-- no record is bad (9, 10 and 11), and each segment is sound
pub record SoundFile (bound : ℕ) (bytes : List ℕ) : Type 0 where
  pub records : (read_file segment_next bytes).refusal ≡ none
  pub segments : sound_segments bound (file_segments bytes) ≡ true
