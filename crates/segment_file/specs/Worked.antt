-- Records worked by hand: what the definition gives for the first record of document 01's example, for the same record damaged, and for records
-- that are passed over.
use Rattle.std.specs.Prelude.{◌≡◌, refl, List, [], ◌∷◌, ◌++◌, true, false, ℕ, take, drop, set, replicate, pos, Float}
use Rattle.std.specs.Float.{nan, inf, fin}
use Rattle.geometry.specs.declared.Line3D.{Line3D}
use Rattle.file_rules.specs.Records.{Found, taken, passed, wrong, end}
use Rattle.file_rules.specs.SegmentFile.{segment_next}

-- length 54, kind 1, line id 1, from (0, 0, 0) to (4, 0, 0); the bits of 4.0 are 0x4010_0000_0000_0000
abbrev bytes : List ℕ
bytes = 54 ∷ 0 ∷ 0 ∷ 0 ∷ 1 ∷ 0 ∷ 1 ∷ 0 ∷ 0 ∷ 0 ∷ replicate 30 0 ++ 16 ∷ 64 ∷ replicate 16 0

-- a segment from (x, 0, 0) to (4, 0, z)
abbrev line : Float → Float → Line3D
line x z = record {
  start = record { x = x; y = fin false 0 (pos 0); z = fin false 0 (pos 0) };
  end = record { x = fin false 1 (pos 2); y = fin false 0 (pos 0); z = z };
  line_id = 1;
}

-- what is read, and what is expected
abbrev found : List (Found Line3D)
found =
    segment_next bytes
    ∷ segment_next (drop 58 bytes)
    ∷ segment_next (drop 58 (bytes ++ bytes))
    ∷ segment_next (take 57 bytes)
    ∷ segment_next (drop 57 bytes)
    ∷ segment_next (set bytes 0 55)
    ∷ segment_next (set bytes 0 53)
    ∷ segment_next (set bytes 4 2)
    ∷ segment_next (set bytes 4 15)
    ∷ segment_next (set (set bytes 0 13) 4 2)
    ∷ segment_next (set (set bytes 0 2) 4 3)
    ∷ segment_next (set bytes 4 16)
    ∷ segment_next (set (set bytes 0 53) 4 16)
    ∷ segment_next (set bytes 17 128)
    ∷ segment_next (set (set bytes 57 127) 56 240)
    ∷ segment_next (set (set (set bytes 57 255) 56 240) 50 1)
    ∷ []

abbrev expected : List (Found Line3D)
expected =
    taken (line (fin false 0 (pos 0)) (fin false 0 (pos 0))) 58
    ∷ end
    ∷ taken (line (fin false 0 (pos 0)) (fin false 0 (pos 0))) 58
    ∷ wrong 9
    ∷ wrong 9
    ∷ wrong 9
    ∷ wrong 10
    ∷ passed 58
    ∷ passed 58
    ∷ wrong 10
    ∷ passed 6
    ∷ wrong 11
    ∷ wrong 11
    ∷ taken (line (fin true 0 (pos 0)) (fin false 0 (pos 0))) 58
    ∷ taken (line (fin false 0 (pos 0)) (inf false)) 58
    ∷ taken (line (fin false 0 (pos 0)) nan) 58
    ∷ []

pub as_worked : found ≡ expected
unfolding segment_next
as_worked = refl
