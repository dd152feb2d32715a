-- What the entry leaves that asks for a record.
use Rattle.std.specs.Prelude.{ℕ, ◌+◌, List, [], ◌∷◌, Float, set}
use Rattle.geometry.specs.declared.Line3D.{Line3D}
use Rattle.file_rules.specs.Records.{Found, taken, passed, wrong, end}

-- the number answered, the floats of a line, and the values of the reply
pub record Gave : Type 0 where
  pub number : ℕ
  pub line : List Float
  pub reply : List ℕ

abbrev pub gave_by : ℕ → List Float → List ℕ → Gave
gave_by number line reply = record { number = number; line = line; reply = reply }

-- start and end, x, y and z each
abbrev pub floats_of : Line3D → List Float
floats_of g = g.start.x ∷ g.start.y ∷ g.start.z ∷ g.end.x ∷ g.end.y ∷ g.end.z ∷ []

-- a segment: 1, its line id and where the next record starts; a record passed over: 2, 0 and where the next one starts; the end: 0 in the first place; a
-- refusal: nothing is written
abbrev pub gave_record : List Float → List ℕ → ℕ → Found Line3D → Gave
gave_record line reply at (taken g size) = gave_by 0 (floats_of g) (1 ∷ g.line_id ∷ (at + size) ∷ [])
gave_record line reply at (passed size) = gave_by 0 line (2 ∷ 0 ∷ (at + size) ∷ [])
gave_record line reply at end = gave_by 0 line (set reply 0 0)
gave_record line reply at (wrong n) = gave_by n line reply
