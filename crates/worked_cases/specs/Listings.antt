-- Document 01's listing, from the bytes of its file to the lines that are printed, by the definitions alone; two refusals; and a file in which
-- another record stands between the segments.
use Rattle.std.specs.Prelude.{ℕ, ◌≡◌, refl, List, [], ◌∷◌, ◌++◌, take, drop, set, replicate}
use Rattle.std.proofs.Common.{sym, ap₂, ◌∙◌, take-append-drop}
use Rattle.std.specs.Float.Ieee.{of_bits}
use Rattle.rules.specs.Limits.{limits}
use Rattle.file_rules.specs.SegmentFile.{segment_next}
use Rattle.rules.specs.Adding.{add}
use Rattle.rules.specs.Stages.{sorted_star, pruned}
use Rattle.rules.specs.State.{arrangement}
use Rattle.rules.specs.Split.{cuts}
use Rattle.rules.specs.Euler.{census}
use Rattle.rules.specs.Face.{face_number_lem}
use Rattle.rules.specs.Ringing.{rings_of}
use Rattle.taking.specs.Taking.{take_on}
use Rattle.file_rules.specs.Decimal.{ascii, decimal}
use Rattle.file_rules.specs.Lines.{head_line, ring_line, refusal_line}
use Rattle.taken_text.specs.File.{file_text}

-- the eight bytes of 0.0, 3.0, 4.0 and 6.0: their high bytes are 0x0000, 0x4008, 0x4010 and 0x4018
abbrev float : ℕ → ℕ → List ℕ
float low high = replicate 6 0 ++ low ∷ high ∷ []

abbrev zero : List ℕ
zero = float 0 0

abbrev three : List ℕ
three = float 8 64

abbrev four : List ℕ
four = float 16 64

abbrev six : List ℕ
six = float 24 64

-- a record: length 54, kind 1, a line id, two points with z 0
abbrev record_of : ℕ → List ℕ → List ℕ → List ℕ → List ℕ → List ℕ
record_of id ax ay bx by = 54 ∷ 0 ∷ 0 ∷ 0 ∷ 1 ∷ 0 ∷ id ∷ 0 ∷ 0 ∷ 0 ∷ (ax ++ ay ++ zero ++ bx ++ by ++ zero)

-- (0,0)-(4,0), (4,0)-(0,3), (0,3)-(0,0), (4,0)-(6,0)
abbrev file : List ℕ
file = record_of 1 zero zero four zero ++ record_of 2 four zero zero three ++ record_of 3 zero three zero zero ++ record_of 4 four zero six zero

-- what is printed for it
abbrev text : List ℕ
text = file_text limits file

-- line by line, since each is much to compute
first : take 51 text ≡ ascii "nodes 4 edges 4 dangles 1 cuts 0 rings 2 euler yes\n"
unfolding take_on segment_next add sorted_star pruned arrangement cuts census rings_of face_number_lem of_bits head_line ring_line decimal
first = refl

second : take 37 (drop 51 text) ≡ ascii "ring 0 face 1 doubled 12 nodes 0 1 2\n"
unfolding take_on segment_next add sorted_star pruned arrangement cuts census rings_of face_number_lem of_bits head_line ring_line decimal
second = refl

third : drop 37 (drop 51 text) ≡ ascii "ring 1 face 0 doubled -12 nodes 1 0 2\n"
unfolding take_on segment_next add sorted_star pruned arrangement cuts census rings_of face_number_lem of_bits head_line ring_line decimal
third = refl

pub as_listed : file_text limits file
    ≡ ascii "nodes 4 edges 4 dangles 1 cuts 0 rings 2 euler yes\n" ++ ascii "ring 0 face 1 doubled 12 nodes 0 1 2\n" ++ ascii "ring 1 face 0 doubled -12 nodes 1 0 2\n"
as_listed = sym (take-append-drop 51 text) ∙ ap₂ ◌++◌ first (sym (take-append-drop 37 (drop 51 text)) ∙ ap₂ ◌++◌ second third)

-- the file without its last byte, and with kind 16 in its record 1
pub as_refused : (file_text limits (take 231 file) ≡ ascii "refused 9 record 3\n") × (file_text limits (set file 62 16) ≡ ascii "refused 11 record 1\n")
unfolding take_on segment_next add of_bits refusal_line decimal
as_refused = (refl, refl)

-- a record of kind 15 that says nothing
abbrev skipped : List ℕ
skipped = 2 ∷ 0 ∷ 0 ∷ 0 ∷ 15 ∷ 0 ∷ []

-- in front of the refused record it is passed over, and counted
pub as_mixed : file_text limits (skipped ++ set file 62 16) ≡ ascii "refused 11 record 2\n"
unfolding take_on segment_next add of_bits refusal_line decimal
as_mixed = refl
