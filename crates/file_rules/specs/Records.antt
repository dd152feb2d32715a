-- Files of records (document 02, §4): each record is a length (4 bytes), a kind (2) and what the kind says, all little-endian. In every file of
-- ours kind 1 is a segment, kind 2 a ring, and kinds 3 to 15 are skipped by their length; a reader takes the records of its own kind and passes
-- over the others.
use Rattle.std.specs.Prelude.{ℕ, zero, suc, ◌+◌, ◌*◌, ◌/◌, ◌%◌, Bool, true, false, cond, ◌&&◌, ◌||◌, not, List, [], ◌∷◌, length, take, drop, eqb, ltb, leb}
use Rattle.std.proofs.Math.Option.{Option, none, some}
use Rattle.geometry.specs.Reply.{Reply, refused, success}

-- ---- numbers in bytes

-- the number that bytes stand for, the lowest first
abbrev pub little_endian : List ℕ → ℕ
little_endian [] = 0
little_endian (b ∷ bs) = b + 256 * little_endian bs

-- the number in `size` bytes from `at` on
abbrev pub field : List ℕ → ℕ → ℕ → ℕ
field s at size = little_endian (take size (drop at s))

-- a number in `size` bytes, the lowest first
abbrev pub little_bytes : ℕ → ℕ → List ℕ
little_bytes zero n = []
little_bytes (suc size) n = n % 256 ∷ little_bytes size (n / 256)

-- ---- one record

-- what the bytes left of a file begin with
pub data Found (A : Type 0) : Type 0 where
  -- a record, by what it holds and how many bytes it takes
  taken : A → ℕ → Found A
  -- a record passed over, by how many bytes it takes
  passed : ℕ → Found A
  -- a refusal, by its number
  wrong : ℕ → Found A
  -- no byte is left
  end : Found A

-- a where the test says so, else b
abbrev pub pick_found : {A : Type 0} → Bool → Found A → Found A → Found A
pick_found true a b = a
pick_found false a b = b

-- 9: some bytes remain, but fewer than 4, or fewer than 4 and the length together
abbrev pub cut_short_lem : List ℕ → Bool
cut_short_lem s = ltb (length s) 4 || ltb (length s) (4 + field s 0 4)

-- 10: a length below 2, not 54 for kind 1, or below 14 for kind 2
abbrev pub wrong_length : ℕ → ℕ → Bool
wrong_length size kind = ltb size 2 || ((eqb kind 1 && not (eqb size 54)) || (eqb kind 2 && ltb size 14))

-- all kinds but 1 to 15 get 11
abbrev pub known_kind : ℕ → Bool
known_kind kind = leb 1 kind && leb kind 15

-- a whole record by its length and kind
abbrev pub whole_frame_lem : ℕ → ℕ → Found ℕ
whole_frame_lem size kind = pick_found (wrong_length size kind) (wrong 10) (pick_found (known_kind kind) (taken kind (4 + size)) (wrong 11))

-- the record that the bytes begin with, by its kind
unfoldable pub frame : List ℕ → Found ℕ
frame s = pick_found (eqb (length s) 0) end (pick_found (cut_short_lem s) (wrong 9) (whole_frame_lem (field s 0 4) (field s 4 2)))

-- what a record of the reader's own kind says: what it holds, or its own refusal
abbrev pub told : {A : Type 0} → Reply A → ℕ → Found A
told (refused n) size = wrong n
told (success a) size = taken a size

module _ {A : Type 0} (own : ℕ) (read : List ℕ → Reply A) where
  -- a record of the own kind is read from its bytes, the length's among them; any other is passed over
  abbrev pub by_kind : List ℕ → Found ℕ → Found A
  by_kind s (taken kind size) = cond (eqb kind own) (told (read (take size s)) size) (passed size)
  by_kind s (passed size) = passed size
  by_kind s (wrong n) = wrong n
  by_kind s end = end

  -- what a reader of one kind finds: a record passed over is tested by 9, 10 and 11 only
  unfoldable pub read_next : List ℕ → Found A
  unfolding frame
  read_next s = by_kind s (frame s)

-- ---- a file

-- what a reader took of a file
pub record Reading (A : Type 0) : Type 0 where
  -- the records of its own kind before the end or the refusal, in file order
  pub holds : List A
  -- how many records stand before that, those passed over among them: K of the refusal
  pub records : ℕ
  -- the refusal
  pub refusal : Option ℕ

-- a record goes before the others
abbrev pub with_record : {A : Type 0} → A → Reading A → Reading A
with_record a r = record { holds = a ∷ r.holds; records = suc r.records; refusal = r.refusal }

-- a record passed over is counted only
abbrev pub with_passed : {A : Type 0} → Reading A → Reading A
with_passed r = record { holds = r.holds; records = suc r.records; refusal = r.refusal }

-- nothing is read any more
abbrev pub stopped : {A : Type 0} → Option ℕ → Reading A
stopped n = record { holds = []; records = 0; refusal = n }

module _ {A : Type 0} where
  -- what follows what was found, with the reading of what is left behind so many bytes
  abbrev pub onward : Found A → (ℕ → Reading A) → Reading A
  onward (taken a size) rest = with_record a (rest size)
  onward (passed size) rest = with_passed (rest size)
  onward (wrong n) rest = stopped (some n)
  onward end rest = stopped none

  -- record by record to the file's end or the first refusal; fuel bounds how many
  abbrev pub read_on : (List ℕ → Found A) → ℕ → List ℕ → Reading A
  read_on next zero s = stopped none
  read_on next (suc fuel) s = onward (next s) (λ size. read_on next fuel (drop size s))

  -- a whole file: a record takes a byte at least, so its bytes are fuel enough
  unfoldable pub read_file : (List ℕ → Found A) → List ℕ → Reading A
  read_file next s = read_on next (suc (length s)) s
