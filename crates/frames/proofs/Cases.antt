-- What the definitions say of a record, case by case.
use mathlib.Core.Path.{◌≡◌, sym, ap, subst}
use mathlib.Core.List.{List}
use Prim.Native.Nat.{ℕ, ◌+◌, ◌<◌, ◌≤◌}
use native.Mathlib.Omega.{arith}
use borrow.Author.Tests.{lt-ltb, le-ltb, le-leb, lt-leb, eq-eqb, ne_eqb}
use lib.Dec.{ltb}
use lib.ListN.{length, take, drop}
use lib.Seq.{drop-drop}
use Rattle.lists.proofs.Tests.{or_right}
use Rattle.file_rules.specs.Records.{taken, wrong, end, little_endian, field, whole_frame_lem, frame}

-- ---- a whole record, by its length and kind

module _ (size kind : ℕ) where
  -- no room for a kind
  pub whole_none : size < 2 → wrong 10 ≡ whole_frame_lem size kind
  whole_none h = rw (lt-ltb size 2 h)

  module _ (long : 2 ≤ size) where
    -- a segment of a wrong length, and one of the right length
    pub whole_length : kind ≡ 1 → (size ≡ 54 → ⊥) → wrong 10 ≡ whole_frame_lem size kind
    whole_length k d = subst (λ z. wrong 10 ≡ whole_frame_lem size z) (sym k) (rw (le-ltb size 2 long, ne_eqb size 54 d))

    pub whole_segment : kind ≡ 1 → size ≡ 54 → taken 1 (4 + size) ≡ whole_frame_lem size kind
    whole_segment k e = subst (λ z. taken 1 (4 + size) ≡ whole_frame_lem size z) (sym k) (rw (le-ltb size 2 long, eq-eqb size 54 e))

    -- a ring too short for what it begins with, and one that is not
    pub whole_head : kind ≡ 2 → size < 14 → wrong 10 ≡ whole_frame_lem size kind
    whole_head k h = subst (λ z. wrong 10 ≡ whole_frame_lem size z) (sym k) (rw (le-ltb size 2 long, lt-ltb size 14 h))

    pub whole_ring_lem : kind ≡ 2 → 14 ≤ size → taken 2 (4 + size) ≡ whole_frame_lem size kind
    whole_ring_lem k h = subst (λ z. taken 2 (4 + size) ≡ whole_frame_lem size z) (sym k) (rw (le-ltb size 2 long, le-ltb size 14 h))

    module _ (no-segment : kind ≡ 1 → ⊥) (no-ring : kind ≡ 2 → ⊥) where
      -- one to skip
      pub whole_skipped : 1 ≤ kind → kind ≤ 15 → taken kind (4 + size) ≡ whole_frame_lem size kind
      whole_skipped low high =
          rw (le-ltb size 2 long, ne_eqb kind 1 no-segment, ne_eqb kind 2 no-ring, le-leb 1 kind low, le-leb kind 15 high)

      -- kinds below and above these
      pub whole_low : kind < 1 → wrong 11 ≡ whole_frame_lem size kind
      whole_low h = rw (le-ltb size 2 long, ne_eqb kind 1 no-segment, ne_eqb kind 2 no-ring, lt-leb 1 kind h)

      pub whole_high : 15 < kind → wrong 11 ≡ whole_frame_lem size kind
      whole_high h =
          let l : 1 ≤ kind = omega arith in
          rw (le-ltb size 2 long, ne_eqb kind 1 no-segment, ne_eqb kind 2 no-ring, le-leb 1 kind l, lt-leb kind 15 h)

-- ---- what bytes begin with

module _ (s : List ℕ) where
  -- no byte is left
  pub frame-none : length s ≡ 0 → end ≡ frame s
  unfolding frame
  frame-none h = rw (eq-eqb (length s) 0 h)

  -- fewer than 4 and the length together
  pub frame-short : 0 < length s → length s < 4 + field s 0 4 → wrong 9 ≡ frame s
  unfolding frame
  frame-short some few =
      let any : length s ≡ 0 → ⊥ = λ e. omega arith in
      rw (ne_eqb (length s) 0 any, or_right (ltb (length s) 4) (ltb (length s) (4 + field s 0 4)) (lt-ltb (length s) (4 + field s 0 4) few))

  -- the whole record is there, so that its length and kind decide
  pub frame_whole : 4 + field s 0 4 ≤ length s → whole_frame_lem (field s 0 4) (field s 4 2) ≡ frame s
  unfolding frame
  frame_whole there =
      let any : length s ≡ 0 → ⊥ = λ e. omega arith in
      let four : 4 ≤ length s = omega arith in
      rw (ne_eqb (length s) 0 any, le-ltb (length s) 4 four, le-ltb (length s) (4 + field s 0 4) there)

-- the kind's place, from the file's first byte on
pub kind_at : (s : List ℕ) (at : ℕ) → field s (at + 4) 2 ≡ field (drop at s) 4 2
kind_at s at = ap (λ z. little_endian (take 2 z)) (sym (drop-drop 4 at s))
