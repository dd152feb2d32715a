-- What a frame says, and a file read without fuel: what is found first, and then the reading of what is left.
use Prim.Native.Nat.{ℕ, zero, suc, ◌+◌, ◌<◌, ◌≤◌}
use native.Mathlib.Omega.{arith}
use mathlib.Core.Path.{◌≡◌, refl, ap}
use mathlib.Core.Bool.{Bool, true, false, cond, ◌||◌}
use mathlib.Core.List.{List}
use lib.ListN.{length, take, drop, length-drop}
use lib.Dec.{eqb, ltb}
use borrow.Author.Tests.{ltb-false}
use Rattle.lists.proofs.Tests.{neither}
use Rattle.geometry.specs.Reply.{Reply, refused, success}
use Rattle.file_rules.specs.Records.{field, Found, taken, passed, wrong, end, pick_found, wrong_length, known_kind, whole_frame_lem, frame, told, by_kind, read_next, Reading, with_record, with_passed, onward, read_on, read_file}

-- ---- frames

-- what a frame is, by how many bytes are left, its length and its kind
abbrev pub framed : ℕ → ℕ → ℕ → Found ℕ
framed left size kind = pick_found (eqb left 0) end (pick_found (ltb left 4 || ltb left (4 + size)) (wrong 9) (whole_frame_lem size kind))

-- it is that of the file
pub frame_is : (s : List ℕ) → frame s ≡ framed (length s) (field s 0 4) (field s 4 2)
unfolding frame
frame_is s = refl

-- the kind, or 0
abbrev kind_of : Found ℕ → ℕ
kind_of (taken k n) = k
kind_of (passed n) = 0
kind_of (wrong n) = 0
kind_of end = 0

-- the bytes, or 0
abbrev size_of : Found ℕ → ℕ
size_of (taken k n) = n
size_of (passed n) = 0
size_of (wrong n) = 0
size_of end = 0

-- 1 for a record, 2 for one passed over
abbrev sort_of : Found ℕ → ℕ
sort_of (taken k n) = 1
sort_of (passed n) = 2
sort_of (wrong n) = 0
sort_of end = 0

-- what is known of a record by its frame: its length is right, its kind and bytes are the frame's, and so many bytes are there
pub record Framed (left size kind found bytes : ℕ) : Type 0 where
  pub right : wrong_length size kind ≡ false
  pub is_kind : kind ≡ found
  pub is_bytes : 4 + size ≡ bytes
  pub there : bytes ≤ left

-- a record has passed the tests
pub framed_taken : (left size kind found bytes : ℕ) → framed left size kind ≡ taken found bytes → Framed left size kind found bytes
framed_taken left size kind found bytes = go (eqb left 0) (ltb left 4 || ltb left (4 + size)) (wrong_length size kind) (known_kind kind) refl refl
  where
    go : (a b c d : Bool) → (ltb left 4 || ltb left (4 + size)) ≡ b → wrong_length size kind ≡ c
        → pick_found a end (pick_found b (wrong 9) (pick_found c (wrong 10) (pick_found d (taken kind (4 + size)) (wrong 11)))) ≡ taken found bytes → Framed left size kind found bytes
    go true b c d p q e = absurd (omega (arith, ap sort_of e))
    go false true c d p q e = absurd (omega (arith, ap sort_of e))
    go false false true d p q e = absurd (omega (arith, ap sort_of e))
    go false false false false p q e = absurd (omega (arith, ap sort_of e))
    go false false false true p q e = record {
      right = q;
      is_kind = ap kind_of e;
      is_bytes = ap size_of e;
      there = omega (arith, ap size_of e, ltb-false left (4 + size) (neither (ltb left 4) (ltb left (4 + size)) p).1);
    }

-- the tests of a frame pass nothing over
framed_not-passed : (left size kind bytes : ℕ) → framed left size kind ≡ passed bytes → ⊥
framed_not-passed left size kind bytes = go (eqb left 0) (ltb left 4 || ltb left (4 + size)) (wrong_length size kind) (known_kind kind)
  where
    go : (a b c d : Bool) → pick_found a end (pick_found b (wrong 9) (pick_found c (wrong 10) (pick_found d (taken kind (4 + size)) (wrong 11)))) ≡ passed bytes → ⊥
    go true b c d e = omega (arith, ap sort_of e)
    go false true c d e = omega (arith, ap sort_of e)
    go false false true d e = omega (arith, ap sort_of e)
    go false false false true e = omega (arith, ap sort_of e)
    go false false false false e = omega (arith, ap sort_of e)

-- a record has some bytes, and they are there
frame-bytes : (s : List ℕ) (kind size : ℕ) → frame s ≡ taken kind size → (0 < size) × (size ≤ length s)
unfolding frame
frame-bytes s kind size e = let f = framed_taken (length s) (field s 0 4) (field s 4 2) kind size e in omega (arith, f.is_bytes, f.there)

-- no frame is passed over
not-passed : (s : List ℕ) (size : ℕ) → frame s ≡ passed size → ⊥
unfolding frame
not-passed s size e = framed_not-passed (length s) (field s 0 4) (field s 4 2) size e

-- ---- files

module _ {A : Type 0} (own : ℕ) (read : List ℕ → Reply A) where
  module _ (s : List ℕ) (R Q : ℕ → Reading A) (same : (size : ℕ) → 0 < size → size ≤ length s → R size ≡ Q size) where
    -- of a record that is there
    same-told : (b : Bool) (a : Reply A) (size : ℕ) → 0 < size → size ≤ length s → onward (cond b (told a size) (passed size)) R ≡ onward (cond b (told a size) (passed size)) Q
    same-told true (refused n) size p q = refl
    same-told true (success a) size p q = ap (with_record a) (same size p q)
    same-told false a size p q = ap with_passed (same size p q)

    -- of whatever the frame is
    same-frame : (f : Found ℕ) → frame s ≡ f → onward (by_kind own read s f) R ≡ onward (by_kind own read s f) Q
    same-frame (taken kind size) e = let k = frame-bytes s kind size e in same-told (eqb kind own) (read (take size s)) size k.0 k.1
    same-frame (passed size) e = absurd (not-passed s size e)
    same-frame (wrong n) e = refl
    same-frame end e = refl

  -- more fuel than bytes reads the same
  fuel_same : (f g : ℕ) (s : List ℕ) → length s < f → length s < g → read_on (read_next own read) f s ≡ read_on (read_next own read) g s
  unfolding read_next
  fuel_same zero g s p q = absurd (omega arith)
  fuel_same (suc f) zero s p q = absurd (omega arith)
  fuel_same (suc f) (suc g) s p q =
      same-frame s (λ size. read_on (read_next own read) f (drop size s)) (λ size. read_on (read_next own read) g (drop size s))
      (λ size k l. fuel_same f g (drop size s) (omega (arith, length-drop size s)) (omega (arith, length-drop size s))) (frame s) refl

  -- what is found first, and then the reading of what is left
  pub read_step : (s : List ℕ) → read_file (read_next own read) s ≡ onward (read_next own read s) (λ size. read_file (read_next own read) (drop size s))
  unfolding read_file read_next
  read_step s =
      same-frame s (λ size. read_on (read_next own read) (length s) (drop size s)) (λ size. read_file (read_next own read) (drop size s))
      (λ size k l. fuel_same (length s) (suc (length (drop size s))) (drop size s) (omega (arith, length-drop size s)) (omega (arith, length-drop size s))) (frame s) refl
