-- A ring's record by the bytes that it begins, and what the reader says of it.
use Prim.Native.Nat.{ℕ, ◌+◌, ◌*◌, ◌<◌, ◌≤◌}
use native.Mathlib.Omega.{arith}
use mathlib.Core.Path.{◌≡◌, refl, sym, ap, ◌∙◌, subst}
use mathlib.Core.Bool.{false, cond, or-true}
use mathlib.Core.List.{List, map}
use lib.ListN.{length, take}
use mir.Syntax.{w64}
use mir.Val.{to_z}
use borrow.Author.Tests.{eq-eqb, ne_eqb, le-ltb}
use Rattle.lists.specs.Lists.{bit, upto, In}
use Rattle.lists.proofs.Counts.{by_lt}
use Rattle.lists.proofs.Members.{count-upto}
use Rattle.lists.proofs.Rising.{map_agree}
use Rattle.file_rules.specs.Records.{little_endian, field, Found, taken, passed, wrong, wrong_length, frame, told, by_kind, read_next}
use Rattle.file_rules.specs.RingFile.{ring_in_lem, ring_next}
use Rattle.file_rules.proofs.ByteLaws.{field-within}
use Rattle.file_rules.proofs.ReadingLaws.{framed_taken}
use Rattle.file_rules.proofs.RingFileLaws.{ring_with}
use Rattle.file_rules.proofs.RingFileWritten.{ring_long}
use Rattle.ring_reading.specs.Found.{ring_of}

-- members of a count
below : (n x : ℕ) → In x (upto n) → x < n
below n x m = by_lt x n (λ l. l) (λ g. absurd (omega (arith, m, count-upto n x, ap bit (le-ltb x n g))))

-- what a ring's frame says
pub record RingFrame (s : List ℕ) (size : ℕ) : Type 0 where
  pub long : 18 ≤ size
  pub there : size ≤ length s
  pub is_size : 4 + field s 0 4 ≡ size

pub ring-frame : (s : List ℕ) (size : ℕ) → frame s ≡ taken 2 size → RingFrame s size
unfolding frame
ring-frame s size e =
    let c = framed_taken (length s) (field s 0 4) (field s 4 2) 2 size e in
    let least = ring_long (field s 0 4) (subst (λ x. wrong_length (field s 0 4) x ≡ false) c.is_kind c.right) in
    record { long = omega (arith, least, c.is_bytes); there = c.there; is_size = c.is_bytes }

-- the frame decides
pub by_frame : (s : List ℕ) (f : Found ℕ) → f ≡ frame s → by_kind 2 ring_in_lem s f ≡ ring_next s
unfolding ring_next read_next
by_frame s f e = ap (by_kind 2 ring_in_lem s) e

-- a record of another kind is passed over
pub other-passed : (s : List ℕ) (kind size : ℕ) → (kind ≡ 2 → ⊥) → taken kind size ≡ frame s → passed size ≡ ring_next s
other-passed s kind size d e =
    sym (ap (λ b. cond b (told (ring_in_lem (take size s)) size) (passed size)) (ne_eqb kind 2 d)) ∙ by_frame s (taken kind size) e

module _ (s : List ℕ) (size : ℕ) (e : frame s ≡ taken 2 size) where
  -- a field of the record is one of the file
  within : (at k : ℕ) → at + k ≤ size → field (take size s) at k ≡ field s at k
  within at k h = ap little_endian (field-within at k size s h)

  -- what its node numbers are
  nodes-within : (n : ℕ) → 18 + 2 * n ≤ size → map (λ i. field (take size s) (18 + 2 * i) 2) (upto n) ≡ map (λ i. field s (18 + 2 * i) 2) (upto n)
  nodes-within n h =
      map_agree (λ i. field (take size s) (18 + 2 * i) 2) (λ i. field s (18 + 2 * i) 2) (upto n)
      (λ i m. within (18 + 2 * i) 2 (let l = below n i m in omega (arith, l)))

  -- what the reader says, by the fields
  ring_next_lem : (ns : List ℕ) → map (λ i. field (take size s) (18 + 2 * i) 2) (upto (field (take size s) 8 2)) ≡ ns
      → ring_next s ≡ told (ring_with (field s 8 2) (field s 0 4) (field s 6 2) (to_z w64 (field s 10 8)) ns) size
  ring_next_lem ns q =
      let l = (ring-frame s size e).long in
      sym (by_frame s (taken 2 size) (sym e))
      ∙ (λ i. told (ring_with (within 8 2 (omega arith) i) (within 0 4 (omega arith) i) (within 6 2 (omega arith) i) (to_z w64 (within 10 8 (omega arith) i)) (q i)) size)

  -- 15 where the count is 0
  pub ring-none : field s 8 2 ≡ 0 → ring_next s ≡ wrong 15
  ring-none z = ring_next_lem (map (λ i. field (take size s) (18 + 2 * i) 2) (upto (field (take size s) 8 2))) refl ∙ rw z refl

  -- or the length is another
  pub ring-other : (n : ℕ) → field s 8 2 ≡ n → (size ≡ 18 + 2 * n → ⊥) → ring_next s ≡ wrong 15
  ring-other n z d =
      let f = ring-frame s size e in
      let other : field s 0 4 ≡ 14 + 2 * n → ⊥ = λ x. d (omega (arith, f.is_size, x)) in
      ring_next_lem (map (λ i. field (take size s) (18 + 2 * i) 2) (upto (field (take size s) 8 2))) refl
      ∙ rw (z, ne_eqb (field s 0 4) (14 + 2 * n) other, or-true) refl

  -- else the ring
  pub ring-taken : (n : ℕ) → field s 8 2 ≡ n → (n ≡ 0 → ⊥) → size ≡ 18 + 2 * n → ring_next s ≡ taken (ring_of s n) (18 + 2 * n)
  ring-taken n z some q =
      let f = ring-frame s size e in
      let right : field s 0 4 ≡ 14 + 2 * n = omega (arith, f.is_size) in
      let count : field (take size s) 8 2 ≡ n = within 8 2 (omega (arith, f.long)) ∙ z in
      ring_next_lem (map (λ i. field s (18 + 2 * i) 2) (upto n)) (ap (λ (m : ℕ). map (λ i. field (take size s) (18 + 2 * i) 2) (upto m)) count ∙ nodes-within n (omega arith))
      ∙ rw (z, ne_eqb n 0 some, eq-eqb (field s 0 4) (14 + 2 * n) right) (ap (taken (ring_of s n)) q)
