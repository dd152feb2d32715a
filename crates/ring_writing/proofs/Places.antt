-- The places of the rings from one on: what the tests and the bytes of these are.
use Prim.Native.Nat.{ℕ, ◌+◌, ◌*◌, ◌<◌, ◌≤◌}
use native.Mathlib.Omega.{arith}
use native.Mathlib.Numerals.{add-one}
use mathlib.Core.Path.{◌≡◌, refl, sym, ap, ap₂, ◌∙◌}
use mathlib.Core.Bool.{true, ◌&&◌}
use mathlib.Core.List.{List, [], ◌∷◌}
use lib.ListN.{length, get_or, drop, length-append}
use lib.Seq.{drop-cons, drop-length}
use lib.Dec.{ltb, leb}
use borrow.Author.Tests.{leb-true}
use Rattle.lists.specs.Lists.{upto, all}
use Rattle.lists.proofs.Searching.{upto-at}
use Rattle.lists.proofs.Members.{length-upto}
use Rattle.lists.proofs.Tests.{both}
use Rattle.file_rules.specs.RingFile.{FileRings, ring_at, cut_out, ring_bytes}
use Rattle.file_rules.proofs.RingFileLaws.{length-ring}
use Rattle.ring_writing.specs.Rings.{bytes_at, writable_at, sizes_at}
use Rattle.ring_writing.proofs.Bytes.{nodes-length}

-- ---- places

-- the places from one on: it, and those behind it
pub places_from_lem : (n i : ℕ) → i < n → drop i (upto n) ≡ i ∷ drop (i + 1) (upto n)
places_from_lem n i l = drop-cons (upto n) i 0 (omega (arith, length-upto n)) ∙ (λ j. upto-at n i l j ∷ drop (sym (add-one i) j) (upto n))

-- behind the last there is none
pub places-end : (n : ℕ) → drop n (upto n) ≡ []
places-end n = ap (λ (m : ℕ). drop m (upto n)) (sym (length-upto n)) ∙ drop-length (upto n)

-- ---- a ring that can be written

-- what its test says
pub record Writable (first size nodes : ℕ) : Type 0 where
  pub few : size ≤ 65535
  pub within : first + size ≤ nodes

pub writable-is : (first size nodes : ℕ) → (ltb 0 size && (leb size 65535 && leb (first + size) nodes)) ≡ true → Writable first size nodes
writable-is first size nodes e =
    let u = both (ltb 0 size) (leb size 65535 && leb (first + size) nodes) e in
    let v = both (leb size 65535) (leb (first + size) nodes) u.1 in
    record { few = leb-true size 65535 v.0; within = leb-true (first + size) nodes v.1 }

-- its record has so many bytes
pub record_size : (t : FileRings) (i : ℕ) → writable_at t.first t.length (length t.nodes) i ≡ true
    → length (ring_bytes (cut_out t.nodes (ring_at t i))) ≡ 18 + 2 * get_or t.length i 0
record_size t i e =
    let w = writable-is (get_or t.first i 0) (get_or t.length i 0) (length t.nodes) e in
    length-ring (cut_out t.nodes (ring_at t i)) ∙ ap (λ (n : ℕ). 18 + 2 * n) (nodes-length t.nodes (get_or t.first i 0) (get_or t.length i 0) w.within)

-- and so have all of them
pub bytes-size : (t : FileRings) (places : List ℕ) → all (writable_at t.first t.length (length t.nodes)) places ≡ true
    → length (bytes_at t places) ≡ sizes_at t.length places
bytes-size t [] e = refl
bytes-size t (i ∷ places) e =
    let u = both (writable_at t.first t.length (length t.nodes) i) (all (writable_at t.first t.length (length t.nodes)) places) e in
    length-append (ring_bytes (cut_out t.nodes (ring_at t i))) (bytes_at t places) ∙ ap₂ ◌+◌ (record_size t i u.0) (bytes-size t places u.1)
