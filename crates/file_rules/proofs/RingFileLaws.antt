-- Reading a ring file back.
use Prim.Native.Nat.{ℕ, zero, suc, ◌+◌, ◌*◌, ◌^◌, ◌<◌, ◌≤◌}
use native.Mathlib.Omega.{arith}
use mathlib.Core.Path.{◌≡◌, refl, sym, ap, ◌∙◌, fun_ext}
use mathlib.Core.Bool.{cond, ◌||◌, not}
use mathlib.Core.List.{List, [], ◌∷◌, ◌++◌, map, append-nil}
use mathlib.Core.Option.{none}
use lib.ListN.{length, take, drop, length-append}
use lib.Seq.{take_at, drop_at, drop-drop}
use lib.Dec.{eqb}
use lib.IntN.{ℤ}
use mir.Syntax.{w64}
use mir.Val.{of_z, to_z}
use mir.Facts.{to_z-of_z, Fits-of_z}
use borrow.Author.Tests.{eq-eqb, ne_eqb, le-ltb}
use Rattle.lists.specs.Lists.{upto, flatten}
use Rattle.geometry.specs.Reply.{Reply, refused, success}
use Rattle.file_rules.specs.Records.{little_endian, field, little_bytes, Found, taken, end, frame, told, by_kind, read_next, with_record, onward, read_on, read_file}
use Rattle.file_rules.specs.RingFile.{RingRecord, ring_bytes, ring_file_lem, ring_in_lem, ring_next}
use Rattle.file_rules.specs.RingFileRules.{Recorded, EachRecord}
use Rattle.file_rules.proofs.ReadingLaws.{framed}
use Rattle.file_rules.proofs.ByteLaws.{number-back, length_words, words_in, words_back}

-- ---- one record's bytes

-- how many there are
pub length-ring : (r : RingRecord) → length (ring_bytes r) ≡ 18 + 2 * length r.nodes
length-ring r = omega (arith, length_words r.nodes)

module _ (r : RingRecord) (k : Recorded r) (rest : List ℕ) where
  -- the length's field
  size-field : field (ring_bytes r ++ rest) 0 4 ≡ 14 + 2 * length r.nodes
  size-field = let h = k.few in let l : 14 + 2 * length r.nodes < 256 ^ 4 = omega arith in number-back 4 (14 + 2 * length r.nodes) l

  -- the count's
  count-field : field (ring_bytes r ++ rest) 8 2 ≡ length r.nodes
  count-field = number-back 2 (length r.nodes) k.few

  -- the face number's
  face-field : field (ring_bytes r ++ rest) 6 2 ≡ r.face
  face-field = number-back 2 r.face k.typed.face_fits

  -- the doubled area's
  doubled-field : to_z w64 (field (ring_bytes r ++ rest) 10 8) ≡ r.doubled
  doubled-field = ap (to_z w64) (number-back 8 (of_z w64 r.doubled) (Fits-of_z k.typed.doubled_fits).fits) ∙ to_z-of_z k.typed.doubled_fits

-- what the reader says of a ring's fields
abbrev pub ring_with : ℕ → ℕ → ℕ → ℤ → List ℕ → Reply RingRecord
ring_with n size f d ns = cond (eqb n 0 || not (eqb size (14 + 2 * n))) (refused 15) (success (record { face = f; doubled = d; nodes = ns }))

-- it takes the ring where the length is right
ring-taken : (n f : ℕ) (d : ℤ) (ns : List ℕ) → 0 < n → ring_with n (14 + 2 * n) f d ns ≡ success (record { face = f; doubled = d; nodes = ns })
ring-taken n f d ns l = let z : n ≡ 0 → ⊥ = λ e. omega arith in rw (ne_eqb n 0 z, eq-eqb (14 + 2 * n) (14 + 2 * n) refl) refl

-- the node numbers behind the first 18 bytes
pub nodes-behind : (s : List ℕ) (n : ℕ) → map (λ i. field s (18 + 2 * i) 2) (upto n) ≡ words_in (drop 18 s) n
nodes-behind s n = ap (λ f. map f (upto n)) (fun_ext (λ i. ap (λ l. little_endian (take 2 l)) (sym (drop-drop (2 * i) 18 s))))

-- a ring from its own bytes
pub ring_in : (r : RingRecord) → Recorded r → (s : List ℕ) → s ≡ ring_bytes r → ring_in_lem s ≡ success r
ring_in r k s e =
    ap ring_in_lem (e ∙ sym (append-nil (ring_bytes r)))
    ∙ (λ i. ring_with (count-field r k [] i) (size-field r k [] i) (face-field r k [] i) (doubled-field r k [] i) (ns i))
    ∙ ring-taken (length r.nodes) r.face r.doubled r.nodes k.some
  where
    ns : map (λ i. field (ring_bytes r ++ []) (18 + 2 * i) 2) (upto (field (ring_bytes r ++ []) 8 2)) ≡ r.nodes
    ns =
        ap (λ n. map (λ i. field (ring_bytes r ++ []) (18 + 2 * i) 2) (upto n)) (count-field r k [])
        ∙ nodes-behind (ring_bytes r ++ []) (length r.nodes)
        ∙ ap (λ l. words_in l (length r.nodes)) (append-nil (flatten (map (little_bytes 2) r.nodes)))
        ∙ words_back r.nodes k.typed.nodes_fit

-- ---- frames

-- a whole ring
framed_ring : (len size : ℕ) → 14 ≤ size → 4 + size ≤ len → framed len size 2 ≡ taken 2 (4 + size)
framed_ring len size l m =
    let z : len ≡ 0 → ⊥ = λ e. omega arith in
    rw (ne_eqb len 0 z, le-ltb len 4 (omega arith), le-ltb len (4 + size) m, le-ltb size 2 (omega arith), le-ltb size 14 l) refl

-- the frame of a ring
frame-ring : (r : RingRecord) → Recorded r → (rest : List ℕ) → frame (ring_bytes r ++ rest) ≡ taken 2 (18 + 2 * length r.nodes)
unfolding frame
frame-ring r k rest =
    (λ i. framed (size i) (size-field r k rest i) 2)
    ∙ framed_ring (18 + 2 * length r.nodes + length rest) (14 + 2 * length r.nodes) (omega arith) (omega arith)
    ∙ ap (taken 2) whole
  where
    size : length (ring_bytes r ++ rest) ≡ 18 + 2 * length r.nodes + length rest
    size = length-append (ring_bytes r) rest ∙ ap (λ n. n + length rest) (length-ring r)

    whole : 4 + (14 + 2 * length r.nodes) ≡ 18 + 2 * length r.nodes
    whole = omega arith

-- a reader that takes a ring's own bytes finds it
pub next-ring : (read : List ℕ → Reply RingRecord) (r : RingRecord) → Recorded r → ((s : List ℕ) → s ≡ ring_bytes r → read s ≡ success r)
    → (rest : List ℕ) → read_next 2 read (ring_bytes r ++ rest) ≡ taken r (18 + 2 * length r.nodes)
unfolding read_next
next-ring read r k takes rest =
    ap (by_kind 2 read (ring_bytes r ++ rest)) (frame-ring r k rest)
    ∙ ap (λ a. told a (18 + 2 * length r.nodes)) (takes _ (take_at (ring_bytes r) rest (18 + 2 * length r.nodes) (length-ring r)))

-- and nothing where nothing is left
pub next-end : (read : List ℕ → Reply RingRecord) → read_next 2 read [] ≡ end
unfolding read_next frame
next-end read = refl

-- ---- the file

-- what is asked of a reader: it finds the ring in front
abbrev pub Finds : (List ℕ → Found RingRecord) → RingRecord → Type 0
Finds next r = (rest : List ℕ) → next (ring_bytes r ++ rest) ≡ taken r (18 + 2 * length r.nodes)

-- with fuel for each record
file_on : (next : List ℕ → Found RingRecord) → next [] ≡ end → (rs : List RingRecord) → EachRecord (Finds next) rs → (fuel : ℕ) → length rs < fuel
    → read_on next fuel (ring_file_lem rs) ≡ record { holds = rs; records = length rs; refusal = none }
file_on next z rs ks zero l = absurd (omega arith)
file_on next z [] ks (suc fuel) l = ap (λ f. onward f (λ size. read_on next fuel (drop size []))) z
file_on next z (r ∷ rs) ks (suc fuel) l =
    ap (λ f. onward f (λ size. read_on next fuel (drop size (ring_file_lem (r ∷ rs))))) (ks.0 (ring_file_lem rs))
    ∙ ap (λ s. with_record r (read_on next fuel s)) (drop_at (ring_bytes r) (ring_file_lem rs) (18 + 2 * length r.nodes) (length-ring r))
    ∙ ap (with_record r) (file_on next z rs ks.1 fuel (omega arith))

-- fewer records than bytes
records_fewer : (rs : List RingRecord) → length rs ≤ length (ring_file_lem rs)
records_fewer [] = omega arith
records_fewer (r ∷ rs) = let h = records_fewer rs in omega (arith, length-append (ring_bytes r) (ring_file_lem rs), length-ring r)

-- a reader that finds each ring reads a whole file back
pub file-back : (next : List ℕ → Found RingRecord) → next [] ≡ end → (rs : List RingRecord) → EachRecord (Finds next) rs
    → read_file next (ring_file_lem rs) ≡ record { holds = rs; records = length rs; refusal = none }
unfolding read_file
file-back next z rs ks = let h = records_fewer rs in file_on next z rs ks (suc (length (ring_file_lem rs))) (omega arith)

-- what follows for each
pub each_record : (P Q : RingRecord → Type 0) (rs : List RingRecord) → ((r : RingRecord) → P r → Q r) → EachRecord P rs → EachRecord Q rs
each_record P Q [] f ks = tt
each_record P Q (r ∷ rs) f ks = (f r ks.0, each_record P Q rs f ks.1)

-- reading back what was written gives the same records
pub read_back : (rs : List RingRecord) → EachRecord Recorded rs → read_file ring_next (ring_file_lem rs) ≡ record { holds = rs; records = length rs; refusal = none }
unfolding ring_next
read_back rs ks = file-back ring_next (next-end ring_in_lem) rs (each_record Recorded (Finds ring_next) rs (λ r k. next-ring ring_in_lem r k (ring_in r k)) ks)
