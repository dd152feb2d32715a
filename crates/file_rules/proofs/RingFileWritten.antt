-- A ring file is accepted only if it is the writer's bytes, records passed over apart.
use Prim.Native.Nat.{ℕ, zero, suc, ◌+◌, ◌*◌, ◌<◌, ◌≤◌}
use native.Mathlib.Omega.{arith}
use mathlib.Core.Path.{◌≡◌, refl, sym, ap, ap₂, ◌∙◌, subst}
use mathlib.Core.Bool.{Bool, true, false, cond, ◌||◌, not}
use mathlib.Core.List.{List, ◌++◌, map}
use mathlib.Core.Option.{Option, none, some, none-ne-some}
use lib.ListN.{length, take, drop, length-map, length-drop, take-append-drop}
use lib.Seq.{take-add, length-take-le}
use lib.Dec.{eqb, ltb}
use lib.Pow.{are_bytes}
use mir.Syntax.{w64}
use mir.Val.{of_z, to_z}
use mir.Facts.{of_z-to_z, sfits_to_z}
use borrow.Author.Tests.{eqb-true, eqb-false, ltb-false, not-false}
use Rattle.lists.specs.Lists.{upto, all, flatten}
use Rattle.lists.proofs.Members.{length-upto}
use Rattle.lists.proofs.Tests.{neither}
use Rattle.geometry.specs.Reply.{Reply, refused, success}
use Rattle.file_rules.specs.Records.{little_endian, field, little_bytes, Found, taken, passed, wrong, end, wrong_length, frame, told, by_kind, read_next, Reading, onward, read_on, read_file}
use Rattle.file_rules.specs.RingFile.{RingRecord, ring_bytes, ring_file_lem, ring_in_lem, ring_next}
use Rattle.file_rules.specs.RingFileRules.{Recorded, EachRecord, without_passed}
use Rattle.file_rules.proofs.ByteLaws.{words_in, bytes_take, bytes_drop, field-within, field-bytes, field_below, words_bytes, words_fit}
use Rattle.file_rules.proofs.ReadingLaws.{framed_taken}
use Rattle.file_rules.proofs.RingFileLaws.{nodes-behind}

-- ---- what a frame says

-- a ring's length is 14 at least
pub ring_long : (n : ℕ) → wrong_length n 2 ≡ false → 14 ≤ n
ring_long n e = ltb-false n 14 (neither (ltb n 2) (ltb n 14) e).1

-- ---- a ring that is taken is its own bytes

-- what is taken, or d
abbrev taken_or : RingRecord → Reply RingRecord → RingRecord
taken_or d (refused n) = d
taken_or d (success r) = r

-- 1 for a success
abbrev is_success : Reply RingRecord → ℕ
is_success (refused n) = 0
is_success (success r) = 1

-- the test and what is taken
ring-told : (t : Bool) (q r : RingRecord) → cond t (refused 15) (success q) ≡ success r → (t ≡ false) × (q ≡ r)
ring-told true q r e = absurd (omega (arith, ap is_success e))
ring-told false q r e = (refl, ap (taken_or r) e)

module _ (b : List ℕ) (t : are_bytes b ≡ true) (whole : length b ≡ 4 + field b 0 4) (two : field b 4 2 ≡ 2) where
  -- what the fields say
  abbrev fields : RingRecord
  fields = record { face = field b 6 2; doubled = to_z w64 (field b 10 8); nodes = map (λ i. field b (18 + 2 * i) 2) (upto (field b 8 2)) }

  module _ (n : ℕ) (count : field b 8 2 ≡ n) (size : field b 0 4 ≡ 14 + 2 * n) (l : 0 < n) where
    -- as many node numbers as counted
    length-nodes : length fields.nodes ≡ n
    length-nodes = length-map (upto (field b 8 2)) (λ i. field b (18 + 2 * i) 2) ∙ length-upto (field b 8 2) ∙ count

    -- what follows the first 18 bytes
    tail-size : length (drop 18 b) ≡ 2 * n
    tail-size = length-drop 18 b ∙ omega arith

    -- the node numbers
    nodes_are : fields.nodes ≡ words_in (drop 18 b) n
    nodes_are = ap (λ m. map (λ i. field b (18 + 2 * i) 2) (upto m)) count ∙ nodes-behind b n

    -- so many bytes are there
    reach : (m : ℕ) → m ≤ 18 → m ≤ length b
    reach m h = omega arith

    -- what is asked of a record
    fields_recorded : Recorded fields
    fields_recorded = record {
      some = subst (λ m. 0 < m) (sym length-nodes) l;
      few = subst (λ m. m < 65536) (count ∙ sym length-nodes) (field_below b t 8 2 (reach 10 (omega arith)));
      typed = record {
        face_fits = field_below b t 6 2 (reach 8 (omega arith));
        nodes_fit = ap (all (λ v. ltb v 65536)) nodes_are ∙ words_fit n (drop 18 b) (bytes_drop 18 b t) tail-size;
        doubled_fits = sfits_to_z (record { fits = field_below b t 10 8 (reach 18 (omega arith)) });
      };
    }

    -- field by field
    bytes_are : ring_bytes fields ≡ b
    bytes_are =
        (λ i. little_bytes 4 (long i) ++ little_bytes 2 (sym two i) ++ little_bytes 2 (field b 6 2) ++ little_bytes 2 (short i) ++ little_bytes 8 (area i) ++ flatten (map (little_bytes 2) (nodes_are i)))
        ∙ (λ i. field-bytes b t 0 4 (reach 4 (omega arith)) i ++ field-bytes b t 4 2 (reach 6 (omega arith)) i ++ field-bytes b t 6 2 (reach 8 (omega arith)) i
        ++ field-bytes b t 8 2 (reach 10 (omega arith)) i ++ field-bytes b t 10 8 (reach 18 (omega arith)) i ++ words_bytes n (drop 18 b) (bytes_drop 18 b t) tail-size i)
        ∙ ap (λ x. x ++ take 2 (drop 6 b) ++ take 2 (drop 8 b) ++ take 8 (drop 10 b) ++ drop 18 b) (sym (take-add 4 2 b))
        ∙ ap (λ x. x ++ take 2 (drop 8 b) ++ take 8 (drop 10 b) ++ drop 18 b) (sym (take-add 6 2 b))
        ∙ ap (λ x. x ++ take 8 (drop 10 b) ++ drop 18 b) (sym (take-add 8 2 b))
        ∙ ap (λ x. x ++ drop 18 b) (sym (take-add 10 8 b))
        ∙ take-append-drop 18 b
      where
        long : 14 + 2 * length fields.nodes ≡ field b 0 4
        long = ap (λ m. 14 + 2 * m) length-nodes ∙ sym size

        short : length fields.nodes ≡ field b 8 2
        short = length-nodes ∙ sym count

        area : of_z w64 (to_z w64 (field b 10 8)) ≡ field b 10 8
        area = of_z-to_z {w = w64} (record { fits = field_below b t 10 8 (reach 18 (omega arith)) })

  -- a ring that is taken
  ring-written : (r : RingRecord) → ring_in_lem b ≡ success r → Recorded r × (ring_bytes r ≡ b)
  ring-written r e =
      let u = ring-told (eqb (field b 8 2) 0 || not (eqb (field b 0 4) (14 + 2 * field b 8 2))) fields r e in
      let v = neither (eqb (field b 8 2) 0) (not (eqb (field b 0 4) (14 + 2 * field b 8 2))) u.0 in
      let z : field b 8 2 ≡ 0 → ⊥ = eqb-false (field b 8 2) 0 v.0 in
      let size = eqb-true (field b 0 4) (14 + 2 * field b 8 2) (not-false _ v.1) in
      let l : 0 < field b 8 2 = omega arith in
      subst (λ q. Recorded q × (ring_bytes q ≡ b)) u.1 (fields_recorded (field b 8 2) refl size l, bytes_are (field b 8 2) refl size l)

-- ---- the file, record by record

-- a refusal is no end
refused-not : (n : ℕ) → ◌≡◌ {A = Option ℕ} (some n) none → ⊥
refused-not n e = none-ne-some n (sym e)

-- what is to be shown of the two readings, that of the rings and that of their bytes
abbrev Agrees : Reading RingRecord → Reading (List ℕ) → Type 0
Agrees r q = r.refusal ≡ none → EachRecord Recorded r.holds × (flatten q.holds ≡ ring_file_lem r.holds)

module _ (s : List ℕ) (t : are_bytes s ≡ true) (R : ℕ → Reading RingRecord) (Q : ℕ → Reading (List ℕ)) (ih : (size : ℕ) → Agrees (R size) (Q size)) where
  -- a ring read, or refused
  on_ring : (size : ℕ) (a : Reply RingRecord) → ((r : RingRecord) → a ≡ success r → Recorded r × (ring_bytes r ≡ take size s))
      → Agrees (onward (told a size) R) (onward (told (success (take size s)) size) Q)
  on_ring size (refused n) f e = absurd (refused-not n e)
  on_ring size (success r) f e =
      let k = f r refl in
      let h = ih size e in
      ((k.0, h.0), ap₂ (λ (x : List ℕ) (y : List ℕ). x ++ y) (sym k.1) h.1)

  -- a record of some kind
  on_kind : (b : Bool) (size : ℕ) → (b ≡ true → (r : RingRecord) → ring_in_lem (take size s) ≡ success r → Recorded r × (ring_bytes r ≡ take size s))
      → Agrees (onward (cond b (told (ring_in_lem (take size s)) size) (passed size)) R) (onward (cond b (told (success (take size s)) size) (passed size)) Q)
  on_kind true size f = on_ring size (ring_in_lem (take size s)) (f refl)
  on_kind false size f = ih size

  -- a ring's frame
  on_taken : (kind size : ℕ) → frame s ≡ taken kind size → eqb kind 2 ≡ true → (r : RingRecord) → ring_in_lem (take size s) ≡ success r
      → Recorded r × (ring_bytes r ≡ take size s)
  unfolding frame
  on_taken kind size e k r a =
      let c = framed_taken (length s) (field s 0 4) (field s 4 2) kind size e in
      let two : field s 4 2 ≡ 2 = c.is_kind ∙ eqb-true kind 2 k in
      let least = ring_long (field s 0 4) (subst (λ x. wrong_length (field s 0 4) x ≡ false) two c.right) in
      let long : 18 ≤ size = omega (arith, least, c.is_bytes) in
      let front : field (take size s) 0 4 ≡ field s 0 4 = ap little_endian (field-within 0 4 size s (omega arith)) in
      let next : field (take size s) 4 2 ≡ field s 4 2 = ap little_endian (field-within 4 2 size s (omega arith)) in
      ring-written (take size s) (bytes_take size s t) (length-take-le size s c.there ∙ sym c.is_bytes ∙ ap (λ n. 4 + n) (sym front)) (next ∙ two) r a

  -- whatever the frame is
  on_frame : (f : Found ℕ) → frame s ≡ f → Agrees (onward (by_kind 2 ring_in_lem s f) R) (onward (by_kind 2 success s f) Q)
  on_frame (taken kind size) e = on_kind (eqb kind 2) size (on_taken kind size e)
  on_frame (passed size) e = ih size
  on_frame (wrong n) e = λ x. absurd (refused-not n x)
  on_frame end e = λ x. (tt, refl)

-- so with any fuel
agrees_on : (fuel : ℕ) (s : List ℕ) → are_bytes s ≡ true → Agrees (read_on ring_next fuel s) (read_on (read_next 2 success) fuel s)
unfolding ring_next read_next
agrees_on zero s t = λ x. (tt, refl)
agrees_on (suc fuel) s t =
    on_frame s t (λ size. read_on ring_next fuel (drop size s)) (λ size. read_on (read_next 2 success) fuel (drop size s))
    (λ size. agrees_on fuel (drop size s) (bytes_drop size s t)) (frame s) refl

-- a whole file
pub accepted : (s : List ℕ) → are_bytes s ≡ true → (read_file ring_next s).refusal ≡ none
    → EachRecord Recorded (read_file ring_next s).holds × (without_passed s ≡ ring_file_lem (read_file ring_next s).holds)
unfolding read_file without_passed
accepted s t = agrees_on (suc (length s)) s t
