-- Filling the lent lists, ring by ring.
use Prim.Native.Nat.{ℕ, ◌+◌, ◌*◌, ◌<◌, ◌≤◌}
use native.Mathlib.Omega.{arith}
use mathlib.Core.Path.{◌≡◌, refl, sym, ap, ◌∙◌, subst, fun_ext}
use mathlib.Core.List.{List, [], ◌∷◌, ◌++◌, map, map-append}
use lib.ListN.{length, take, drop, set, length-map}
use lib.Seq.{drop-drop}
use Rattle.lists.specs.Lists.{upto, over}
use Rattle.lists.specs.Buffer.{written}
use Rattle.lists.proofs.Buffers.{written_row}
use Rattle.file_rules.specs.Records.{little_endian, field, taken, passed, read_file}
use Rattle.file_rules.specs.RingFile.{FileRing, FileRings, ring_room_lem, rings_over, RingRecord, all_nodes, closed_up, ring_next}
use Rattle.file_rules.proofs.RingFileCalls.{closed-length}
use Rattle.ring_reading.specs.Found.{ring_of}
use Rattle.ring_taking.specs.Taken.{words_from, entry_of}
use Rattle.ring_reading.proofs.Progress.{nodes_more, nodes-count, Surveying, survey_start, survey_ring, survey_passed, survey_holds}
use Rattle.ring_taking.proofs.Lists.{closed_at, written-front, over_more, over-length, closed_more}

-- ---- one more ring

-- in one of the lists
column : {A : Type 0} (f : FileRing → A) (rings : List FileRing) (c : FileRing) (out : List A) (ring : ℕ) → length rings ≡ ring → ring < length out
    → set (over (map f rings) out) ring (f c) ≡ over (map f (rings ++ (c ∷ []))) out
column f rings c out ring e h =
    let n : length (map f rings) ≡ ring = length-map rings f ∙ e in
    ap (λ (k : ℕ). set (over (map f rings) out) k (f c)) (sym n)
    ∙ over_more (map f rings) (f c) out (omega (arith, n))
    ∙ ap (λ l. over l out) (sym (map-append f rings (c ∷ [])))

-- node numbers behind those that were written
nodes-behind : (ns ms out : List ℕ) (place : ℕ) → length ns ≡ place → place + length ms ≤ length out → written place ms (over ns out) ≡ over (ns ++ ms) out
nodes-behind ns ms out place e h =
    let z : place ≡ 0 + length ns = omega (arith, e) in
    (λ i. written (z i) ms (sym (written-front ns out) i)) ∙ written_row 0 ns ms out (omega (arith, e)) ∙ written-front (ns ++ ms) out

-- the lists with a ring put at a place, and node numbers from another on
abbrev pub ring_put : ℕ → FileRing → ℕ → List ℕ → FileRings → FileRings
ring_put ring c place ms t = record {
  first = set t.first ring c.first;
  length = set t.length ring c.length;
  face = set t.face ring c.face;
  doubled = set t.doubled ring c.doubled;
  nodes = written place ms t.nodes;
}

-- in all of them
rings_more : (rings : List FileRing) (ns : List ℕ) (t : FileRings) (ring place : ℕ) (c : FileRing) (ms : List ℕ) → length rings ≡ ring → ring < ring_room_lem t
    → length ns ≡ place → place + length ms ≤ length t.nodes
    → ring_put ring c place ms (rings_over rings ns t) ≡ rings_over (rings ++ (c ∷ [])) (ns ++ ms) t
rings_more rings ns t ring place c ms e h p q =
    let first = column (λ r. r.first) rings c t.first ring e (omega arith) in
    let size = column (λ r. r.length) rings c t.length ring e (omega arith) in
    let face = column (λ r. r.face) rings c t.face ring e (omega arith) in
    let doubled = column (λ r. r.doubled) rings c t.doubled ring e (omega arith) in
    let nodes = nodes-behind ns ms t.nodes place p q in
    λ i. record { first = first i; length = size i; face = face i; doubled = doubled i; nodes = nodes i }

-- a ring's node numbers are those behind the first 18 bytes of its record
words_record : (bytes : List ℕ) (at n : ℕ) → words_from bytes (at + 18) n ≡ (ring_of (drop at bytes) n).nodes
words_record bytes at n = ap (λ (g : ℕ → ℕ). map g (upto n)) (fun_ext same)
  where
    same : (k : ℕ) → field bytes (at + 18 + 2 * k) 2 ≡ field (drop at bytes) (18 + 2 * k) 2
    same k =
        let e : at + 18 + 2 * k ≡ at + (18 + 2 * k) = omega arith in
        ap (λ (x : ℕ). field bytes x 2) e ∙ ap (λ (l : List ℕ). little_endian (take 2 l)) (sym (drop-drop (18 + 2 * k) at bytes))

-- ---- the lists on the way

-- the lists hold the rings that were read before `at`
pub record Filling (bytes : List ℕ) (old : FileRings) (at ring place : ℕ) (t : FileRings) : Type 0 where
  pub counted : Surveying bytes at ring place
  pub lists : t ≡ rings_over (closed_up 0 counted.done) (all_nodes counted.done) old

-- room for all rings of a file
pub record Room (bytes : List ℕ) (t : FileRings) : Type 0 where
  pub rings : length (read_file ring_next bytes).holds ≤ ring_room_lem t
  pub nodes : length (all_nodes (read_file ring_next bytes).holds) ≤ length t.nodes

-- each list is as long as it was
pub record Alike (t old : FileRings) : Type 0 where
  pub first : length t.first ≡ length old.first
  pub size : length t.length ≡ length old.length
  pub face : length t.face ≡ length old.face
  pub doubled : length t.doubled ≡ length old.doubled
  pub nodes : length t.nodes ≡ length old.nodes

module _ (bytes : List ℕ) (old : FileRings) (room : Room bytes old) where
  -- so many rings and node numbers fit
  pub counted_fit : {at rings nodes : ℕ} → Surveying bytes at rings nodes → (rings ≤ ring_room_lem old) × (nodes ≤ length old.nodes)
  counted_fit v = let h = survey_holds v in (omega (arith, h.0, room.rings), omega (arith, h.1, room.nodes))

  module _ (at ring place : ℕ) (t : FileRings) (f : Filling bytes old at ring place t) where
    -- no list changes its length
    pub filling_alike : Alike t old
    filling_alike =
        let done = f.counted.done in
        let fit = counted_fit f.counted in
        let n = closed-length 0 done ∙ f.counted.is_rings in
        subst (λ (x : FileRings). Alike x old) (sym f.lists) (record {
          first = over-length (map (λ r. r.first) (closed_up 0 done)) old.first (omega (arith, fit.0, n, length-map (closed_up 0 done) (λ r. r.first)));
          size = over-length (map (λ r. r.length) (closed_up 0 done)) old.length (omega (arith, fit.0, n, length-map (closed_up 0 done) (λ r. r.length)));
          face = over-length (map (λ r. r.face) (closed_up 0 done)) old.face (omega (arith, fit.0, n, length-map (closed_up 0 done) (λ r. r.face)));
          doubled = over-length (map (λ r. r.doubled) (closed_up 0 done)) old.doubled (omega (arith, fit.0, n, length-map (closed_up 0 done) (λ r. r.doubled)));
          nodes = over-length (all_nodes done) old.nodes (omega (arith, fit.1, f.counted.is_nodes));
        })

    -- a ring
    pub filling_ring : (n : ℕ) → taken (ring_of (drop at bytes) n) (18 + 2 * n) ≡ ring_next (drop at bytes)
        → Filling bytes old (at + (18 + 2 * n)) (ring + 1) (place + n) (ring_put ring (entry_of (drop at bytes) place n) place (words_from bytes (at + 18) n) t)
    unfolding survey_ring
    filling_ring n e =
        let s = drop at bytes in
        let r = ring_of s n in
        let done = f.counted.done in
        let next = survey_ring bytes at ring place f.counted n e in
        let fit = counted_fit next in
        let size = nodes-count s n in
        let start : place ≡ 0 + length (all_nodes done) = omega (arith, f.counted.is_nodes) in
        let entry : entry_of s place n ≡ closed_at (0 + length (all_nodes done)) r = λ i. record { first = start i; length = sym size i; face = r.face; doubled = r.doubled } in
        let words = words_record bytes at n in
        record {
          counted = next;
          lists =
              (λ i. ring_put ring (entry i) place (words i) (f.lists i))
              ∙ rings_more (closed_up 0 done) (all_nodes done) old ring place (closed_at (0 + length (all_nodes done)) r) r.nodes
              (closed-length 0 done ∙ f.counted.is_rings) (omega (arith, fit.0)) f.counted.is_nodes (omega (arith, fit.1, size))
              ∙ (λ i. rings_over (sym (closed_more 0 done r) i) (sym (nodes_more done r) i) old);
        }

    -- a record passed over
    pub filling_passed : (size : ℕ) → passed size ≡ ring_next (drop at bytes) → Filling bytes old (at + size) ring place t
    unfolding survey_passed
    filling_passed size e = record { counted = survey_passed bytes at ring place f.counted size e; lists = f.lists }

-- nothing was written at the start
pub filling_start : (bytes : List ℕ) (old : FileRings) → Filling bytes old 0 0 0 old
unfolding survey_start
filling_start bytes old = record { counted = survey_start bytes; lists = refl }

-- where nothing more is read, all rings are there
pub filling_done : (bytes : List ℕ) (old : FileRings) (at ring place : ℕ) (t : FileRings) (f : Filling bytes old at ring place t) → (read_file ring_next bytes).holds ≡ f.counted.done
    → t ≡ rings_over (closed_up 0 (read_file ring_next bytes).holds) (all_nodes (read_file ring_next bytes).holds) old
filling_done bytes old at ring place t f e = f.lists ∙ ap (λ (rs : List RingRecord). rings_over (closed_up 0 rs) (all_nodes rs) old) (sym e)
