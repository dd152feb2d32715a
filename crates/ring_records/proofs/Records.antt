-- The records of the rings that lists hold: what they are, that they can be written, and how many bytes they have.
use Prim.Native.Nat.{ℕ, zero, suc, ◌+◌, ◌*◌, ◌<◌, ◌≤◌}
use native.Mathlib.Omega.{arith}
use mathlib.Core.Path.{◌≡◌, refl, sym, ap, subst, ◌∙◌}
use mathlib.Core.Bool.{true}
use mathlib.Core.List.{List, [], ◌∷◌, ◌++◌, map, map-map, map-append, append-nil}
use lib.ListN.{length, get_or, take, drop, drop_of_length-le, length-map, get_or-append, get_or-map}
use lib.Seq.{take-suc, take_all}
use lib.IntN.{ℤ, pos}
use lib.Ieee.{Float, nan}
use borrow.Author.Tests.{lt-ltb, le-leb}
use Rattle.lists.specs.Lists.{upto, all, sum, flatten, over}
use Rattle.lists.proofs.Entries.{get_d_any}
use Rattle.lists.proofs.Passing.{all-upto}
use Rattle.lists.proofs.Rising.{flatten_agree}
use Rattle.lists.proofs.Sums.{sum-append}
use Rattle.rules.specs.Face.{Ring}
use Rattle.rules.specs.Limits.{limits}
use Rattle.file_rules.specs.Lines.{starting_nodes}
use Rattle.rules.specs.Listing.{no_ring}
use Rattle.file_rules.specs.RingFile.{FileRings, RingRecord, lent, ring_at, cut_out, ring_bytes}
use Rattle.ring_writing.specs.Rings.{bytes_at, writable_at, sizes_at}
use Rattle.ring_lists.specs.Shown.{HalfOf, passed}
use Rattle.ring_lists.proofs.Written.{passed-next}
use Rattle.ring_records.specs.File.{record_of_lem, file_of, file_room}
use Rattle.ring_records.specs.Given.{Halves, Listed}

-- ---- lists

-- a row written over one that is no longer is that row
pub whole : {A : Type 0} (row table : List A) → length table ≤ length row → over row table ≡ row
whole row table h = ap (λ t. row ++ t) (drop_of_length-le table h) ∙ append-nil row

-- what stands from a place on, taken from each
part-map : (f : ℕ → ℕ) (n m : ℕ) (l : List ℕ) → take n (drop m (map f l)) ≡ map f (take n (drop m l))
part-map f zero zero l = refl
part-map f (suc n) zero [] = refl
part-map f (suc n) zero (x ∷ l) = ap (λ r. f x ∷ r) (part-map f n zero l)
part-map f zero (suc m) [] = refl
part-map f (suc n) (suc m) [] = refl
part-map f n (suc m) (x ∷ l) = part-map f n m l

-- the first members, by their places
front_by_places : {A B : Type 0} (f : A → B) (l : List A) (d : A) (n : ℕ) → n ≤ length l → map (λ k. f (get_or l k d)) (upto n) ≡ map f (take n l)
front_by_places f l d zero h = refl
front_by_places f l d (suc n) h =
    map-append (λ k. f (get_or l k d)) (upto n) (n ∷ [])
    ∙ ap (λ r. r ++ (f (get_or l n d) ∷ [])) (front_by_places f l d n (omega arith))
    ∙ sym (ap (map f) (take-suc l n d h) ∙ map-append f (take n l) (get_or l n d ∷ []))

-- all of them
by_places : {A B : Type 0} (f : A → B) (l : List A) (d : A) → map (λ k. f (get_or l k d)) (upto (length l)) ≡ map f l
by_places f l d = front_by_places f l d (length l) (omega arith) ∙ ap (map f) (take_all (length l) l (omega arith))

-- where half-edge k starts
pub start-at : (source halves : List ℕ) (k : ℕ) → k < length halves → get_or source (get_or halves k 0) 0 ≡ get_or (starting_nodes source halves) k 0
start-at source halves k low =
    let f : ℕ → ℕ = λ h. get_or source h 0 in
    sym (get_d_any (map f halves) k 0 (f 0) (omega (arith, low, length-map halves f)) ∙ get_or-map f halves k 0)

-- ---- the rings

-- the doubled areas
abbrev pub doubled_of_lem : List Ring → List ℤ
doubled_of_lem rings = map (λ r. r.doubled) rings

module _ (rings : List Ring) (half_edges_lem first size face : List ℕ) (area : List Float) (listed : Listed rings half_edges_lem first size face area) where
  -- the areas are half of them
  pub areas-halves : Halves area (doubled_of_lem rings)
  areas-halves =
      let long : length (doubled_of_lem rings) ≡ length rings = length-map rings (λ (r : Ring). r.doubled) in
      record {
        in_area = omega (arith, long, listed.shown.in_area);
        each = λ k h. let low : k < length rings = omega (arith, long) in
            let e : get_or (doubled_of_lem rings) k (pos 0) ≡ (get_or rings k no_ring).doubled = get_or-map (λ (r : Ring). r.doubled) rings k no_ring in
            subst (λ z. HalfOf (get_or area k nan) z) (sym e) (listed.shown.each k low).halved;
      }

  -- no ring is longer than all together
  size_few : (k : ℕ) → k < length rings → get_or size k 0 ≤ 2 * limits.edges
  size_few k h = omega (arith, (listed.shown.each k h).sized, passed-next rings k h, listed.shown.short (suc k) (omega arith))

  -- each can be written, over as many nodes as there are half-edges
  pub all-able : (nodes n : ℕ) → nodes ≡ length half_edges_lem → n ≡ length rings → all (writable_at first size nodes) (upto n) ≡ true
  all-able nodes n q m = all-upto (writable_at first size nodes) n able
    where
      able : (k : ℕ) → k < n → writable_at first size nodes k ≡ true
      able k h =
          let low : k < length rings = omega arith in
          let e = listed.shown.each k low in
          rw (
            lt-ltb 0 (get_or size k 0) (omega (arith, e.sized, listed.some k low)),
            le-leb (get_or size k 0) 65535 (omega (arith, size_few k low)),
            le-leb (get_or first k 0 + get_or size k 0) nodes (omega (arith, e.inside)),
          ) refl

  -- the bytes of the first k
  sizes_are : (k : ℕ) → k ≤ length rings → sizes_at size (upto k) ≡ 18 * k + 2 * passed rings k
  sizes_are zero h = refl
  sizes_are (suc k) h =
      let f : ℕ → ℕ = λ i. 18 + 2 * get_or size i 0 in
      omega (
        arith,
        ap sum (map-append f (upto k) (k ∷ [])),
        sum-append (map f (upto k)) (f k ∷ []),
        sizes_are k (omega arith),
        passed-next rings k h,
        (listed.shown.each k h).sized,
      )

  -- all of them fit the room
  pub sizes_fit : (n : ℕ) → n ≡ length rings → sizes_at size (upto n) ≤ file_room limits
  sizes_fit n m = omega (arith, sizes_are n (omega arith), listed.shown.short n (omega arith), listed.shown.few)

  module _ (source : List ℕ) (old : List ℤ) where
    -- the lists that are written from
    abbrev pub table : FileRings
    table = lent first size face (over (doubled_of_lem rings) old) (starting_nodes source half_edges_lem)

    doubled-at : (k : ℕ) → k < length rings → get_or (over (doubled_of_lem rings) old) k (pos 0) ≡ (get_or rings k no_ring).doubled
    doubled-at k h =
        get_or-append (doubled_of_lem rings) (drop (length (doubled_of_lem rings)) old) (pos 0) k (omega (arith, length-map rings (λ (r : Ring). r.doubled)))
        ∙ get_or-map (λ (r : Ring). r.doubled) rings k no_ring

    -- ring k's record
    record_at : (k : ℕ) → k < length rings → cut_out table.nodes (ring_at table k) ≡ record_of_lem source rings (get_or rings k no_ring)
    record_at k h =
        let e = listed.shown.each k h in
        let nodes : take (get_or size k 0) (drop (get_or first k 0) (starting_nodes source half_edges_lem)) ≡ starting_nodes source (get_or rings k no_ring).half_edges_lem =
        part-map (λ x. get_or source x 0) (get_or size k 0) (get_or first k 0) half_edges_lem ∙ ap (starting_nodes source) e.holds in
        λ i. record { face = e.faced i; doubled = doubled-at k h i; nodes = nodes i }

    -- what is written is the file
    pub file-is : (n : ℕ) → n ≡ length rings → bytes_at table (upto n) ≡ file_of source rings
    file-is n m =
        let F : ℕ → RingRecord = λ k. cut_out table.nodes (ring_at table k) in
        let G : ℕ → List ℕ = λ k. ring_bytes (record_of_lem source rings (get_or rings k no_ring)) in
        ap flatten (map-map ring_bytes F (upto n))
        ∙ flatten_agree (λ k. ring_bytes (F k)) G n (λ k h. ap ring_bytes (record_at k (omega arith)))
        ∙ ap (λ (x : ℕ). flatten (map G (upto x))) m
        ∙ ap flatten (by_places (λ (r : Ring). ring_bytes (record_of_lem source rings r)) rings no_ring)
        ∙ ap flatten (sym (map-map ring_bytes (record_of_lem source rings) rings))
