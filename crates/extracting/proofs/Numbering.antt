-- The lists of a sound state's rings: what numbering the faces asks, and what it leaves as replied.
use Prim.Native.Nat.{ℕ, ◌+◌, ◌*◌, ◌<◌, ◌≤◌}
use native.Mathlib.Omega.{arith}
use native.Mathlib.Nat.{add-zero}
use mathlib.Core.Path.{◌≡◌, refl, sym, ap, subst, ◌∙◌}
use mathlib.Core.Bool.{true}
use mathlib.Core.List.{List, [], ◌∷◌, ◌++◌, map, map-id, append-nil}
use lib.ListN.{length, get_or, take, drop, length-take, length-map, drop_of_length-le}
use lib.Seq.{take-append_seam, take-take, get_or-take, get_or-drop}
use lib.Ieee.{Float, nan}
use Rattle.lists.specs.Lists.{In, upto, flatten, over}
use Rattle.rules.specs.Limits.{Limits, Fine}
use Rattle.rules.specs.Cycles.{halves}
use Rattle.rules.specs.Split.{minimal_rings}
use Rattle.rules.specs.Sane.{Sane}
use Rattle.rules.specs.Face.{Ring, ring_of, doubled_area_lem, face_number_lem}
use Rattle.rules.specs.Naming.{naming_comparisons}
use Rattle.rules.specs.State.{State, arrangement, point_of, node_key, key_in_lem, sound}
use Rattle.rules.specs.Ringing.{rings_of, ring_replies_lem, side_area_lem, side_by}
use Rattle.rules.proofs.Soundness.{is-sound}
use Rattle.rules.proofs.Tables.{sound-sane}
use Rattle.rules.proofs.Areas.{exact-areas}
use Rattle.rules.proofs.Counting.{minimal_few}
use Rattle.rules.proofs.Claims.{halved, each_at}
use Rattle.rules.proofs.Replies.{rings_of-halves}
use Rattle.rules.proofs.NamingSteps.{naming_few}
use Rattle.ring_tally.specs.Keys.{bits_from, keys_y, Keyed}
use Rattle.rings.specs.Listing.{RingRows, Listed, ring_at}
use Rattle.rings.proofs.Bounds.{side-half, areas-small}
use Rattle.rings.proofs.Meaning.{area-at, ends-within, rows_within, ring_read, rings_read_lem, sides-exact}
use Rattle.ring_keys.specs.Listed.{HalfOf}
use Rattle.faces.specs.Numbers.{ring_at as ring_from, rings_at, face_numbers, origins, rows_at, comparisons_at, Numberable}
use Rattle.faces.proofs.Filled.{ring_of-state}
use Rattle.ring_listing.specs.Listing.{keys_x_of, keys_y_of}
use Rattle.extracting.proofs.Starts.{rings-inside, rings_fit, ring-some, begins-apart}

-- ---- the keys out of the two halves of a list

module _ (row source : List ℕ) (xs ys : List Float) (keys₀ keys : List ℕ) (keyed : Keyed keys_y row source xs ys keys₀ keys) (total : ℕ) (all : total ≡ length row) where
  -- a row made by a function, cut off what it stands over
  row_cut : (f : ℕ → ℕ) (out : List ℕ) → take total (over (map f row) out) ≡ map f row
  row_cut f out = ap (λ n. take n (over (map f row) out)) (all ∙ sym (length-map row f)) ∙ take-append_seam (map f row) (drop (length (map f row)) out)

  -- the bits of x
  first-keys : total ≤ keys_y → take total keys ≡ map (bits_from source xs) row
  first-keys h = sym (take-take total keys_y keys h) ∙ ap (take total) keyed.bits_x ∙ row_cut (bits_from source xs) (take keys_y keys₀)

  -- the bits of y
  second-keys : take total (drop keys_y keys) ≡ map (bits_from source ys) row
  second-keys = ap (take total) keyed.bits_y ∙ row_cut (bits_from source ys) (drop keys_y keys₀)

-- ---- the lists

-- as many half-edges as twice the edges
pub halves_are : (s : State) → halves (arrangement s) ≡ 2 * s.edges
unfolding arrangement
halves_are s = refl

-- a list over itself
pub over_self : (l : List ℕ) → over l l ≡ l
over_self l = ap (λ r. l ++ r) (drop_of_length-le l {i = length l} (omega arith)) ∙ append-nil l

-- ring i of the lists, as the rules have it
ring-from : (s : State) (rows first size : List ℕ) (i : ℕ)
    → ring_from rows first size s.source s.node_x s.node_y i ≡ ring_of (point_of s) (node_key s) (arrangement s) (ring_at rows first size i)
unfolding ring_from
ring-from s rows first size i = sym (ring_of-state s (ring_at rows first size i))

-- its doubled area
ring-doubled : (s : State) (ring : List ℕ) → (ring_of (point_of s) (node_key s) (arrangement s) ring).doubled ≡ doubled_area_lem (point_of s) (arrangement s) ring
unfolding ring_of
ring-doubled s ring = refl

-- the faces replied
replies_faces : (s : State) (all : List Ring) (at : ℕ) (rs : List Ring) → map (λ w. w.face) (ring_replies_lem s all at rs) ≡ map (face_number_lem all) rs
replies_faces s all at [] = refl
replies_faces s all at (r ∷ rs) = ap (λ l. face_number_lem all r ∷ l) (replies_faces s all (at + length r.half_edges_lem) rs)

-- the rings of a state, made from half-edges
rings_of_lem : (s : State) → rings_of s ≡ map (ring_of (point_of s) (node_key s) (arrangement s)) (minimal_rings (arrangement s))
unfolding rings_of
rings_of_lem s = refl

-- the rings of the lists, made from half-edges
rings_from_lem : (s : State) (rows first size : List ℕ) (count : ℕ) → rings_at rows first size count s.source s.node_x s.node_y
    ≡ map (λ i. ring_of (point_of s) (node_key s) (arrangement s) (ring_at rows first size i)) (upto count)
rings_from_lem s rows first size count = λ j. map (λ i. ring-from s rows first size i j) (upto count)

-- no more rings than half-edges
pub rings-few : (s : State) → length (minimal_rings (arrangement s)) ≤ 2 * s.edges
rings-few s = omega (arith, minimal_few (arrangement s), halves_are s)

-- nor more half-edges in them
pub flat-few : (l : Limits) (s : State) → sound l s ≡ true → length (flatten (minimal_rings (arrangement s))) ≤ 2 * s.edges
flat-few l s sense = omega (arith, rings_fit (arrangement s) (sound-sane l s (is-sound l s sense)), halves_are s)

-- the comparisons of naming, by a state's own tables
keys_of-state : (s : State) (rings : List (List ℕ)) → naming_comparisons (key_in_lem s.node_x s.node_y) (origins s.source) rings ≡ naming_comparisons (node_key s) (arrangement s) rings
unfolding naming_comparisons node_key arrangement
keys_of-state s rings = refl

-- they fit 16 bits
pub comparisons_fit : (l : Limits) (s : State) → sound l s ≡ true → 6 * l.edges < 65536 → naming_comparisons (node_key s) (arrangement s) (map (λ q. q.half_edges_lem) (rings_of s)) < 65536
comparisons_fit l s sense low =
    let rings = map (λ (q : Ring). q.half_edges_lem) (rings_of s) in
    let n : length (flatten rings) ≡ length (flatten (minimal_rings (arrangement s))) = ap (λ r. length (flatten r)) (rings_of-halves s) in
    omega (arith, naming_few (node_key s) (arrangement s) rings, n, flat-few l s sense, (is-sound l s sense).edges)

module _ (l : Limits) (s : State) (sense : sound l s ≡ true) (halves₀ : List ℕ) (rows₀ : RingRows) (halves : List ℕ) (rows : RingRows) (count : ℕ)
    (listed : Listed (minimal_rings (arrangement s)) s.source s.node_x s.node_y halves₀ rows₀ halves rows count) where
  -- the rings
  abbrev rings : List (List ℕ)
  rings = minimal_rings (arrangement s)

  -- their arrangement is sane
  sane : Sane (arrangement s)
  sane = sound-sane l s (is-sound l s sense)

  -- their half-edges are the state's
  low : (h : ℕ) → In h (flatten rings) → h < 2 * s.edges
  low h m = omega (arith, halves_are s, rings-inside (arrangement s) sane h m)

  -- they are few
  few : length rings ≤ 2 * s.edges
  few = rings-few s

  module _ (total : ℕ) (all : total ≡ length (flatten rings)) where
    -- the part of the list that holds them
    abbrev front : List ℕ
    front = take total halves

    -- it is they
    front-is : front ≡ flatten rings
    front-is = ap (λ n. take n halves) all ∙ ap (take (length (flatten rings))) listed.halves ∙ take-append_seam (flatten rings) (drop (length (flatten rings)) halves₀)

    -- and they are listed there too
    front-listed : Listed rings s.source s.node_x s.node_y (flatten rings) rows₀ front rows count
    front-listed = record {
      halves = front-is ∙ sym (over_self (flatten rings));
      places = listed.places;
      sizes = listed.sizes;
      sides = listed.sides;
      areas = listed.areas;
      number = listed.number;
    }

    -- the face numbers of the lists are the ones replied
    pub faces-replied : face_numbers (rings_at front rows.first rows.size count s.source s.node_x s.node_y) ≡ map (λ w. w.face) (ring_replies_lem s (rings_of s) 0 (rings_of s))
    faces-replied =
        ap face_numbers (rings_from_lem s front rows.first rows.size count
        ∙ rings_read_lem rings s.source s.node_x s.node_y (flatten rings) rows₀ front rows count front-listed (ring_of (point_of s) (node_key s) (arrangement s)) ∙ sym (rings_of_lem s))
        ∙ sym (replies_faces s (rings_of s) 0 (rings_of s))

    -- the rings of the lists are they
    rows_are : rows_at front rows.first rows.size count ≡ rings
    rows_are = rings_read_lem rings s.source s.node_x s.node_y (flatten rings) rows₀ front rows count front-listed (λ r. r) ∙ map-id rings

    -- and so are the comparisons
    pub comparisons-replied : comparisons_at front rows.first rows.size count s.source s.node_x s.node_y ≡ naming_comparisons (node_key s) (arrangement s) (map (λ q. q.half_edges_lem) (rings_of s))
    comparisons-replied = ap (naming_comparisons (key_in_lem s.node_x s.node_y) (origins s.source)) (rows_are ∙ sym (rings_of-halves s)) ∙ keys_of-state s (map (λ q. q.half_edges_lem) (rings_of s))

    module _ (fine : Fine l) (keys₀ keys : List ℕ) (keyed : Keyed keys_y (flatten rings) s.source s.node_x s.node_y keys₀ keys) (inside : length (flatten rings) ≤ keys_y) where
      -- ring i is read out of it
      read : (i : ℕ) → i < length rings → ring_at front rows.first rows.size i ≡ get_or rings i []
      read = ring_read rings s.source s.node_x s.node_y (flatten rings) rows₀ front rows count front-listed

      -- it is not empty
      some : (i : ℕ) → i < length rings → 0 < get_or rows.size i 0
      some i h = omega (arith, length-take (get_or rows.size i 0) (drop (get_or rows.first i 0) front), ap (λ r. length r) (read i h), ring-some (arrangement s) sane i h)

      -- where it begins
      begin_read : (i : ℕ) → i < length rings → get_or front (get_or rows.first i 0) 0 ≡ get_or (get_or rings i []) 0 0
      begin_read i h =
          ap (λ k. get_or front k 0) (sym (add-zero (get_or rows.first i 0)))
          ∙ sym (get_or-take (get_or rows.size i 0) (drop (get_or rows.first i 0) front) 0 0 (some i h) ∙ get_or-drop (get_or rows.first i 0) front 0 0)
          ∙ ap (λ r. get_or r 0 0) (read i h)

      -- its area is half of its doubled area
      area_read : (i : ℕ) → i < length rings → get_or rows.area i nan ≡ halved (doubled_area_lem (point_of s) (arrangement s) (get_or rings i []))
      area_read i h =
          let z = doubled_area_lem (point_of s) (arrangement s) (get_or rings i []) in
          area-at rings s.source s.node_x s.node_y halves₀ rows₀ halves rows count listed i h
          ∙ ap side_area_lem (each_at _ rings i h (sides-exact l fine s sense))
          ∙ ap (λ a. side_area_lem (side_by z a)) (each_at _ rings i h (exact-areas l fine s sense))
          ∙ side-half z

      -- the record that `number_faces` asks for
      pub numberable : Numberable l front (keys_x_of front keys) (keys_y_of front keys) rows.first rows.size count s.source s.node_x s.node_y rows.area
      numberable =
          let ok = is-sound l s sense in
          let within = rows_within rings s.source s.node_x s.node_y halves₀ rows₀ halves rows count listed in
          let long : length front ≡ length (flatten rings) = ap (λ r. length r) front-is in
          let at : (i : ℕ) → i < count → i < length rings = λ i q. omega (arith, listed.number) in
          record {
            few = omega (arith, listed.number, few, ok.edges);
            first_room = within.in_first;
            length_room = within.in_size;
            area_room = within.in_area;
            bits_x = first-keys (flatten rings) s.source s.node_x s.node_y keys₀ keys keyed (length front) long (omega (arith, long)) ∙ ap (map (bits_from s.source s.node_x)) (sym front-is);
            bits_y = second-keys (flatten rings) s.source s.node_x s.node_y keys₀ keys keyed (length front) long ∙ ap (map (bits_from s.source s.node_y)) (sym front-is);
            some = λ i q. some i (at i q);
            within = λ i q. ends-within rings s.source s.node_x s.node_y (flatten rings) rows₀ front rows count front-listed i (at i q);
            halves = λ i q.
                subst (HalfOf (get_or rows.area i nan)) (sym (ap (λ r. r.doubled) (ring-from s front rows.first rows.size i ∙ ap (ring_of (point_of s) (node_key s) (arrangement s)) (read i (at i q))) ∙ ring-doubled s (get_or rings i [])))
                (record { small = each_at _ rings i (at i q) (areas-small l fine s sense); is = area_read i (at i q) });
            apart = λ i j p q e. begins-apart (arrangement s) sane i j (at i p) (at j q) (sym (begin_read i (at i p)) ∙ e ∙ begin_read j (at j q));
          }
