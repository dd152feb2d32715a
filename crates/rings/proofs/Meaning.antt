-- What the lists say in terms of the rules: the rings read back, and the replies of ring extraction.
use Prim.Native.Nat.{ℕ, zero, suc, ◌+◌, ◌<◌, ◌≤◌}
use native.Mathlib.Omega.{arith}
use native.Mathlib.Nat.{zero-add}
use mathlib.Core.Path.{◌≡◌, refl, sym, ap, ap₂, ◌∙◌}
use mathlib.Core.Bool.{true}
use mathlib.Core.List.{List, [], ◌∷◌, ◌++◌, map, map-append}
use lib.ListN.{length, get_or, take, drop, length-append, length-map, get_or-map}
use lib.Seq.{take-suc, take-length}
use lib.Ieee.{Float, nan}
use Rattle.lists.proofs.Entries.{get_d_any}
use Rattle.lists.specs.Lists.{upto, flatten, Each}
use Rattle.rules.specs.Limits.{Limits, Fine}
use Rattle.rules.specs.Split.{minimal_rings}
use Rattle.rules.specs.Face.{Ring, ring_of, doubled_area_lem}
use Rattle.rules.specs.State.{State, arrangement, point_of, node_key, sound}
use Rattle.rules.specs.Ringing.{Side, ring_replies_lem, rings_of, float_area, area_in, side_by}
use Rattle.rules.proofs.Areas.{exact-areas}
use Rattle.rules.proofs.Replies.{take-at-start, over-front, rings_of-halves}
use Rattle.rings.specs.Listing.{first_places, size_of, ring_at, RingRows, RowsRoom, Listed}
use Rattle.ring_tally.specs.Sides.{side_of, sign_side, side_in, number_in, shown_in}
use Rattle.rings.proofs.Rows.{length-places}
use Rattle.rings.proofs.Bounds.{areas-small}
use Rattle.ring_tally.proofs.Siding.{side-exact}

-- ---- the rings read back

-- the place of ring i
places_at_lem : (at : ℕ) (rs : List (List ℕ)) (i : ℕ) → i < length rs → get_or (first_places at rs) i 0 ≡ at + length (flatten (take i rs))
places_at_lem at [] i h = absurd (omega arith)
places_at_lem at (r ∷ rs) zero h = omega arith
places_at_lem at (r ∷ rs) (suc i) h = places_at_lem (at + length r) rs i (omega arith) ∙ omega (arith, length-append r (flatten (take i rs)))

-- its length
sizes_at_lem : (rs : List (List ℕ)) (i : ℕ) → i < length rs → get_or (map size_of rs) i 0 ≡ length (get_or rs i [])
sizes_at_lem [] i h = absurd (omega arith)
sizes_at_lem (r ∷ rs) zero h = refl
sizes_at_lem (r ∷ rs) (suc i) h = sizes_at_lem rs i (omega arith)

-- it ends within the rings
cut-ends : (rs : List (List ℕ)) (i : ℕ) → i < length rs → length (flatten (take i rs)) + length (get_or rs i []) ≤ length (flatten rs)
cut-ends [] i h = absurd (omega arith)
cut-ends (r ∷ rs) zero h = omega (arith, length-append r (flatten rs))
cut-ends (r ∷ rs) (suc i) h = omega (arith, cut-ends rs i (omega arith), length-append r (flatten (take i rs)), length-append r (flatten rs))

-- by place or by ring
map-places : {B : Type 0} (F : ℕ → B) (G : List ℕ → B) (rs : List (List ℕ)) (n : ℕ) → n ≤ length rs → ((i : ℕ) → i < n → F i ≡ G (get_or rs i []))
    → map F (upto n) ≡ map G (take n rs)
map-places F G rs zero h e = refl
map-places F G rs (suc n) h e =
    map-append F (upto n) (n ∷ [])
    ∙ ap₂ ◌++◌ (map-places F G rs n (omega arith) (λ i q. e i (omega arith))) (ap (λ b. b ∷ []) (e n (omega arith)))
    ∙ sym (ap (map G) (take-suc rs n [] (omega arith)) ∙ map-append G (take n rs) (get_or rs n [] ∷ []))

module _ (rings : List (List ℕ)) (source : List ℕ) (xs ys : List Float) (halves₀ : List ℕ) (rows₀ : RingRows) (halves : List ℕ) (rows : RingRows) (count : ℕ)
    (listed : Listed rings source xs ys halves₀ rows₀ halves rows count) where
  -- the first place of ring i
  first-at : (i : ℕ) → i < length rings → get_or rows.first i 0 ≡ length (flatten (take i rings))
  first-at i h =
      ap (λ l. get_or l i 0) listed.places ∙ over-front (first_places 0 rings) rows₀.first i 0 (omega (arith, length-places 0 rings))
      ∙ places_at_lem 0 rings i h ∙ zero-add (length (flatten (take i rings)))

  -- its length
  size-at : (i : ℕ) → i < length rings → get_or rows.size i 0 ≡ length (get_or rings i [])
  size-at i h =
      ap (λ l. get_or l i 0) listed.sizes ∙ over-front (map size_of rings) rows₀.size i 0 (omega (arith, length-map rings size_of)) ∙ sizes_at_lem rings i h

  -- its area
  pub area-at : (i : ℕ) → i < length rings → get_or rows.area i nan ≡ shown_in source xs ys (get_or rings i [])
  area-at i h =
      ap (λ l. get_or l i nan) listed.areas ∙ over-front (map (shown_in source xs ys) rings) rows₀.area i nan (omega (arith, length-map rings (shown_in source xs ys)))
      ∙ get_d_any (map (shown_in source xs ys) rings) i nan (shown_in source xs ys []) (omega (arith, length-map rings (shown_in source xs ys))) ∙ get_or-map (shown_in source xs ys) rings i []

  -- it ends within the half-edges
  pub ends-within : (i : ℕ) → i < length rings → get_or rows.first i 0 + get_or rows.size i 0 ≤ length halves
  ends-within i h = omega (arith, first-at i h, size-at i h, cut-ends rings i h, ap length listed.halves, length-append (flatten rings) (drop (length (flatten rings)) halves₀))

  -- the lists have a place for each ring
  pub rows_within : RowsRoom count rows
  rows_within = record {
    in_first = omega (arith, listed.number, ap length listed.places, length-append (first_places 0 rings) (drop (length (first_places 0 rings)) rows₀.first), length-places 0 rings);
    in_size = omega (arith, listed.number, ap length listed.sizes, length-append (map size_of rings) (drop (length (map size_of rings)) rows₀.size), length-map rings size_of);
    in_side = omega (arith, listed.number, ap length listed.sides, length-append (map (number_in source xs ys) rings) (drop (length (map (number_in source xs ys) rings)) rows₀.side), length-map rings (number_in source xs ys));
    in_area = omega (arith, listed.number, ap length listed.areas, length-append (map (shown_in source xs ys) rings) (drop (length (map (shown_in source xs ys) rings)) rows₀.area), length-map rings (shown_in source xs ys));
  }

  -- ring i of the lists is ring i
  pub ring_read : (i : ℕ) → i < length rings → ring_at halves rows.first rows.size i ≡ get_or rings i []
  ring_read i h =
      ap₂ (λ a b. take a (drop b halves)) (size-at i h) (first-at i h)
      ∙ ap (λ l. take (length (get_or rings i [])) (drop (length (flatten (take i rings))) l)) listed.halves
      ∙ take-at-start rings (drop (length (flatten rings)) halves₀) i h

  -- what is said of each ring of the lists is said of each ring
  pub rings_read_lem : {B : Type 0} (G : List ℕ → B) → map (λ i. G (ring_at halves rows.first rows.size i)) (upto count) ≡ map G rings
  rings_read_lem G =
      ap (λ n. map (λ i. G (ring_at halves rows.first rows.size i)) (upto n)) listed.number
      ∙ map-places (λ i. G (ring_at halves rows.first rows.size i)) G rings (length rings) (omega arith) (λ i q. ap G (ring_read i q))
      ∙ ap (map G) (take-length rings)

-- ---- the replies of ring extraction

module _ (s : State) (all : List Ring) where
  -- first places
  pub replies_places : (at : ℕ) (rs : List Ring) → map (λ w. w.first) (ring_replies_lem s all at rs) ≡ first_places at (map (λ r. r.half_edges_lem) rs)
  replies_places at [] = refl
  replies_places at (r ∷ rs) = ap (λ l. at ∷ l) (replies_places (at + length r.half_edges_lem) rs)

  -- lengths
  pub replies_sizes : (at : ℕ) (rs : List Ring) → map (λ w. w.length) (ring_replies_lem s all at rs) ≡ map size_of (map (λ r. r.half_edges_lem) rs)
  replies_sizes at [] = refl
  replies_sizes at (r ∷ rs) = ap (λ l. length r.half_edges_lem ∷ l) (replies_sizes (at + length r.half_edges_lem) rs)

-- ---- sides of a sound state

-- the area of a state is that of its tables
area-tables : (s : State) (r : List ℕ) → float_area s r ≡ area_in s.source s.node_x s.node_y r
unfolding float_area
area-tables s r = refl

-- two facts of each give a third
each_two : (P Q R : List ℕ → Type 0) (ls : List (List ℕ)) → ((r : List ℕ) → P r → Q r → R r) → Each P ls → Each Q ls → Each R ls
each_two P Q R [] h a b = tt
each_two P Q R (l ∷ ls) h a b = (h l a.0 b.0, each_two P Q R ls h a.1 b.1)

-- the side by the float's sign is the side by the whole number's
abbrev SideExact : State → List ℕ → Type 0
SideExact s r = side_of (side_in s.source s.node_x s.node_y r) ≡ side_by (doubled_area_lem (point_of s) (arrangement s) r) (float_area s r)

-- it is so for each ring of a sound state
pub sides-exact : (l : Limits) → Fine l → (s : State) → sound l s ≡ true → Each (SideExact s) (minimal_rings (arrangement s))
sides-exact l fine s e =
    each_two _ _ (SideExact s) (minimal_rings (arrangement s)) (λ r p b.
    let z = doubled_area_lem (point_of s) (arrangement s) r in
    ap (λ a. side_of (sign_side a)) (sym (area-tables s r) ∙ p) ∙ side-exact z b ∙ ap (side_by z) (sym p))
    (exact-areas l fine s e) (areas-small l fine s e)

-- ring by ring, the sides of the tables are the sides replied
replies_sides : {B : Type 0} (F : Side → B) (s : State) (all : List Ring) (at : ℕ) (ls : List (List ℕ)) → Each (SideExact s) ls
    → map (λ r. F (side_of (side_in s.source s.node_x s.node_y r))) ls ≡ map (λ w. F w.side) (ring_replies_lem s all at (map (ring_of (point_of s) (node_key s) (arrangement s)) ls))
unfolding ring_of
replies_sides F s all at [] e = refl
replies_sides F s all at (r ∷ ls) e = ap₂ (λ x y. x ∷ y) (ap F e.0) (replies_sides F s all (at + length r) ls e.1)

-- of a sound state
pub sides-replied : {B : Type 0} (F : Side → B) (l : Limits) → Fine l → (s : State) → sound l s ≡ true
    → map (λ r. F (side_of (side_in s.source s.node_x s.node_y r))) (minimal_rings (arrangement s)) ≡ map (λ w. F w.side) (ring_replies_lem s (rings_of s) 0 (rings_of s))
unfolding rings_of
sides-replied F l fine s e = replies_sides F s (rings_of s) 0 (minimal_rings (arrangement s)) (sides-exact l fine s e)

-- the rows, first places and lengths are the ones replied
pub places-replied : (s : State) → first_places 0 (minimal_rings (arrangement s)) ≡ map (λ w. w.first) (ring_replies_lem s (rings_of s) 0 (rings_of s))
places-replied s = sym (replies_places s (rings_of s) 0 (rings_of s) ∙ ap (first_places 0) (rings_of-halves s))

-- the lengths
pub sizes-replied : (s : State) → map size_of (minimal_rings (arrangement s)) ≡ map (λ w. w.length) (ring_replies_lem s (rings_of s) 0 (rings_of s))
sizes-replied s = sym (replies_sizes s (rings_of s) 0 (rings_of s) ∙ ap (map size_of) (rings_of-halves s))
