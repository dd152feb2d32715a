-- The lists as the code fills them: their rings are those of the tables, and the places of these in order are their face numbers.
use mathlib.Core.Path.{◌≡◌, refl, sym, ap, ap₂, subst, ◌∙◌}
use mathlib.Core.Bool.{Bool}
use mathlib.Core.List.{List, [], ◌∷◌, map}
use Prim.Native.Nat.{ℕ, zero, suc, ◌+◌, ◌≤◌, ◌<◌}
use native.Mathlib.Omega.{arith}
use lib.ListN.{length, get_or, take, drop, length-append, length-drop, length-map, get_or-append}
use lib.Seq.{ext_get_or}
use lib.Ieee.{Float, nan}
use Rattle.lists.specs.Lists.{upto, pick, over, sum}
use Rattle.lists.proofs.Counts.{by_test}
use Rattle.lists.proofs.Members.{length-upto}
use Rattle.lists.proofs.Passing.{pick_agree}
use Rattle.rotation.specs.Rotation.{Key, rotated, keys_of, least_rotation_lem}
use Rattle.rotation.specs.Steps.{comparisons}
use Rattle.rotation.proofs.Keys.{length-keys}
use Rattle.rotation.proofs.Least.{least-rotation}
use Rattle.rules.specs.Face.{Ring, doubled_area_lem, ring_keys_lem, face_key, face_before_lem, how_many, face_number_lem, ring_of}
use Rattle.rules.specs.Naming.{naming_comparisons}
use Rattle.rules.specs.Keys.{key_of}
use Rattle.rules.specs.Limits.{Limits}
use Rattle.rules.specs.State.{State, arrangement, point_of, node_key, point_in, key_in_lem}
use Rattle.ring_keys.specs.Listed.{part_of, HalfOf, Listed, listed, ring_in_lem, Stands, AllStand}
use Rattle.ring_tally.specs.Keys.{bits_from}
use Rattle.ring_keys.specs.Keys.{turn_of, steps_of}
use Rattle.faces.specs.Order.{before, in_order_lem}
use Rattle.faces.specs.Numbers.{index_of, origins, ring_at, rings_at, face_numbers, comparisons_at, Numberable}
use Rattle.ring_keys.proofs.Rows.{map_at, map-upto-at}
use Rattle.ring_keys.proofs.KeyLists.{length_part, keys-part}
use Rattle.faces.proofs.Places.{index_sorted, upto-below}
use Rattle.faces.proofs.Rings.{doubled-half, before-order}

-- ---- how many come before

-- rings that pass a test are numbers of rings that do
how_many_lem : (q : Ring → Bool) (R : ℕ → Ring) (l : List ℕ) → how_many q (map R l) ≡ length (pick (λ j. q (R j)) l)
how_many_lem q R [] = refl
how_many_lem q R (x ∷ l) = by_test (q (R x)) (λ e. rw e (omega (arith, how_many_lem q R l))) (λ e. rw e (omega (arith, how_many_lem q R l)))

-- two rows of numbers, the one by way of rings
row_same : {A : Type 0} (f : ℕ → ℕ) (F : A → ℕ) (R : ℕ → A) (n : ℕ) → ((i : ℕ) → i < n → f i ≡ F (R i)) → map f (upto n) ≡ map F (map R (upto n))
row_same f F R n e =
    let a : length (map f (upto n)) ≡ n = length-map (upto n) f ∙ length-upto n in
    let b : length (map R (upto n)) ≡ n = length-map (upto n) R ∙ length-upto n in
    ext_get_or 0 (map f (upto n)) (map F (map R (upto n))) (a ∙ sym (length-map (map R (upto n)) F ∙ b))
    (λ i h.
    let g : i < n = omega arith in
    map-upto-at f n i 0 g ∙ e i g ∙ ap F (sym (map-upto-at R n i (R 0) g)) ∙ sym (map_at F (map R (upto n)) i (R 0) 0 (omega arith)))

-- ---- the lists as they are given

-- past some entries of a row that was made by a function
map-drop : (f : ℕ → ℕ) (n : ℕ) (l : List ℕ) → drop n (map f l) ≡ map f (drop n l)
map-drop f zero l = refl
map-drop f (suc n) [] = refl
map-drop f (suc n) (x ∷ l) = map-drop f n l

-- the first of them
map-take : (f : ℕ → ℕ) (n : ℕ) (l : List ℕ) → take n (map f l) ≡ map f (take n l)
map-take f zero l = refl
map-take f (suc n) [] = refl
map-take f (suc n) (x ∷ l) = ap (λ r. f x ∷ r) (map-take f n l)

-- a part of such a row
part-map : (f : ℕ → ℕ) (l : List ℕ) (first n : ℕ) → part_of first n (map f l) ≡ map f (part_of first n l)
part-map f l first n = ap (take n) (map-drop f first l) ∙ map-take f n (drop first l)

-- keys out of two rows
keys-map : (f g : ℕ → ℕ) (l : List ℕ) → keys_of (map f l) (map g l) ≡ map (λ h. record { x = f h; y = g h }) l
keys-map f g [] = refl
keys-map f g (h ∷ l) = ap (λ r. record { x = f h; y = g h } ∷ r) (keys-map f g l)

-- a table with a row over its front is as long
length_over : (row out : List ℕ) → length row ≤ length out → length (over row out) ≡ length out
length_over row out h = omega (arith, length-append row (drop (length row) out), length-drop (length row) out)

-- the tables and lists as they were given
module _ (lim : Limits) (half_edges_lem xs ys firsts lengths : List ℕ) (count : ℕ) (source : List ℕ) (X Y areas : List Float)
    (g : Numberable lim half_edges_lem xs ys firsts lengths count source X Y areas) where
  -- a key for every half-edge
  length-filled : length (keys_of xs ys) ≡ length half_edges_lem
  length-filled =
      let x : length xs ≡ length half_edges_lem = ap length g.bits_x ∙ length-map half_edges_lem (bits_from source X) in
      let y : length ys ≡ length half_edges_lem = ap length g.bits_y ∙ length-map half_edges_lem (bits_from source Y) in
      length-keys xs ys (omega arith) ∙ x

  -- a ring's keys are among them
  pub within-filled : (i : ℕ) → i < count → get_or firsts i 0 + get_or lengths i 0 ≤ length (keys_of xs ys)
  within-filled i h = omega (arith, g.within i h, length-filled)

  -- they are those of its starting nodes
  keys_filled : (i : ℕ) → i < count
      → part_of (get_or firsts i 0) (get_or lengths i 0) (keys_of xs ys) ≡ map (λ h. key_in_lem X Y (get_or source h 0)) (part_of (get_or firsts i 0) (get_or lengths i 0) half_edges_lem)
  unfolding bits_from key_of
  keys_filled i h =
      let a : ℕ = get_or firsts i 0 in
      let n : ℕ = get_or lengths i 0 in
      sym (keys-part a n xs ys)
      ∙ ap₂ keys_of
      (ap (part_of a n) g.bits_x ∙ part-map (bits_from source X) half_edges_lem a n)
      (ap (part_of a n) g.bits_y ∙ part-map (bits_from source Y) half_edges_lem a n)
      ∙ keys-map (bits_from source X) (bits_from source Y) (part_of a n half_edges_lem)

  -- the comparisons that the searches make are those of naming the rings
  pub steps_filled : sum (map (steps_of (keys_of xs ys) firsts lengths) (upto count)) ≡ comparisons_at half_edges_lem firsts lengths count source X Y
  unfolding steps_of naming_comparisons
  steps_filled =
      ap sum (row_same (steps_of (keys_of xs ys) firsts lengths) (λ ring. comparisons (ring_keys_lem (key_in_lem X Y) (origins source) ring))
      (λ i. part_of (get_or firsts i 0) (get_or lengths i 0) half_edges_lem) count (λ i h. ap comparisons (keys_filled i h)))

  -- the turns as they are written
  module _ (turns turns₀ : List ℕ) (et : turns ≡ over (map (turn_of (keys_of xs ys) firsts lengths) (upto count)) turns₀) (room_t : count ≤ length turns₀) where
    -- the lists
    abbrev filled : Listed
    filled = listed half_edges_lem xs ys firsts lengths turns areas

    -- the rings of the tables
    abbrev R : ℕ → Ring
    R = ring_at half_edges_lem firsts lengths source X Y

    -- as many turns as before
    length-turns : length turns ≡ length turns₀
    length-turns =
        let m : length (map (turn_of (keys_of xs ys) firsts lengths) (upto count)) ≡ count = length-map (upto count) (turn_of (keys_of xs ys) firsts lengths) ∙ length-upto count in
        ap length et ∙ length_over (map (turn_of (keys_of xs ys) firsts lengths) (upto count)) turns₀ (omega arith)

    -- ring i's turn
    turn-filled : (i : ℕ) → i < count → get_or turns i 0 ≡ least_rotation_lem (part_of (get_or firsts i 0) (get_or lengths i 0) (keys_of xs ys))
    unfolding turn_of
    turn-filled i h =
        let row : List ℕ = map (turn_of (keys_of xs ys) firsts lengths) (upto count) in
        ap (λ l. get_or l i 0) et
        ∙ get_or-append row (drop (length row) turns₀) 0 i (omega (arith, length-map (upto count) (turn_of (keys_of xs ys) firsts lengths), length-upto count))
        ∙ map-upto-at (turn_of (keys_of xs ys) firsts lengths) count i 0 h

    -- ring i of the lists is ring i of the tables
    ring-filled : (i : ℕ) → i < count → ring_in_lem filled i ≡ R i
    unfolding ring_in_lem ring_at ring_of face_key
    ring-filled i h =
        let k = keys_filled i h in
        let t = turn-filled i h ∙ ap least_rotation_lem k in
        let z = doubled-half (g.halves i h) in
        λ j. record { half_edges_lem = part_of (get_or firsts i 0) (get_or lengths i 0) half_edges_lem; key = rotated (t j) (k j); doubled = z j }

    -- ring i is in the lists
    stands-filled : (i : ℕ) → i < count → Stands filled i
    stands-filled i h =
        let P : List Key = part_of (get_or firsts i 0) (get_or lengths i 0) (keys_of xs ys) in
        let within = within-filled i h in
        let n : length P ≡ get_or lengths i 0 = length_part (get_or firsts i 0) (get_or lengths i 0) (keys_of xs ys) within in
        let some = g.some i h in
        let half = g.halves i h in
        record {
          firsts = omega (arith, g.first_room);
          sizes = omega (arith, g.length_room);
          turns = omega (arith, length-turns);
          areas = omega (arith, g.area_room);
          some = some;
          within = g.within i h;
          keyed = within;
          turned = omega (arith, turn-filled i h, (least-rotation P (omega arith)).within);
          half = subst (HalfOf (get_or areas i nan)) (sym (doubled-half half)) half;
        }

    -- so are all, and no two begin with the same half-edge
    pub all-filled : AllStand filled count
    all-filled = record { stands = stands-filled; apart = g.apart }

    -- the place of ring i in the order is its face number
    place-number : (i : ℕ) → i < count → index_of i (in_order_lem filled count) ≡ face_number_lem (rings_at half_edges_lem firsts lengths count source X Y) (R i)
    unfolding in_order_lem before face_number_lem
    place-number i h =
        index_sorted (λ j. j < count) (before filled) (before-order filled count all-filled) count i (λ j l. l) h
        ∙ ap length (pick_agree (λ j. before filled j i) (λ j. face_before_lem (R j) (R i)) (upto count)
        (λ j m. ap₂ face_before_lem (ring-filled j (upto-below count j m)) (ring-filled i h)))
        ∙ sym (how_many_lem (λ s. face_before_lem s (R i)) R (upto count))

    -- the places of all rings are the face numbers
    pub places-numbers : map (λ i. index_of i (in_order_lem filled count)) (upto count) ≡ face_numbers (rings_at half_edges_lem firsts lengths count source X Y)
    places-numbers =
        row_same (λ i. index_of i (in_order_lem filled count)) (face_number_lem (rings_at half_edges_lem firsts lengths count source X Y)) R count place-number

-- ---- the rings of a state

-- a ring of a state is one of its tables
pub ring_of-state : (s : State) (ring : List ℕ) → ring_of (point_of s) (node_key s) (arrangement s) ring ≡ ring_of (point_in s.node_x s.node_y) (key_in_lem s.node_x s.node_y) (origins s.source) ring
unfolding ring_of doubled_area_lem face_key point_of node_key arrangement
ring_of-state s ring = refl
