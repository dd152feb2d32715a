-- A new edge with its first id, and a new id behind an edge, keep the lists sound; and what ids each edge then has.
use Prim.Native.Nat.{ℕ, suc, ◌+◌, ◌<◌, ◌≤◌, min}
use native.Mathlib.Omega.{arith}
use mathlib.Core.Path.{◌≡◌, refl, sym, ap, ap₂, ◌∙◌}
use mathlib.Core.Bool.{cond}
use mathlib.Core.List.{List, [], ◌∷◌, map}
use lib.Dec.{eqb}
use lib.ListN.{length, get_or, set}
use lib.Seq.{get_or-set_same, get_or-set_other}
use borrow.Author.Tests.{eq-eqb, ne_eqb}
use Rattle.lists.specs.Lists.{upto, bit, count_of, In, flatten, rising}
use Rattle.lists.proofs.Counts.{by_lt, by_eq, bit-other, bit_true, count-append}
use Rattle.lists.proofs.Sums.{length-same}
use Rattle.lists.proofs.Rising.{placed, count-placed, map-placed, rising-placed, flatten-upto, flatten_agree, count_more, count-part, count_none, count_two}
use Rattle.rules.specs.LineIds.{Tracings, list_end, places_of, ids_of, used_places, start_list, enter_id_lem}
use Rattle.rules.proofs.PlaceChains.{chain_other}
use Rattle.rules.proofs.ListSoundness.{SoundLists}
use Rattle.rules.proofs.Listed.{Listed, sound-listed, listed-sound, ids_are, used_are, Relisting, relisted, relisted_counts, relisted_others, relisted_ids}
use Rattle.rules.proofs.Entering.{Entered, enter_entered}

-- places in use are in the table
pub used-within : (pairs : ℕ) (t : Tracings) (line_id : List ℕ) (edges : ℕ) → SoundLists pairs t line_id edges → (q : ℕ) → In q (used_places pairs t edges) → q < pairs
used-within pairs t line_id edges ok q m = by_lt q pairs (λ h. h) (λ h. absurd (omega (
  arith,
  ap (count_of q) (used_are pairs t edges),
  count_none (places_of pairs t) edges q (λ k l. by_eq (count_of q (places_of pairs t k)) 0 (λ e. e) (λ d. absurd (omega (arith, (ok.each k l).within q (omega arith))))),
)))

-- one place more: one more is in use
pub used-length : (pairs x : ℕ) (used used' : List ℕ) → ((q : ℕ) → In q used → q < pairs) → x < pairs → ((q : ℕ) → count_of q used' ≡ bit (eqb q x) + count_of q used)
    → length used' ≡ suc (length used)
used-length pairs x used used' within lx counts =
    length-same pairs used' (x ∷ used)
    (λ q h. by_eq (count_of q used) 0 (λ z. omega (arith, counts q, bit-other q x (λ e. omega arith))) (λ d. absurd (omega (arith, within q (omega arith)))))
    counts

module _ (pairs : ℕ) (small : pairs ≤ list_end) (t : Tracings) (line_id : List ℕ) (edges i x : ℕ) (ok : SoundLists pairs t line_id edges)
    (lx : x < pairs) (free : count_of x (used_places pairs t edges) ≡ 0) (room_id : pairs ≤ length t.id) (room_next : pairs ≤ length t.next) where
  -- the places of each edge's list
  abbrev F : ℕ → List ℕ
  F = places_of pairs t

  -- each edge has its list
  old : Listed pairs t line_id edges F
  old = sound-listed pairs small t line_id edges ok

  -- the new place is in none of them
  out : count_of x (flatten (map F (upto edges))) ≡ 0
  out = ap (count_of x) (sym (used_are pairs t edges)) ∙ free

  -- not in that of edge k
  out_of : (k : ℕ) → k < edges → count_of x (F k) ≡ 0
  out_of k l = omega (arith, count-part F edges k x l, out)

  -- what a list has, no other has
  no_other : (j k q : ℕ) → j < edges → k < edges → (j ≡ k → ⊥) → In q (F j) → count_of q (F k) ≡ 0
  no_other j k q lj lk d m = by_lt j k
      (λ h. omega (arith, count_two F edges j k q h lk, old.apart q))
      (λ h. omega (arith, count_two F edges k j q (omega arith) lj, old.apart q))

  -- ---- a new edge

  module _ (room_place : edges < length t.place) (room_line : edges < length line_id) where
    -- the tables with the first pair of the new edge
    abbrev begun : Tracings
    begun = start_list edges i x list_end t

    -- the new edge's list is its one pair
    begun_relisting : Relisting pairs t begun line_id (set line_id edges i) edges (suc edges) edges x i F (x ∷ [])
    begun_relisting =
        let here = get_or-set_same t.place edges x list_end room_place in
        let at = get_or-set_same t.id x i 0 (omega arith) in
        let L : ℕ → List ℕ = λ k. cond (eqb k edges) (x ∷ []) (F k) in
        record {
          others = λ k h d. omega arith;
          old_place = λ k d. get_or-set_other t.place edges k x list_end d;
          old_id = refl;
          old_line = λ k d. get_or-set_other line_id edges k i 0 d;
          old_chain = λ k l d. chain_other t.next x list_end (get_or t.place k list_end) (F k) (out_of k l) (old.chain k l);
          new_chain = (here, (λ e. omega arith), get_or-set_same t.next x list_end list_end (omega arith));
          new_first = omega arith;
          new_starts = ap (λ p. get_or (set t.id x i) p 0) here ∙ at ∙ sym (get_or-set_same line_id edges i 0 room_line);
          new_within = λ q m. let e : q ≡ x = bit_true q x (omega arith) in omega arith;
          new_rises = refl;
          counts = λ q.
              ap (count_of q) (flatten-upto L edges) ∙ count-append q (flatten (map L (upto edges))) (L edges)
              ∙ ap₂ (λ a b. count_of q a + count_of q b)
              (flatten_agree L F edges (λ k l. ap (λ b. cond b (x ∷ []) (F k)) (ne_eqb k edges (λ e. omega arith))))
              (ap (λ b. cond b (x ∷ []) (F edges)) (eq-eqb edges edges refl))
              ∙ omega arith;
        }

    -- the lists stay sound
    pub begun-sound : SoundLists pairs begun (set line_id edges i) (suc edges)
    begun-sound = listed-sound pairs small begun (set line_id edges i) (suc edges) (λ k. cond (eqb k edges) (x ∷ []) (F k))
        (relisted pairs t begun line_id (set line_id edges i) edges (suc edges) edges x i F (x ∷ []) small old out begun_relisting)

    -- one place more is in use
    pub begun-counts : (q : ℕ) → count_of q (used_places pairs begun (suc edges)) ≡ bit (eqb q x) + count_of q (used_places pairs t edges)
    begun-counts = relisted_counts pairs t begun line_id (set line_id edges i) edges (suc edges) edges x i F (x ∷ []) small old out begun_relisting

    -- the other edges keep their ids
    pub begun-others : (k : ℕ) → k < edges → ids_of pairs begun k ≡ ids_of pairs t k
    begun-others k l =
        relisted_others pairs t begun line_id (set line_id edges i) edges (suc edges) edges x i F (x ∷ []) small old out begun_relisting k (omega arith) (λ e. omega arith)

    -- the new one has its own
    pub begun-ids : ids_of pairs begun edges ≡ i ∷ []
    begun-ids =
        relisted_ids pairs t begun line_id (set line_id edges i) edges (suc edges) edges x i F (x ∷ []) small old out begun_relisting (omega arith)
        ∙ ap (λ a. a ∷ []) (get_or-set_same t.id x i 0 (omega arith))

  -- ---- a new id behind edge k₀

  module _ (k₀ : ℕ) (lk : k₀ < edges) (new : count_of i (ids_of pairs t k₀) ≡ 0) (room_place : edges ≤ length t.place) (room_line : edges ≤ length line_id) where
    -- the tables with the new pair
    abbrev more : Tracings
    more = enter_id_lem pairs k₀ i x t

    -- the line id is the lowest
    abbrev lines : List ℕ
    lines = set line_id k₀ (min i (get_or line_id k₀ 0))

    -- the new list of the edge
    abbrev L : List ℕ
    L = placed (λ q. get_or t.id q 0) i x (F k₀)

    -- what is left of the tables
    pub entered-tables : Entered t more k₀ i x (F k₀)
    entered-tables = enter_entered t k₀ i x (λ e. omega arith) (omega arith) (omega arith) (omega arith) pairs
        (λ e. omega (arith, old.first k₀ lk))
        (λ q m. omega (arith, old.within k₀ lk q m))
        (λ q. omega (arith, count-part F edges k₀ q lk, old.apart q))
        (out_of k₀ lk)
        (old.chain k₀ lk)

    -- its ids: the new one behind the lower ones
    new-ids : map (λ q. get_or more.id q 0) L ≡ placed (λ y. y) i i (ids_of pairs t k₀)
    new-ids =
        let e = entered-tables in
        map-placed (λ q. get_or t.id q 0) (λ q. get_or more.id q 0) i x (F k₀)
        (ap (λ z. get_or z x 0) e.ids ∙ get_or-set_same t.id x i 0 (omega arith))
        (λ q m. ap (λ z. get_or z q 0) e.ids ∙ get_or-set_other t.id x q i 0 (λ z. omega (arith, out_of k₀ lk, ap (λ y. count_of y (F k₀)) z)))
        ∙ ap (placed (λ y. y) i i) (sym (ids_are pairs t k₀))

    -- the edge's list has one place more
    more_relisting : Relisting pairs t more line_id lines edges edges k₀ x i F L
    more_relisting =
        let e = entered-tables in
        record {
          others = λ k h d. h;
          old_place = e.places;
          old_id = e.ids;
          old_line = λ k d. get_or-set_other line_id k₀ k (min i (get_or line_id k₀ 0)) 0 d;
          old_chain = λ k l d. e.others (get_or t.place k list_end) (F k) (out_of k l) (λ q m. no_other k₀ k q lk l (λ z. d (sym z)) m) (old.chain k l);
          new_chain = e.chain;
          new_first = e.first pairs lx (old.first k₀ lk);
          new_starts = e.lowest ∙ ap (min i) (old.starts k₀ lk) ∙ sym (get_or-set_same line_id k₀ (min i (get_or line_id k₀ 0)) 0 (omega arith));
          new_within = λ q m. by_eq q x
              (λ z. omega arith)
              (λ d. old.within k₀ lk q (omega (arith, count-placed (λ p. get_or t.id p 0) i x q (F k₀), bit-other q x d)));
          new_rises = ap rising new-ids ∙ rising-placed i (ids_of pairs t k₀) new (ok.each k₀ lk).rises;
          counts = λ q. count_more (λ k. cond (eqb k k₀) L (F k)) F edges k₀ x q lk
              (λ j l d. ap (λ b. cond b L (F j)) (ne_eqb j k₀ d))
              (ap (count_of q) (ap (λ b. cond b L (F k₀)) (eq-eqb k₀ k₀ refl)) ∙ count-placed (λ p. get_or t.id p 0) i x q (F k₀));
        }

    -- the lists stay sound
    pub more_sound : SoundLists pairs more lines edges
    more_sound = listed-sound pairs small more lines edges (λ k. cond (eqb k k₀) L (F k)) (relisted pairs t more line_id lines edges edges k₀ x i F L small old out more_relisting)

    -- one place more is in use
    pub more_counts : (q : ℕ) → count_of q (used_places pairs more edges) ≡ bit (eqb q x) + count_of q (used_places pairs t edges)
    more_counts = relisted_counts pairs t more line_id lines edges edges k₀ x i F L small old out more_relisting

    -- the other edges keep their ids
    pub more_others : (k : ℕ) → k < edges → (k ≡ k₀ → ⊥) → ids_of pairs more k ≡ ids_of pairs t k
    more_others = relisted_others pairs t more line_id lines edges edges k₀ x i F L small old out more_relisting

    -- this one has one more
    pub more_ids : ids_of pairs more k₀ ≡ placed (λ y. y) i i (ids_of pairs t k₀)
    more_ids = relisted_ids pairs t more line_id lines edges edges k₀ x i F L small old out more_relisting lk ∙ new-ids
