-- The loop over the half-edges that lists a ring from each one not seen yet, and what its lists say.
use Prim.Native.Nat.{ℕ, suc, ◌+◌, ◌-◌, ◌*◌, ◌<◌, ◌≤◌}
use native.Mathlib.Omega.{arith}
use native.Mathlib.Numerals.{add-one}
use native.Mathlib.Nat.{zero-add, add-zero}
use mathlib.Core.Path.{◌≡◌, refl, sym, ap, ap₂, ◌∙◌, subst}
use mathlib.Core.Bool.{Bool, true, false}
use mathlib.Core.List.{List, [], ◌∷◌, ◌++◌, map, map-append, append-nil}
use lib.ListN.{length, get_or, set, drop, replicate, length-append, length-set, length-map, length-replicate, get_or-append, replicate-append-replicate}
use lib.Seq.{set-append_left, drop_at, sets}
use lib.Dec.{ltb}
use lib.Ieee.{Float, nan}
use Rattle.lists.specs.Lists.{In, below, flatten, over}
use Rattle.lists.proofs.Counts.{by_test, by_lt, bit_le, true_is_false, in_head, in_tail, below_le, below_mono, flatten-append}
use Rattle.lists.proofs.Sums.{pigeonhole}
use Rattle.rules.specs.Cycles.{cycle, is_start, lowest, halves}
use Rattle.rules.specs.Split.{split_successor, minimal_rings}
use Rattle.rules.specs.Sane.{Sane, Live, Permutes}
use Rattle.rules.specs.State.{arrangement_in}
use Rattle.rules.proofs.CycleLaws.{cycle-live}
use Rattle.rules.proofs.Partition.{passed-live, passed-other}
use Rattle.rules.proofs.Marking.{mark, stamp}
use Rattle.rules.proofs.Sweep.{Swept, sweep, sweep_new, sweep_inactive, sweep_has, sweep_done, sweep_cycles, cycle_stamp}
use Rattle.rules.proofs.Permuting.{permutes-same, cycles_agree}
use Rattle.rules.proofs.Rings.{minimal_rings_are, split-permutes}
use Rattle.stars.specs.Groups.{unmarked}
use Rattle.ring_tally.specs.Keys.{keys_y, keys_put, Keyed}
use Rattle.ring_tally.specs.Tallies.{tally_of}
use Rattle.ring_tally.specs.Sides.{number_in, shown_in}
use Rattle.splitting.specs.Splits.{entry_of}
use Rattle.rings.specs.Listing.{table_rings, first_places, size_of, RingRows, row_put, RowsRoom, stamped_at, WalkedRing, Listed}
use Rattle.ring_tally.specs.declared.tally.Tally.{Tally}
use Rattle.rings.proofs.Entries.{over-set, over_sets}
use Rattle.rings.proofs.Keying.{keys_more, keys-stand}

-- ---- lists

-- marked as the rules' procedure marks
mark_stamped : (l : List ℕ) (a : Bool) (v : List Bool) → mark l a v ≡ stamped_at l a v
mark_stamped [] a v = refl
mark_stamped (x ∷ l) a v = mark_stamped l a (set v x a)

-- the length stays
pub length_stamped : (l : List ℕ) (a : Bool) (v : List Bool) → length (stamped_at l a v) ≡ length v
length_stamped [] a v = refl
length_stamped (x ∷ l) a v = length_stamped l a (set v x a) ∙ length-set v x a

-- places in the front are marked there
stamped_front : (l : List ℕ) (a : Bool) (front rest : List Bool) → ((h : ℕ) → In h l → h < length front)
    → stamped_at l a (front ++ rest) ≡ stamped_at l a front ++ rest
stamped_front [] a front rest low = refl
stamped_front (h ∷ l) a front rest low =
    ap (stamped_at l a) (set-append_left front rest h a (low h (in_head h h l refl)))
    ∙ stamped_front l a (set front h a) rest (λ x m. rw (length-set front h a) (low x (in_tail x h l m)))

-- the rings with one more
flatten_more : (rs : List (List ℕ)) (r : List ℕ) → flatten (rs ++ (r ∷ [])) ≡ flatten rs ++ r
flatten_more rs r = flatten-append rs (r ∷ []) ∙ ap (λ l. flatten rs ++ l) (append-nil r)

-- as many places as rings
pub length-places : (at : ℕ) (rs : List (List ℕ)) → length (first_places at rs) ≡ length rs
length-places at [] = refl
length-places at (r ∷ rs) = ap suc (length-places (at + length r) rs)

-- the place of one more
places_more : (at : ℕ) (rs : List (List ℕ)) (r : List ℕ) → first_places at (rs ++ (r ∷ [])) ≡ first_places at rs ++ ((at + length (flatten rs)) ∷ [])
places_more at [] r = ap (λ k. k ∷ []) (sym (add-zero at))
places_more at (x ∷ rs) r =
    let e : at + length x + length (flatten rs) ≡ at + length (x ++ flatten rs) = omega (arith, length-append x (flatten rs)) in
    ap (λ l. at ∷ l) (places_more (at + length x) rs r ∙ ap (λ k. first_places (at + length x) rs ++ (k ∷ [])) e)

-- what is said of each ring, with one more written behind the others
over-ring : {B : Type 0} (F : List ℕ → B) (d : B) (rs : List (List ℕ)) (r : List ℕ) (out : List B) (i : ℕ) (v : B) → i ≡ length rs → length rs < length out → v ≡ F r
    → set (over (map F rs) out) i v ≡ over (map F (rs ++ (r ∷ []))) out
over-ring F d rs r out i v e h q =
    ap (λ k. set (over (map F rs) out) k v) (e ∙ sym (length-map rs F))
    ∙ over-set d (map F rs) out v (omega (arith, length-map rs F))
    ∙ ap (λ z. over (map F rs ++ (z ∷ [])) out) q
    ∙ ap (λ z. over z out) (sym (map-append F rs (r ∷ [])))

-- ---- the loop

module _ (edges : ℕ) (next source : List ℕ) (marks : List Bool) (xs ys : List Float) (seen₀ : List Bool) (halves₀ keys₀ : List ℕ) (rows₀ : RingRows) where
  -- what the procedure has after k half-edges
  abbrev pub after : ℕ → Swept
  after k = sweep (entry_of next) (2 * edges) (unmarked marks) k

  -- what holds after k half-edges
  pub record Held (seen : List Bool) (halves keys : List ℕ) (rows : RingRows) (count at k : ℕ) : Type 0 where
    pub inside : k ≤ 2 * edges
    pub marked : seen ≡ (after k).seen ++ drop (2 * edges) seen₀
    pub listed : Listed (after k).found source xs ys halves₀ rows₀ halves rows count
    pub keyed : keys ≡ keys_put keys_y source xs ys keys₀ 0 (flatten (after k).found)
    pub place : at ≡ length (flatten (after k).found)

  -- at first nothing is seen or listed
  pub held_first : 2 * edges ≤ length seen₀ → seen₀ ≡ replicate (length seen₀) false → Held seen₀ halves₀ keys₀ rows₀ 0 0 0
  held_first l e =
      let n : ℕ = 2 * edges in
      let m : n + (length seen₀ - n) ≡ length seen₀ = omega arith in
      let front : seen₀ ≡ replicate n false ++ replicate (length seen₀ - n) false =
      e ∙ ap (λ k. replicate k false) (sym m) ∙ sym (replicate-append-replicate n (length seen₀ - n) false) in
      record {
        inside = omega arith;
        marked = front ∙ ap (λ r. replicate n false ++ r)
            (sym (ap (drop n) front ∙ drop_at (replicate n false) (replicate (length seen₀ - n) false) n (length-replicate n false)));
        listed = record { halves = refl; places = refl; sizes = refl; sides = refl; areas = refl; number = refl };
        keyed = refl;
        place = refl;
      }

  module _ (t : Permutes (entry_of next) (2 * edges) (unmarked marks)) where
    -- which half-edges were seen, of all
    size-seen : (k : ℕ) → k ≤ 2 * edges → length (after k).seen ≡ 2 * edges
    size-seen k h = (sweep_done (entry_of next) (2 * edges) (unmarked marks) t k h).size

    -- whether k was seen is the procedure's answer
    held_at : (seen : List Bool) (halves keys : List ℕ) (rows : RingRows) (count at k : ℕ) → k < 2 * edges → Held seen halves keys rows count at k
        → get_or seen k false ≡ get_or (after k).seen k false
    held_at seen halves keys rows count at k h r =
        ap (λ l. get_or l k false) r.marked ∙ get_or-append (after k).seen (drop (2 * edges) seen₀) false k (omega (arith, size-seen k (omega arith)))

    -- the rings found have no more half-edges than there are
    found-total : (k : ℕ) → k ≤ 2 * edges → length (flatten (after k).found) ≤ 2 * edges
    found-total k h =
        let f = entry_of next in
        let n : ℕ = 2 * edges in
        let on = unmarked marks in
        rw (sweep_done f n on t k h).found (pigeonhole n (flatten (map (cycle f n) (below (is_start f n on) k)))
        (λ v l. passed-other f n on t v k (λ a. omega arith) h)
        (λ v. by_lt v n
        (λ l. by_test (on v)
        (λ e. omega (arith, passed-live f n on t v k (l, e) h, bit_le (ltb (lowest f n v) k)))
        (λ e. omega (arith, passed-other f n on t v k (λ a. true_is_false (sym a.1 ∙ e)) h)))
        (λ l. omega (arith, passed-other f n on t v k (λ a. omega arith) h))))

    -- and there are no more rings than half-edges passed
    found-few : (k : ℕ) → k ≤ 2 * edges → length (after k).found ≤ k
    found-few k h =
        let f = entry_of next in
        let n : ℕ = 2 * edges in
        let on = unmarked marks in
        rw (sweep_done f n on t k h).found (omega (arith, length-map (below (is_start f n on) k) (cycle f n), below_le (is_start f n on) k))

    -- nor more than rings in all
    found_within : (k : ℕ) → k ≤ 2 * edges → length (after k).found ≤ length (table_rings edges next marks)
    found_within k h =
        let f = entry_of next in
        let n : ℕ = 2 * edges in
        let on = unmarked marks in
        rw (sweep_done f n on t k h).found (omega (arith, length-map (below (is_start f n on) k) (cycle f n), length-map (below (is_start f n on) n) (cycle f n), below_mono (is_start f n on) k n h))

    -- so the count is small too
    pub held-few : (seen : List Bool) (halves keys : List ℕ) (rows : RingRows) (count at k : ℕ) → Held seen halves keys rows count at k → count ≤ k
    held-few seen halves keys rows count at k r = omega (arith, r.listed.number, found-few k r.inside)

    module _ (seen : List Bool) (halves keys : List ℕ) (rows : RingRows) (count at k : ℕ) (h : k < 2 * edges) (r : Held seen halves keys rows count at k) where
      -- a half-edge that was not seen: its ring is found
      module _ (a : unmarked marks k ≡ true) (e : get_or seen k false ≡ false) where
        -- the procedure finds it too
        found-new : after (suc k) ≡ record { found = (after k).found ++ (cycle (entry_of next) (2 * edges) k ∷ []); seen = stamp (entry_of next) true (2 * edges) k k (after k).seen }
        found-new = sweep_new (entry_of next) (2 * edges) (unmarked marks) k a (sym (held_at seen halves keys rows count at k h r) ∙ e)

        -- there is room for it
        pub held-room : at + length (cycle (entry_of next) (2 * edges) k) ≤ 2 * edges
        held-room =
            let ring = cycle (entry_of next) (2 * edges) k in
            omega (
              arith,
              r.place,
              found-total (suc k) h,
              ap (λ s. length (flatten s.found)) found-new,
              ap length (flatten_more (after k).found ring),
              length-append (flatten (after k).found) ring,
            )

        -- and a row
        pub held-row : count < length (table_rings edges next marks)
        held-row = omega (arith, r.listed.number, found_within (suc k) h, ap (λ s. length s.found) found-new, length-append (after k).found (cycle (entry_of next) (2 * edges) k ∷ []))

        -- it is listed behind the others
        pub held_new : 2 * edges ≤ length halves₀ → RowsRoom (length (table_rings edges next marks)) rows₀
            → (seen' : List Bool) (halves' keys' : List ℕ) (rows' : RingRows) (tally : Tally) (count' end : ℕ) → WalkedRing (entry_of next) (2 * edges) k at source xs ys seen halves keys seen' halves' keys' tally
            → rows' ≡ row_put count at tally rows → count' ≡ count + 1 → end ≡ at + tally.count → Held seen' halves' keys' rows' count' end (k + 1)
        held_new in_halves in_rows seen' halves' keys' rows' tally count' end w p c q =
            let f = entry_of next in
            let n : ℕ = 2 * edges in
            let ring = cycle f n k in
            let rs = (after k).found in
            let o = r.listed in
            let few : length rs < length (table_rings edges next marks) = omega (arith, held-row, o.number) in
            let written : rows' ≡ row_put count at (tally_of source xs ys ring) rows = p ∙ ap (λ z. row_put count at z rows) w.tallied in
            let long : end ≡ at + length ring = q ∙ ap (λ z. at + z.count) w.tallied in
            record {
              inside = omega arith;
              marked = rw (add-one k, found-new) (w.marks ∙ ap (stamped_at ring true) r.marked
                  ∙ stamped_front ring true (after k).seen (drop n seen₀)
                  (λ x m. rw (size-seen k r.inside) (cycle-live f n (unmarked marks) t k x (h, a) m).0)
                  ∙ ap (λ z. z ++ drop n seen₀) (sym (cycle_stamp f n true k (after k).seen ∙ mark_stamped ring true (after k).seen)));
              listed = rw (add-one k, found-new) (record {
                halves = w.lists ∙ ap₂ (λ y z. sets y z ring) o.halves r.place
                    ∙ over_sets 0 (flatten rs) ring halves₀ (omega (arith, held-room, r.place)) ∙ ap (λ z. over z halves₀) (sym (flatten_more rs ring));
                places = ap (λ z. z.first) written ∙ ap₂ (λ y z. set y z at) o.places (o.number ∙ sym (length-places 0 rs))
                    ∙ over-set 0 (first_places 0 rs) rows₀.first at (omega (arith, length-places 0 rs, in_rows.in_first))
                    ∙ ap (λ z. over (first_places 0 rs ++ (z ∷ [])) rows₀.first) (r.place ∙ sym (zero-add (length (flatten rs))))
                    ∙ ap (λ z. over z rows₀.first) (sym (places_more 0 rs ring));
                sizes = ap (λ z. z.size) written ∙ ap (λ y. set y count (length ring)) o.sizes
                    ∙ over-ring size_of 0 rs ring rows₀.size count (length ring) o.number (omega (arith, in_rows.in_size)) refl;
                sides = ap (λ z. z.side) written ∙ ap (λ y. set y count (number_in source xs ys ring)) o.sides
                    ∙ over-ring (number_in source xs ys) 0 rs ring rows₀.side count (number_in source xs ys ring) o.number (omega (arith, in_rows.in_side)) refl;
                areas = ap (λ z. z.area) written ∙ ap (λ y. set y count (shown_in source xs ys ring)) o.areas
                    ∙ over-ring (shown_in source xs ys) nan rs ring rows₀.area count (shown_in source xs ys ring) o.number (omega (arith, in_rows.in_area)) refl;
                number = omega (arith, c, o.number, length-append rs (ring ∷ []));
              });
              keyed = rw (add-one k, found-new) (w.keyed
                  ∙ ap₂ (λ y z. keys_put keys_y source xs ys y z ring) r.keyed (r.place ∙ sym (zero-add (length (flatten rs))))
                  ∙ keys_more keys_y source xs ys keys₀ 0 (flatten rs) ring ∙ ap (keys_put keys_y source xs ys keys₀ 0) (sym (flatten_more rs ring)));
              place = rw (add-one k, found-new) (omega (arith, long, r.place, ap length (flatten_more rs ring), length-append (flatten rs) ring));
            }

      -- nothing changes
      held_same : (seen' : List Bool) (halves' keys' : List ℕ) (rows' : RingRows) (count' at' : ℕ) → after (suc k) ≡ after k
          → seen' ≡ seen → halves' ≡ halves → keys' ≡ keys → rows' ≡ rows → count' ≡ count → at' ≡ at → Held seen' halves' keys' rows' count' at' (k + 1)
      held_same seen' halves' keys' rows' count' at' s e₁ e₂ e₆ e₃ e₄ e₅ =
          let o = r.listed in
          record {
            inside = omega arith;
            marked = rw (add-one k, s) (e₁ ∙ r.marked);
            listed = rw (add-one k, s) (record {
              halves = e₂ ∙ o.halves;
              places = ap (λ z. z.first) e₃ ∙ o.places;
              sizes = ap (λ z. z.size) e₃ ∙ o.sizes;
              sides = ap (λ z. z.side) e₃ ∙ o.sides;
              areas = ap (λ z. z.area) e₃ ∙ o.areas;
              number = e₄ ∙ o.number;
            });
            keyed = rw (add-one k, s) (e₆ ∙ r.keyed);
            place = rw (add-one k, s) (e₅ ∙ r.place);
          }

      -- a marked half-edge begins no ring
      pub held-marked : (seen' : List Bool) (halves' keys' : List ℕ) (rows' : RingRows) (count' at' : ℕ) → unmarked marks k ≡ false
          → seen' ≡ seen → halves' ≡ halves → keys' ≡ keys → rows' ≡ rows → count' ≡ count → at' ≡ at → Held seen' halves' keys' rows' count' at' (k + 1)
      held-marked seen' halves' keys' rows' count' at' a = held_same seen' halves' keys' rows' count' at' (sweep_inactive (entry_of next) (2 * edges) (unmarked marks) k a)

      -- nor does one that was seen
      pub held-has : (seen' : List Bool) (halves' keys' : List ℕ) (rows' : RingRows) (count' at' : ℕ) → unmarked marks k ≡ true → get_or seen k false ≡ true
          → seen' ≡ seen → halves' ≡ halves → keys' ≡ keys → rows' ≡ rows → count' ≡ count → at' ≡ at → Held seen' halves' keys' rows' count' at' (k + 1)
      held-has seen' halves' keys' rows' count' at' a e =
          held_same seen' halves' keys' rows' count' at' (sweep_has (entry_of next) (2 * edges) (unmarked marks) k a (sym (held_at seen halves keys rows count at k h r) ∙ e))

    -- at the end the keys of the rings stand in the list
    pub held-keys : 2 * edges ≤ keys_y → keys_y + 2 * edges ≤ length keys₀ → (seen : List Bool) (halves keys : List ℕ) (rows : RingRows) (count at k : ℕ) → k ≡ 2 * edges → Held seen halves keys rows count at k
        → Keyed keys_y (flatten (table_rings edges next marks)) source xs ys keys₀ keys
    held-keys few room seen halves keys rows count at k e r =
        let all : (after k).found ≡ table_rings edges next marks = ap (λ i. (after i).found) e ∙ sweep_cycles (entry_of next) (2 * edges) (unmarked marks) t in
        let total : length (flatten (table_rings edges next marks)) ≤ 2 * edges = subst (λ rs. length (flatten rs) ≤ 2 * edges) all (found-total k r.inside) in
        subst (Keyed keys_y (flatten (table_rings edges next marks)) source xs ys keys₀)
        (sym (r.keyed ∙ ap (λ rs. keys_put keys_y source xs ys keys₀ 0 (flatten rs)) all))
        (keys-stand keys_y source xs ys keys₀ (flatten (table_rings edges next marks)) (omega arith) (omega arith))

    -- and the rings are listed
    pub held_all : (seen : List Bool) (halves keys : List ℕ) (rows : RingRows) (count at k : ℕ) → k ≡ 2 * edges → Held seen halves keys rows count at k
        → Listed (table_rings edges next marks) source xs ys halves₀ rows₀ halves rows count
    held_all seen halves keys rows count at k e r =
        let all : (after k).found ≡ table_rings edges next marks = ap (λ i. (after i).found) e ∙ sweep_cycles (entry_of next) (2 * edges) (unmarked marks) t in
        subst (λ rs. Listed rs source xs ys halves₀ rows₀ halves rows count) all r.listed

-- ---- for callers: after splitting

module _ (nodes edges : ℕ) (source : List ℕ) (marks : List Bool) (star next : List ℕ) (sane : Sane (arrangement_in nodes edges source marks star))
    (split : (h : ℕ) → Live (2 * edges) (unmarked marks) h → get_or next h 0 ≡ split_successor (arrangement_in nodes edges source marks star) h) where
  -- the table permutes the active half-edges
  pub table-permutes : Permutes (entry_of next) (2 * edges) (unmarked marks)
  table-permutes =
      let g = arrangement_in nodes edges source marks star in
      permutes-same (split_successor g) (entry_of next) (halves g) (unmarked marks) (split-permutes g sane) (λ h a. sym (split h a))

  -- and its rings are the rings of the arrangement
  pub table_rings_lem : table_rings edges next marks ≡ minimal_rings (arrangement_in nodes edges source marks star)
  table_rings_lem =
      let g = arrangement_in nodes edges source marks star in
      sym (minimal_rings_are g ∙ cycles_agree (split_successor g) (entry_of next) (halves g) (unmarked marks) (split-permutes g sane) (λ h a. sym (split h a)))
