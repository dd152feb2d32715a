-- Which places each edge's list has, and the soundness of the lists from it.
use Prim.Native.Nat.{ℕ, zero, suc, ◌+◌, ◌<◌, ◌≤◌}
use native.Mathlib.Omega.{arith}
use mathlib.Core.Path.{◌≡◌, refl, sym, ap, subst, ◌∙◌}
use mathlib.Core.Bool.{true, cond}
use mathlib.Core.List.{List, [], ◌∷◌, map}
use lib.Dec.{eqb}
use lib.ListN.{length, get_or, set}
use lib.Seq.{get_or-set_other}
use borrow.Author.Tests.{eq-eqb, ne_eqb}
use Rattle.lists.specs.Lists.{upto, bit, count_of, In, Distinct, last_of, flatten, rising}
use Rattle.lists.proofs.Counts.{by_eq, bit-same, bit-other}
use Rattle.lists.proofs.Sums.{pigeonhole}
use Rattle.lists.proofs.Rising.{flatten_agree, count-part, map_agree}
use Rattle.rules.specs.LineIds.{Tracings, list_end, places_from, places_of, ids_of, used_places}
use Rattle.rules.proofs.PlaceChains.{Chain, chain_places, places_chain, chain_ends, chain_in}
use Rattle.rules.proofs.ListSoundness.{SoundLists}

-- each of so many edges has its list of places
pub record Listed (pairs : ℕ) (t : Tracings) (line_id : List ℕ) (edges : ℕ) (F : ℕ → List ℕ) : Type 0 where
  pub chain : (k : ℕ) → k < edges → Chain t.next (get_or t.place k list_end) (F k)
  pub first : (k : ℕ) → k < edges → get_or t.place k list_end < pairs
  pub starts : (k : ℕ) → k < edges → get_or t.id (get_or t.place k list_end) 0 ≡ get_or line_id k 0
  pub within : (k : ℕ) → k < edges → (q : ℕ) → In q (F k) → q < pairs
  pub rises : (k : ℕ) → k < edges → rising (map (λ q. get_or t.id q 0) (F k)) ≡ true
  pub apart : Distinct (flatten (map F (upto edges)))

-- the places and the ids, shut
pub places_are : (pairs : ℕ) (t : Tracings) (k : ℕ) → places_of pairs t k ≡ places_from pairs t.next (get_or t.place k list_end)
unfolding places_of
places_are pairs t k = refl

-- the ids are those at the places
pub ids_are : (pairs : ℕ) (t : Tracings) (k : ℕ) → ids_of pairs t k ≡ map (λ q. get_or t.id q 0) (places_of pairs t k)
unfolding ids_of
ids_are pairs t k = refl

-- the places in use are those of all edges
pub used_are : (pairs : ℕ) (t : Tracings) (edges : ℕ) → used_places pairs t edges ≡ flatten (map (places_of pairs t) (upto edges))
unfolding used_places
used_are pairs t edges = refl

-- ---- from the soundness of the lists

-- a walk that starts in the table and ends is a chain
pub ends_chain : (fuel : ℕ) (next : List ℕ) (p : ℕ) → p < fuel → (p ≡ list_end → ⊥)
    → get_or next (last_of list_end (places_from fuel next p)) list_end ≡ list_end → Chain next p (places_from fuel next p)
ends_chain zero next p l d e = absurd (omega arith)
ends_chain (suc f) next p l d e =
    let q : places_from (suc f) next p ≡ p ∷ places_from f next (get_or next p list_end) = rw (ne_eqb p list_end d) in
    subst (λ ps. Chain next p ps) (sym q)
    (refl, d, places_chain f next p (get_or next p list_end) refl (subst (λ ps. get_or next (last_of list_end ps) list_end ≡ list_end) q e))

module _ (pairs : ℕ) (small : pairs ≤ list_end) (t : Tracings) (line_id : List ℕ) (edges : ℕ) where
  -- sound lists are lists of places
  pub sound-listed : SoundLists pairs t line_id edges → Listed pairs t line_id edges (places_of pairs t)
  sound-listed r = record {
    chain = λ k l.
        let s = r.each k l in
        subst (λ ps. Chain t.next (get_or t.place k list_end) ps) (sym (places_are pairs t k))
        (ends_chain pairs t.next (get_or t.place k list_end) s.first (λ e. omega (arith, s.first))
        (subst (λ ps. get_or t.next (last_of list_end ps) list_end ≡ list_end) (places_are pairs t k) s.ends));
    first = λ k l. (r.each k l).first;
    starts = λ k l. (r.each k l).starts;
    within = λ k l. (r.each k l).within;
    rises = λ k l. ap rising (sym (ids_are pairs t k)) ∙ (r.each k l).rises;
    apart = λ q. subst (λ u. count_of q u ≤ 1) (used_are pairs t edges) (r.apart q);
  }

  -- ---- and back

  module _ (F : ℕ → List ℕ) (r : Listed pairs t line_id edges F) where
    -- no list holds more places than there are
    pub listed-short : (k : ℕ) → k < edges → length (F k) ≤ pairs
    listed-short k l = pigeonhole pairs (F k)
        (λ q h. by_eq (count_of q (F k)) 0 (λ e. e) (λ d. absurd (omega (arith, r.within k l q (omega arith)))))
        (λ q. omega (arith, count-part F edges k q l, r.apart q))

    -- the walk passes these places
    pub listed-places : (k : ℕ) → k < edges → places_of pairs t k ≡ F k
    listed-places k l = places_are pairs t k ∙ chain_places pairs t.next (get_or t.place k list_end) (F k) (r.chain k l) (listed-short k l)

    -- and these are the places in use
    pub listed-used : used_places pairs t edges ≡ flatten (map F (upto edges))
    listed-used = used_are pairs t edges ∙ flatten_agree (places_of pairs t) F edges listed-places

    -- a chain from within the table ends behind its last place
    listed-ends : (p : ℕ) (ps : List ℕ) → p < pairs → Chain t.next p ps → get_or t.next (last_of list_end ps) list_end ≡ list_end
    listed-ends p [] l c = absurd (omega arith)
    listed-ends p (q ∷ qs) l c = chain_ends t.next q qs c.2

    -- lists of places are sound
    pub listed-sound : SoundLists pairs t line_id edges
    listed-sound = record {
      each = λ k l.
          let e = listed-places k l in
          record {
            first = r.first k l;
            starts = r.starts k l;
            within = λ p m. r.within k l p (subst (λ ps. In p ps) e m);
            rises = ap rising (ids_are pairs t k ∙ ap (map (λ q. get_or t.id q 0)) e) ∙ r.rises k l;
            ends = ap (λ ps. get_or t.next (last_of list_end ps) list_end) e
                ∙ listed-ends (get_or t.place k list_end) (F k) (r.first k l) (r.chain k l);
          };
      apart = λ q. subst (λ u. count_of q u ≤ 1) (sym listed-used) (r.apart q);
    }

-- ---- another list for one edge

-- one list changes
at_one : (P : ℕ → List ℕ → Type 0) (k₀ : ℕ) (L : List ℕ) (F : ℕ → List ℕ) → P k₀ L → ((k : ℕ) → (k ≡ k₀ → ⊥) → P k (F k)) → (k : ℕ) → P k (cond (eqb k k₀) L (F k))
at_one P k₀ L F new old k = by_eq k k₀
    (λ e. rw (eq-eqb k k₀ e) (subst (λ j. P j L) (sym e) new))
    (λ d. rw (ne_eqb k k₀ d) (old k d))

-- what is to be shown where edge k₀ gets the list L, and id i is written at place x, which was free
pub record Relisting (pairs : ℕ) (t t' : Tracings) (line_id line_id' : List ℕ) (edges edges' k₀ x i : ℕ) (F : ℕ → List ℕ) (L : List ℕ) : Type 0 where
  pub others : (k : ℕ) → k < edges' → (k ≡ k₀ → ⊥) → k < edges
  pub old_place : (k : ℕ) → (k ≡ k₀ → ⊥) → get_or t'.place k list_end ≡ get_or t.place k list_end
  pub old_id : t'.id ≡ set t.id x i
  pub old_line : (k : ℕ) → (k ≡ k₀ → ⊥) → get_or line_id' k 0 ≡ get_or line_id k 0
  pub old_chain : (k : ℕ) → k < edges → (k ≡ k₀ → ⊥) → Chain t'.next (get_or t.place k list_end) (F k)
  pub new_chain : Chain t'.next (get_or t'.place k₀ list_end) L
  pub new_first : get_or t'.place k₀ list_end < pairs
  pub new_starts : get_or t'.id (get_or t'.place k₀ list_end) 0 ≡ get_or line_id' k₀ 0
  pub new_within : (q : ℕ) → In q L → q < pairs
  pub new_rises : rising (map (λ q. get_or t'.id q 0) L) ≡ true
  pub counts : (q : ℕ) → count_of q (flatten (map (λ k. cond (eqb k k₀) L (F k)) (upto edges'))) ≡ bit (eqb q x) + count_of q (flatten (map F (upto edges)))

module _ (pairs : ℕ) (t t' : Tracings) (line_id line_id' : List ℕ) (edges edges' k₀ x i : ℕ) (F : ℕ → List ℕ) (L : List ℕ) (small : pairs ≤ list_end)
    (r : Listed pairs t line_id edges F) (free : count_of x (flatten (map F (upto edges))) ≡ 0) (m : Relisting pairs t t' line_id line_id' edges edges' k₀ x i F L) where
  -- the place is in no list
  not_in : (k q : ℕ) → k < edges → In q (F k) → q ≡ x → ⊥
  not_in k q l n e = omega (arith, count-part F edges k x l, ap (λ z. count_of z (F k)) e)

  -- the ids at the other places stay
  pub old_id : (k q : ℕ) → k < edges → In q (F k) → get_or t'.id q 0 ≡ get_or t.id q 0
  old_id k q l n = ap (λ z. get_or z q 0) m.old_id ∙ get_or-set_other t.id x q i 0 (not_in k q l n)

  -- the edges have their lists again
  pub relisted : Listed pairs t' line_id' edges' (λ k. cond (eqb k k₀) L (F k))
  relisted = record {
    chain = at_one (λ k l. k < edges' → Chain t'.next (get_or t'.place k list_end) l) k₀ L F
        (λ h. m.new_chain)
        (λ k d h. subst (λ p. Chain t'.next p (F k)) (sym (m.old_place k d)) (m.old_chain k (m.others k h d) d));
    first = at_one (λ k l. k < edges' → get_or t'.place k list_end < pairs) k₀ L F
        (λ h. m.new_first)
        (λ k d h. subst (λ p. p < pairs) (sym (m.old_place k d)) (r.first k (m.others k h d)));
    starts = at_one (λ k l. k < edges' → get_or t'.id (get_or t'.place k list_end) 0 ≡ get_or line_id' k 0) k₀ L F
        (λ h. m.new_starts)
        (λ k d h.
        let o = m.others k h d in
        ap (λ p. get_or t'.id p 0) (m.old_place k d)
        ∙ old_id k (get_or t.place k list_end) o (chain_in t.next (get_or t.place k list_end) (F k) (λ e. omega (arith, r.first k o)) (r.chain k o))
        ∙ r.starts k o ∙ sym (m.old_line k d));
    within = at_one (λ k l. k < edges' → (q : ℕ) → In q l → q < pairs) k₀ L F
        (λ h. m.new_within)
        (λ k d h. r.within k (m.others k h d));
    rises = at_one (λ k l. k < edges' → rising (map (λ q. get_or t'.id q 0) l) ≡ true) k₀ L F
        (λ h. m.new_rises)
        (λ k d h. let o = m.others k h d in
        ap rising (map_agree (λ q. get_or t'.id q 0) (λ q. get_or t.id q 0) (F k) (λ q n. old_id k q o n)) ∙ r.rises k o);
    apart = λ q. by_eq q x
        (λ e. rw e (omega (arith, m.counts x, bit-same x x refl)))
        (λ d. omega (arith, m.counts q, bit-other q x d, r.apart q));
  }

  -- the places in use are one more
  pub relisted_counts : (q : ℕ) → count_of q (used_places pairs t' edges') ≡ bit (eqb q x) + count_of q (used_places pairs t edges)
  relisted_counts q =
      ap (count_of q) (listed-used pairs small t' line_id' edges' (λ k. cond (eqb k k₀) L (F k)) relisted) ∙ m.counts q
      ∙ ap (λ u. bit (eqb q x) + count_of q u) (sym (listed-used pairs small t line_id edges F r))

  -- the other edges keep their places
  pub relisted_places : (k : ℕ) → k < edges' → (k ≡ k₀ → ⊥) → places_of pairs t' k ≡ places_of pairs t k
  relisted_places k h d =
      listed-places pairs small t' line_id' edges' (λ j. cond (eqb j k₀) L (F j)) relisted k h
      ∙ ap (λ b. cond b L (F k)) (ne_eqb k k₀ d)
      ∙ sym (listed-places pairs small t line_id edges F r k (m.others k h d))

  -- and their ids
  pub relisted_others : (k : ℕ) → k < edges' → (k ≡ k₀ → ⊥) → ids_of pairs t' k ≡ ids_of pairs t k
  relisted_others k h d =
      let o = m.others k h d in
      ids_are pairs t' k ∙ ap (map (λ q. get_or t'.id q 0)) (relisted_places k h d)
      ∙ map_agree (λ q. get_or t'.id q 0) (λ q. get_or t.id q 0) (places_of pairs t k)
      (λ q n. old_id k q o (subst (λ ps. In q ps) (listed-places pairs small t line_id edges F r k o) n))
      ∙ sym (ids_are pairs t k)

  -- edge k₀ has those at its new list
  pub relisted_ids : k₀ < edges' → ids_of pairs t' k₀ ≡ map (λ q. get_or t'.id q 0) L
  relisted_ids h =
      ids_are pairs t' k₀
      ∙ ap (map (λ q. get_or t'.id q 0)) (listed-places pairs small t' line_id' edges' (λ j. cond (eqb j k₀) L (F j)) relisted k₀ h
      ∙ ap (λ b. cond b L (F k₀)) (eq-eqb k₀ k₀ refl))
