-- What the soundness of the lists of line ids says, and back.
use Prim.Native.Nat.{ℕ, ◌<◌}
use native.Mathlib.Omega.{arith}
use mathlib.Core.Path.{◌≡◌, refl, sym, ◌∙◌}
use mathlib.Core.Bool.{true, ◌&&◌, and-false}
use mathlib.Core.List.{List}
use lib.Dec.{eqb, ltb}
use lib.ListN.{get_or}
use borrow.Author.Tests.{eqb-true, eq-eqb, ltb-true, lt-ltb}
use Rattle.lists.specs.Lists.{upto, all, count_of, In, Distinct, last_of, rising}
use Rattle.lists.proofs.Counts.{by_eq}
use Rattle.lists.proofs.Members.{all_in, all-below}
use Rattle.lists.proofs.Passing.{all-each, all-upto}
use Rattle.lists.proofs.Tests.{both, both_true, part}
use Rattle.rules.specs.LineIds.{Tracings, list_end, places_of, ids_of, used_places, sound_list, sound_lists}

module _ (pairs : ℕ) (t : Tracings) (line_id : List ℕ) where
  -- edge k's list starts with its line id, all of it is in the table, it rises strictly, and ends
  pub record SoundList (k : ℕ) : Type 0 where
    pub first : get_or t.place k list_end < pairs
    pub starts : get_or t.id (get_or t.place k list_end) 0 ≡ get_or line_id k 0
    pub within : (p : ℕ) → In p (places_of pairs t k) → p < pairs
    pub rises : rising (ids_of pairs t k) ≡ true
    pub ends : get_or t.next (last_of list_end (places_of pairs t k)) list_end ≡ list_end

  -- so is each edge's, and no place is in two lists
  pub record SoundLists (edges : ℕ) : Type 0 where
    pub each : (k : ℕ) → k < edges → SoundList k
    pub apart : Distinct (used_places pairs t edges)

  -- the test of one list, shut
  pub list_is : (k : ℕ) → sound_list pairs t line_id k ≡ (ltb (get_or t.place k list_end) pairs
      && (eqb (get_or t.id (get_or t.place k list_end) 0) (get_or line_id k 0)
      && (all (λ q. ltb q pairs) (places_of pairs t k)
      && (rising (ids_of pairs t k) && eqb (get_or t.next (last_of list_end (places_of pairs t k)) list_end) list_end))))
  unfolding sound_list
  list_is k = refl

  -- it says these
  pub sound_list_lem : (k : ℕ) → sound_list pairs t line_id k ≡ true → SoundList k
  sound_list_lem k e =
      let f = sym (list_is k) ∙ e in
      record {
        first = ltb-true _ _ (part _ _ f (λ z. rw z));
        starts = eqb-true _ _ (part _ _ f (λ z. rw z (simp and-false)));
        within = λ p m. ltb-true p pairs (all_in (λ q. ltb q pairs) (places_of pairs t k) (part _ _ f (λ z. rw z (simp and-false))) p m);
        rises = part _ _ f (λ z. rw z (simp and-false));
        ends = eqb-true _ _ (part _ _ f (λ z. rw z (simp and-false)));
      }

  -- and back
  pub list_true : (k : ℕ) → SoundList k → sound_list pairs t line_id k ≡ true
  list_true k r =
      list_is k ∙ both_true _ _ (lt-ltb _ _ r.first) (both_true _ _ (eq-eqb _ _ r.starts)
      (both_true _ _ (all-each (λ q. ltb q pairs) (places_of pairs t k) (λ p m. lt-ltb p pairs (r.within p m))) (both_true _ _ r.rises (eq-eqb _ _ r.ends))))

  module _ (edges : ℕ) where
    -- the test of all, shut
    pub lists-is : sound_lists pairs t line_id edges ≡ (all (sound_list pairs t line_id) (upto edges) && all (λ p. eqb (count_of p (used_places pairs t edges)) 1) (used_places pairs t edges))
    unfolding sound_lists
    lists-is = refl

    -- it says these
    pub sound_lists_lem : sound_lists pairs t line_id edges ≡ true → SoundLists edges
    sound_lists_lem e =
        let used = used_places pairs t edges in
        let f = both (all (sound_list pairs t line_id) (upto edges)) (all (λ p. eqb (count_of p used) 1) used) (sym lists-is ∙ e) in
        record {
          each = λ k h. sound_list_lem k (all-below (sound_list pairs t line_id) edges f.0 k h);
          apart = λ p. by_eq (count_of p used) 0
              (λ z. omega arith)
              (λ d. omega (arith, eqb-true (count_of p used) 1 (all_in (λ q. eqb (count_of q used) 1) used f.1 p (omega arith))));
        }

    -- and back
    pub lists_true : SoundLists edges → sound_lists pairs t line_id edges ≡ true
    lists_true r =
        let used = used_places pairs t edges in
        lists-is ∙ both_true _ _ (all-upto (sound_list pairs t line_id) edges (λ k h. list_true k (r.each k h)))
        (all-each (λ p. eqb (count_of p used) 1) used (λ p m. eq-eqb (count_of p used) 1 (omega (arith, r.apart p))))
