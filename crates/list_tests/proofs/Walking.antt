-- A walk that tests each place is good exactly where the lists are sound.
use Prim.Native.Nat.{ℕ, zero, suc, ◌+◌, ◌<◌, ◌≤◌}
use native.Mathlib.Numerals.{add-one}
use native.Mathlib.Omega.{arith}
use mathlib.Core.Path.{◌≡◌, refl, sym, ap, ap₂, subst, ◌∙◌}
use mathlib.Core.Bool.{Bool, true, false, cond, ◌&&◌, ◌||◌, not, and-false}
use mathlib.Core.List.{List, [], ◌∷◌, ◌++◌, append_assoc}
use lib.Dec.{eqb, ltb}
use lib.ListN.{get_or, set, replicate, get_or-replicate, length-replicate}
use borrow.Author.Tests.{eqb-true, eq-eqb, ne_eqb, ltb-true, not-true}
use Rattle.lists.specs.Lists.{upto, all, count_of, In, Distinct}
use Rattle.lists.proofs.Counts.{by_test, by_eq, count-append, true_is_false, in_head, in_tail}
use Rattle.lists.proofs.Members.{all-below}
use Rattle.lists.proofs.Passing.{all-each, all-upto}
use Rattle.lists.proofs.Tests.{both, both_true}
use Rattle.rules.specs.LineIds.{Tracings, list_end, places_from, places_of, used_places, sound_list, sound_lists}
use Rattle.rules.proofs.Marking.{mark, mark_append, mark_in, mark_out}
use Rattle.rules.proofs.ListSoundness.{sound_lists_lem, sound_list_lem, lists-is}
use Rattle.rules.proofs.Listed.{places_are}
use Rattle.rules.proofs.ListTest.{goes_on_lem, list_test}
use Rattle.rules.proofs.IdLoops.{walk_end, used_more, marks_of, marks_more, apart_more, apart-twice}
use Rattle.list_tests.specs.Walks.{Walked, walk_from, walk_list, walk_lists}

-- ---- places passed for the first time

-- none of the places is marked when it is passed, and each is marked then
abbrev first_time : List ℕ → List Bool → Bool
first_time [] seen = true
first_time (p ∷ ps) seen = not (get_or seen p false) && first_time ps (set seen p true)

module _ (pairs : ℕ) where
  -- the marks of places
  abbrev marks : List ℕ → List Bool
  marks used = mark used true (replicate pairs false)

  -- one more
  marks-next : (used : List ℕ) (p : ℕ) → set (marks used) p true ≡ marks (used ++ (p ∷ []))
  marks-next used p = sym (mark_append used (p ∷ []) true (replicate pairs false))

  -- a place that is not marked is not among them
  unmarked-out : (used : List ℕ) (p : ℕ) → p < pairs → get_or (marks used) p false ≡ false → count_of p used ≡ 0
  unmarked-out used p l e = by_eq (count_of p used) 0
      (λ z. z)
      (λ n. absurd (true_is_false (sym (mark_in used true (replicate pairs false) p false (omega arith) (omega (arith, length-replicate pairs false))) ∙ e)))

  -- a place that is not among them is not marked
  out-unmarked : (used : List ℕ) (p : ℕ) → p < pairs → count_of p used ≡ 0 → get_or (marks used) p false ≡ false
  out-unmarked used p l z = mark_out used true (replicate pairs false) p false z ∙ get_or-replicate pairs p false false l

  -- where each place is passed for the first time, no place is there twice
  first-apart : (used ps : List ℕ) → ((q : ℕ) → In q ps → q < pairs) → Distinct used → first_time ps (marks used) ≡ true → Distinct (used ++ ps)
  first-apart used [] low d e = λ q. omega (arith, d q, count-append q used [])
  first-apart used (p ∷ ps) low d e =
      let t = both (not (get_or (marks used) p false)) (first_time ps (set (marks used) p true)) e in
      let z = unmarked-out used p (low p (in_head p p ps refl)) (not-true (get_or (marks used) p false) t.0) in
      let rest = first-apart (used ++ (p ∷ [])) ps (λ q m. low q (in_tail q p ps m)) (apart_more used p d z) (ap (first_time ps) (sym (marks-next used p)) ∙ t.1) in
      subst Distinct (append_assoc used (p ∷ []) ps) rest

  -- and back
  apart-first : (used ps : List ℕ) → ((q : ℕ) → In q ps → q < pairs) → Distinct (used ++ ps) → first_time ps (marks used) ≡ true
  apart-first used [] low d = refl
  apart-first used (p ∷ ps) low d =
      let z : count_of p used ≡ 0 = by_eq (count_of p used) 0 (λ e. e) (λ n. absurd (apart-twice used ps p (omega arith) d)) in
      both_true _ _ (ap not (out-unmarked used p (low p (in_head p p ps refl)) z))
      (ap (first_time ps) (marks-next used p)
      ∙ apart-first (used ++ (p ∷ [])) ps (λ q m. low q (in_tail q p ps m)) (subst Distinct (sym (append_assoc used (p ∷ []) ps)) d))

-- ---- one list

module _ (pairs : ℕ) (small : pairs ≤ list_end) (t : Tracings) where
  -- a place in the table leads on
  lead : (f p : ℕ) → ltb p pairs ≡ true → places_from (suc f) t.next p ≡ p ∷ places_from f t.next (get_or t.next p list_end)
  lead f p e = rw (ne_eqb p list_end (λ z. omega (arith, ltb-true p pairs e)))

  -- a walk is good where the list goes on well and passes each place for the first time
  walk-good : (fuel p : ℕ) (seen : List Bool) → (walk_from pairs t.id t.next fuel p seen).good ≡ (goes_on_lem pairs t fuel p && first_time (places_from fuel t.next p) seen)
  unfolding walk_from
  walk-good zero p seen = refl
  walk-good (suc f) p seen =
      let q = get_or t.next p list_end in
      by_test (ltb p pairs)
      (λ e. rw (lead f p e, e) (by_test (get_or seen p false)
      (λ m. rw m (sym (and-false (eqb q list_end || (ltb (get_or t.id p 0) (get_or t.id q 0) && goes_on_lem pairs t f q)))))
      (λ m. rw m (by_test (eqb q list_end)
      (λ h. rw (h, eqb-true q list_end h, walk_end f t.next))
      (λ h. rw h (by_test (ltb (get_or t.id p 0) (get_or t.id q 0))
      (λ r. rw r (walk-good f q (set seen p true)))
      (λ r. rw r)))))))
      (λ e. rw e)

  -- a good one marks the places of the list
  walk-marks : (fuel p : ℕ) (seen : List Bool) → (walk_from pairs t.id t.next fuel p seen).good ≡ true
      → (walk_from pairs t.id t.next fuel p seen).seen ≡ mark (places_from fuel t.next p) true seen
  unfolding walk_from
  walk-marks zero p seen = λ g. absurd (true_is_false (sym g))
  walk-marks (suc f) p seen =
      let q = get_or t.next p list_end in
      by_test (ltb p pairs)
      (λ e. rw (lead f p e, e) (by_test (get_or seen p false)
      (λ m. rw m (λ g. absurd (true_is_false (sym g))))
      (λ m. rw m (by_test (eqb q list_end)
      (λ h. rw (h, eqb-true q list_end h, walk_end f t.next) (λ g. refl))
      (λ h. rw h (by_test (ltb (get_or t.id p 0) (get_or t.id q 0))
      (λ r. rw r (walk-marks f q (set seen p true)))
      (λ r. rw r (λ g. absurd (true_is_false (sym g))))))))))
      (λ e. rw e (λ g. absurd (true_is_false (sym g))))

  module _ (line_id : List ℕ) where
    -- the walk along edge k's list, by its two tests
    list_walk : (k : ℕ) (seen : List Bool) → let p = get_or t.place k list_end in
        walk_list pairs t line_id k seen
        ≡ cond (ltb p pairs && eqb (get_or t.id p 0) (get_or line_id k 0)) (walk_from pairs t.id t.next pairs p seen) (record { good = false; seen = seen })
    unfolding walk_list
    list_walk k seen = refl

    -- it is good where the list is sound and passes each place for the first time
    list_good : (k : ℕ) (seen : List Bool) → (walk_list pairs t line_id k seen).good ≡ (sound_list pairs t line_id k && first_time (places_of pairs t k) seen)
    list_good k seen =
        let p = get_or t.place k list_end in
        let line = eqb (get_or t.id p 0) (get_or line_id k 0) in
        ap (λ w. w.good) (list_walk k seen)
        ∙ good-part (ltb p pairs && line) (walk_from pairs t.id t.next pairs p seen) seen
        ∙ ap (λ b. (ltb p pairs && line) && b) (walk-good pairs p seen)
        ∙ regroup (ltb p pairs) line (goes_on_lem pairs t pairs p) (first_time (places_from pairs t.next p) seen)
        ∙ ap₂ (λ a ps. a && first_time ps seen) (sym (list_test pairs t line_id k small)) (sym (places_are pairs t k))
      where
        -- only the walk itself can be good
        good-part : (b : Bool) (w : Walked) (s : List Bool) → (cond b w (record { good = false; seen = s })).good ≡ (b && w.good)
        good-part true w s = refl
        good-part false w s = refl

        -- the same tests in another order
        regroup : (a b c d : Bool) → ((a && b) && (c && d)) ≡ ((a && (b && c)) && d)
        regroup true true c d = refl
        regroup true false c d = refl
        regroup false b c d = refl

    -- a good one marks the places of the list
    list_marks_lem : (k : ℕ) (seen : List Bool) → (walk_list pairs t line_id k seen).good ≡ true → (walk_list pairs t line_id k seen).seen ≡ mark (places_of pairs t k) true seen
    list_marks_lem k seen =
        let p = get_or t.place k list_end in
        rw (list_walk k seen, places_are pairs t k) (by_test (ltb p pairs && eqb (get_or t.id p 0) (get_or line_id k 0))
        (λ e. rw e (walk-marks pairs p seen))
        (λ e. rw e (λ g. absurd (true_is_false (sym g)))))

    -- ---- all lists

    -- a sound list lies in the table
    list_within : (k : ℕ) → sound_list pairs t line_id k ≡ true → (q : ℕ) → In q (places_of pairs t k) → q < pairs
    list_within k e q m = (sound_list_lem pairs t line_id k e).within q m

    -- the lists of k edges are sound, and no place is in two of them
    record Apart (k : ℕ) : Type 0 where
      each : (j : ℕ) → j < k → sound_list pairs t line_id j ≡ true
      once : Distinct (used_places pairs t k)

    -- as the test says it
    apart-sound : (k : ℕ) → Apart k → sound_lists pairs t line_id k ≡ true
    apart-sound k r =
        let used = used_places pairs t k in
        lists-is pairs t line_id k ∙ both_true _ _ (all-upto (sound_list pairs t line_id) k r.each)
        (all-each (λ p. eqb (count_of p used) 1) used (λ p m. eq-eqb (count_of p used) 1 (omega (arith, r.once p))))

    -- and back
    sound-apart : (k : ℕ) → sound_lists pairs t line_id k ≡ true → Apart k
    sound-apart k e = record {
      each = all-below (sound_list pairs t line_id) k (both (all (sound_list pairs t line_id) (upto k)) _ (sym (lists-is pairs t line_id k) ∙ e)).0;
      once = (sound_lists_lem pairs t line_id k e).apart;
    }

    -- one list more
    apart_next : (k : ℕ) → Apart k → sound_list pairs t line_id k ≡ true → first_time (places_of pairs t k) (marks_of pairs t k) ≡ true → Apart (suc k)
    apart_next k r e f = record {
      each = λ j l. by_eq j k (λ z. rw z e) (λ d. r.each j (omega arith));
      once = subst Distinct (sym (used_more pairs t k)) (first-apart pairs (used_places pairs t k) (places_of pairs t k) (list_within k e) r.once f);
    }

    -- one list less
    apart_less : (k : ℕ) → Apart (suc k) → Apart k
    apart_less k r = record {
      each = λ j l. r.each j (omega arith);
      once = λ q. omega (arith, r.once q, ap (count_of q) (used_more pairs t k), count-append q (used_places pairs t k) (places_of pairs t k));
    }

    -- one edge more of the walk, shut
    lists-next : (k : ℕ) → let w = walk_lists pairs t line_id k in let v = walk_list pairs t line_id k w.seen in
        walk_lists pairs t line_id (suc k) ≡ record { good = w.good && v.good; seen = v.seen }
    unfolding walk_lists
    lists-next k = refl

    -- as a loop makes it
    pub lists-turn : (k : ℕ) (good here : Bool) (seen passed : List Bool) → record { good = good; seen = seen } ≡ walk_lists pairs t line_id k
        → record { good = here; seen = passed } ≡ walk_list pairs t line_id k seen → record { good = good && here; seen = passed } ≡ walk_lists pairs t line_id (k + 1)
    lists-turn k good here seen passed e f =
        ap (λ (v : Walked). record { good = good && v.good; seen = v.seen }) f
        ∙ ap (λ (w : Walked). let v = walk_list pairs t line_id k w.seen in record { good = w.good && v.good; seen = v.seen }) e
        ∙ sym (lists-next k) ∙ ap (walk_lists pairs t line_id) (sym (add-one k))

    -- before the first
    pub lists-none : walk_lists pairs t line_id 0 ≡ record { good = true; seen = replicate pairs false }
    unfolding walk_lists
    lists-none = refl

    -- a walk that is good so far passed sound lists, and marked their places
    good-apart : (k : ℕ) → (walk_lists pairs t line_id k).good ≡ true → Apart k × ((walk_lists pairs t line_id k).seen ≡ marks_of pairs t k)
    unfolding walk_lists used_places
    good-apart zero e = (record { each = λ j l. absurd (omega arith); once = λ q. omega arith }, refl)
    good-apart (suc k) e =
        let w = walk_lists pairs t line_id k in
        let v = walk_list pairs t line_id k w.seen in
        let parts = both w.good v.good e in
        let before = good-apart k parts.0 in
        let here = both (sound_list pairs t line_id k) (first_time (places_of pairs t k) w.seen) (sym (list_good k w.seen) ∙ parts.1) in (
          apart_next k before.0 here.0 (ap (first_time (places_of pairs t k)) (sym before.1) ∙ here.1),
          list_marks_lem k w.seen parts.1 ∙ ap (mark (places_of pairs t k) true) before.1 ∙ sym (marks_more pairs t k),
        )

    -- where the lists are sound the walk is good
    apart-good : (k : ℕ) → Apart k → (walk_lists pairs t line_id k).good ≡ true
    apart-good zero r = ap (λ w. w.good) lists-none
    apart-good (suc k) r =
        let w = walk_lists pairs t line_id k in
        let before = apart-good k (apart_less k r) in
        let sound = r.each k (omega arith) in
        let fresh = apart-first pairs (used_places pairs t k) (places_of pairs t k) (list_within k sound) (subst Distinct (used_more pairs t k) r.once) in
        ap (λ w. w.good) (lists-next k) ∙ both_true _ _ before
        (list_good k w.seen ∙ both_true _ _ sound (ap (first_time (places_of pairs t k)) (good-apart k before).1 ∙ fresh))

    -- the walk is good exactly where the lists are sound
    pub walk-sound : (edges : ℕ) → (walk_lists pairs t line_id edges).good ≡ sound_lists pairs t line_id edges
    walk-sound edges = by_test (walk_lists pairs t line_id edges).good
        (λ g. g ∙ sym (apart-sound edges (good-apart edges g).0))
        (λ g. by_test (sound_lists pairs t line_id edges)
        (λ s. absurd (true_is_false (sym (apart-good edges (sound-apart edges s)) ∙ g)))
        (λ s. g ∙ sym s))
