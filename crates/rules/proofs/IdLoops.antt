-- What loops over the lists of ids keep: the places still to pass from where the loop stands, with no fuel to count down.
-- The measure is how many these are, at most as many as there are pairs.
use Prim.Native.Nat.{ℕ, zero, suc, ◌<◌, ◌≤◌}
use native.Mathlib.Omega.{arith}
use mathlib.Core.Path.{◌≡◌, refl, sym, ap, subst, ◌∙◌}
use mathlib.Core.Bool.{Bool, true, false, cond}
use mathlib.Core.List.{List, [], ◌∷◌, ◌++◌, map}
use lib.Dec.{eqb}
use lib.ListN.{length, get_or, replicate, get_or-replicate, length-replicate}
use borrow.Author.Tests.{eq-eqb, ne_eqb, lt-ltb, le-ltb}
use Rattle.lists.specs.Lists.{count_of, member, In, Distinct, rising, rises_from}
use Rattle.lists.proofs.Counts.{by_test, by_eq, bit-same, bit-other, count-append}
use Rattle.lists.proofs.Rising.{rises_above, rises-rising, flatten-upto}
use Rattle.rules.specs.LineIds.{Tracings, list_end, places_from, places_of, ids_of, used_places, last_lower}
use Rattle.rules.proofs.Marking.{mark, mark_append, mark_in, mark_out}
use Rattle.rules.proofs.PlaceChains.{Chain, chain_places}
use Rattle.rules.proofs.Listed.{used_are}

-- ---- walking

-- a walk passes no more places than its fuel
pub walk-most : (fuel : ℕ) (next : List ℕ) (p : ℕ) → length (places_from fuel next p) ≤ fuel
walk-most zero next p = omega arith
walk-most (suc f) next p = by_test (eqb p list_end)
    (λ e. rw e (omega arith))
    (λ e. rw e (omega (arith, walk-most f next (get_or next p list_end))))

-- at the end nothing is left
pub walk_end : (fuel : ℕ) (next : List ℕ) → places_from fuel next list_end ≡ []
walk_end zero next = refl
walk_end (suc f) next = refl

-- elsewhere the place itself, and what is left from the next one
pub walk-next : (n : ℕ) (next : List ℕ) (p : ℕ) → Chain next p (places_from n next p) → (p ≡ list_end → ⊥)
    → (places_from n next p ≡ p ∷ places_from n next (get_or next p list_end)) × Chain next (get_or next p list_end) (places_from n next (get_or next p list_end))
walk-next zero next p c d = absurd (d c)
walk-next (suc f) next p c d =
    let q = get_or next p list_end in
    let rest = places_from f next q in
    let here : places_from (suc f) next p ≡ p ∷ rest = rw (ne_eqb p list_end d) in
    let on : Chain next q rest = (subst (λ ps. Chain next p ps) here c).2 in
    let same : places_from (suc f) next q ≡ rest = chain_places (suc f) next q rest on (omega (arith, walk-most f next q)) in
    (here ∙ ap (λ r. p ∷ r) (sym same), subst (λ ps. Chain next q ps) (sym same) on)

-- ---- looking for an id, or the place behind which it goes

module _ (pairs : ℕ) (t : Tracings) (i k : ℕ) where
  -- the places from `at` on
  abbrev rest : ℕ → List ℕ
  rest at = places_from pairs t.next at

  -- the ids of places
  abbrev ids_at_lem : List ℕ → List ℕ
  ids_at_lem ps = map (λ p. get_or t.id p 0) ps

  -- the search in edge k's list stands at `at`, and came from b: all ids before are lower than i
  pub record Seeking (b at : ℕ) : Type 0 where
    pub chain : Chain t.next at (rest at)
    pub rises : rising (ids_at_lem (rest at)) ≡ true
    -- what is left to look at gives what the whole list gives
    pub behind : last_lower t.id i b (rest at) ≡ last_lower t.id i list_end (places_of pairs t k)
    pub among : count_of i (ids_at_lem (rest at)) ≡ count_of i (ids_of pairs t k)
    -- b leads to `at`, or the list starts there
    pub joins : cond (eqb b list_end) (get_or t.place k list_end) (get_or t.next b list_end) ≡ at

  module _ (b at : ℕ) (s : Seeking b at) where
    -- at the end: b is the last place, and the id is not there
    pub seek_end : at ≡ list_end → (b ≡ last_lower t.id i list_end (places_of pairs t k)) × (count_of i (ids_of pairs t k) ≡ 0)
    seek_end e =
        let none : rest at ≡ [] = ap rest e ∙ walk_end pairs t.next in
        (ap (last_lower t.id i b) (sym none) ∙ s.behind, sym s.among ∙ ap (λ ps. count_of i (ids_at_lem ps)) none)

    module _ (d : at ≡ list_end → ⊥) where
      -- the place itself, and what is left behind it
      here : rest at ≡ at ∷ rest (get_or t.next at list_end)
      here = (walk-next pairs t.next at s.chain d).0

      -- the ids left rise from this one
      onward : rises_from (get_or t.id at 0) (ids_at_lem (rest (get_or t.next at list_end))) ≡ true
      onward = subst (λ ps. rising (ids_at_lem ps) ≡ true) here s.rises

      -- past a lower id
      pub seek_on : get_or t.id at 0 < i → Seeking at (get_or t.next at list_end)
      seek_on h = record {
        chain = (walk-next pairs t.next at s.chain d).1;
        rises = rises-rising (get_or t.id at 0) (ids_at_lem (rest (get_or t.next at list_end))) onward;
        behind = ap (λ c. cond c (last_lower t.id i at (rest (get_or t.next at list_end))) b) (sym (lt-ltb (get_or t.id at 0) i h))
            ∙ ap (last_lower t.id i b) (sym here) ∙ s.behind;
        among = omega (arith, s.among, ap (λ ps. count_of i (ids_at_lem ps)) here, bit-other i (get_or t.id at 0) (λ e. omega arith));
        joins = ap (λ c. cond c (get_or t.place k list_end) (get_or t.next at list_end)) (ne_eqb at list_end d);
      }

      -- at one that is not lower: it goes behind b, and it is there only if this is it
      pub seek_stop : i ≤ get_or t.id at 0
          → (b ≡ last_lower t.id i list_end (places_of pairs t k)) × (member i (ids_of pairs t k) ≡ eqb i (get_or t.id at 0))
      seek_stop h =
          let left = ids_at_lem (rest (get_or t.next at list_end)) in
          let none : count_of i left ≡ 0 = by_eq (count_of i left) 0 (λ e. e) (λ n. absurd (omega (arith, rises_above (get_or t.id at 0) left onward i (omega arith)))) in
          let count = sym s.among ∙ ap (λ ps. count_of i (ids_at_lem ps)) here in (
            ap (λ c. cond c (last_lower t.id i at (rest (get_or t.next at list_end))) b) (sym (le-ltb (get_or t.id at 0) i h))
                ∙ ap (last_lower t.id i b) (sym here) ∙ s.behind,
            by_eq i (get_or t.id at 0)
                (λ e. lt-ltb 0 (count_of i (ids_of pairs t k)) (omega (arith, bit-same i (get_or t.id at 0) e)) ∙ sym (eq-eqb i (get_or t.id at 0) e))
                (λ n. le-ltb 0 (count_of i (ids_of pairs t k)) (omega (arith, bit-other i (get_or t.id at 0) n)) ∙ sym (ne_eqb i (get_or t.id at 0) n)),
          )

-- ---- marking the places in use

module _ (pairs : ℕ) (t : Tracings) where
  -- one edge more
  pub used_more : (k : ℕ) → used_places pairs t (suc k) ≡ used_places pairs t k ++ places_of pairs t k
  used_more k = used_are pairs t (suc k) ∙ flatten-upto (places_of pairs t) k ∙ ap (λ l. l ++ places_of pairs t k) (sym (used_are pairs t k))

  -- the marks of the lists of k edges
  abbrev pub marks_of : ℕ → List Bool
  marks_of k = mark (used_places pairs t k) true (replicate pairs false)

  -- one edge more is marked place by place
  pub marks_more : (k : ℕ) → marks_of (suc k) ≡ mark (places_of pairs t k) true (marks_of k)
  marks_more k = ap (λ l. mark l true (replicate pairs false)) (used_more k) ∙ mark_append (used_places pairs t k) (places_of pairs t k) true (replicate pairs false)

  -- what is marked is in use, and the rest is free
  pub marks-used : (k q : ℕ) → q < pairs → get_or (marks_of k) q false ≡ member q (used_places pairs t k)
  marks-used k q l =
      let used = used_places pairs t k in
      by_eq (count_of q used) 0
      (λ z. mark_out used true (replicate pairs false) q false z ∙ get_or-replicate pairs q false false l ∙ sym (le-ltb 0 (count_of q used) (omega arith)))
      (λ n. mark_in used true (replicate pairs false) q false (omega arith) (omega (arith, length-replicate pairs false)) ∙ sym (lt-ltb 0 (count_of q used) (omega arith)))

-- a place that is not marked yet is in one list only
pub apart_more : (l : List ℕ) (x : ℕ) → Distinct l → count_of x l ≡ 0 → Distinct (l ++ (x ∷ []))
apart_more l x d z y = by_eq y x
    (λ e. rw e (omega (arith, count-append x l (x ∷ []), bit-same x x refl)))
    (λ n. omega (arith, count-append y l (x ∷ []), d y, bit-other y x n))

-- one that is marked is in two
pub apart-twice : (l m : List ℕ) (x : ℕ) → In x l → Distinct (l ++ (x ∷ m)) → ⊥
apart-twice l m x h d = omega (arith, d x, count-append x l (x ∷ m), bit-same x x refl)
