-- Marking the places in use, list by list and place by place, as the loops do it.
use Prim.Native.Nat.{ℕ, zero, suc, ◌+◌, ◌<◌, ◌≤◌}
use native.Mathlib.Numerals.{add-one}
use native.Mathlib.Omega.{arith}
use mathlib.Core.Path.{◌≡◌, refl, sym, ap, subst, ◌∙◌}
use mathlib.Core.Bool.{Bool, true, false}
use mathlib.Core.List.{List, [], ◌∷◌, map}
use lib.ListN.{length, get_or, set, replicate, length-replicate}
use lib.Seq.{ext_get_or}
use Rattle.lists.specs.Lists.{upto, member, In, last_of}
use Rattle.lists.proofs.Counts.{in_tail}
use Rattle.lists.proofs.Entries.{get_d_any}
use Rattle.rules.specs.LineIds.{Tracings, list_end, places_from, places_of, used_places, sound_lists}
use Rattle.rules.proofs.Marking.{mark, length_mark}
use Rattle.rules.proofs.FollowingPrune.{map-upto-at, map-upto-length}
use Rattle.rules.proofs.Listed.{ends_chain}
use Rattle.rules.proofs.PlaceChains.{Chain, chain_in}
use Rattle.rules.proofs.ListSoundness.{sound_lists_lem}
use Rattle.rules.proofs.IdLoops.{walk_end, walk-next, marks_of, marks_more, marks-used}
use Rattle.line_ids.specs.Free.{used_marks, list_places_lem, marked, Ends, Ending}

-- ---- one list

-- the places from `at` on, shut, so that the fuel is not counted down
unfoldable pub onward : ℕ → List ℕ → ℕ → List ℕ
onward pairs next at = places_from pairs next at

module _ (pairs : ℕ) (next : List ℕ) where
  -- what is left of a list from `at` on can be followed, and with its places marked too all are
  pub record Passing (whole : List Bool) (at : ℕ) (used : List Bool) : Type 0 where
    pub chain : Chain next at (onward pairs next at)
    pub within : (q : ℕ) → In q (onward pairs next at) → q < pairs
    pub rest : marked (onward pairs next at) used ≡ whole

  module _ (whole : List Bool) (at : ℕ) (used : List Bool) (r : Passing whole at used) where
    -- at the end all are marked
    pub passing_end : at ≡ list_end → used ≡ whole
    unfolding onward
    passing_end e = sym (ap (λ ps. marked ps used) (ap (places_from pairs next) e ∙ walk_end pairs next)) ∙ r.rest

    module _ (d : at ≡ list_end → ⊥) where
      -- elsewhere the place itself, and what is left behind it
      here : (onward pairs next at ≡ at ∷ onward pairs next (get_or next at list_end)) × Chain next (get_or next at list_end) (onward pairs next (get_or next at list_end))
      unfolding onward
      here = walk-next pairs next at r.chain d

      -- which lies in the table
      pub passing_within : at < pairs
      passing_within = r.within at (chain_in next at (onward pairs next at) d r.chain)

      module _ (long : pairs ≤ length next) (p : ℕ) (e : p ≡ at) where
        -- the next place, as it is read
        leads : get_or next at list_end ≡ get_or next p 0
        leads = get_d_any next at list_end 0 (omega (arith, passing_within)) ∙ ap (λ q. get_or next q 0) (sym e)

        -- one place more is marked
        pub passing_on : Passing whole (get_or next p 0) (set used p true)
        passing_on = subst (λ q. Passing whole q (set used p true)) leads (record {
          chain = here.1;
          within = λ q m. r.within q (subst (λ ps. In q ps) (sym here.0) (in_tail q at (onward pairs next (get_or next at list_end)) m));
          rest = ap (λ q. marked (onward pairs next (get_or next at list_end)) (set used q true)) e ∙ ap (λ ps. marked ps used) (sym here.0) ∙ r.rest;
        })

        -- and less is left
        pub passing_less : length (onward pairs next (get_or next p 0)) < length (onward pairs next at)
        passing_less = omega (arith, ap length here.0, ap (λ q. length (onward pairs next q)) leads)

-- it starts with the list
pub passing_start : (pairs : ℕ) (place next : List ℕ) (k : ℕ) (used : List Bool) → pairs ≤ list_end → Ends pairs place next k
    → Passing pairs next (marked (list_places_lem pairs place next k) used) (get_or place k 0) used
unfolding list_places_lem onward
passing_start pairs place next k used small r =
    subst (λ p. Passing pairs next (marked (list_places_lem pairs place next k) used) p used) (get_d_any place k list_end 0 r.place_room) (record {
      chain = ends_chain pairs next (get_or place k list_end) r.first (λ e. omega (arith, r.first)) r.ends;
      within = r.within;
      rest = refl;
    })

-- ---- all lists

-- the lists of k edges marked one after another
unfoldable pub list_marks : ℕ → List ℕ → List ℕ → ℕ → List Bool
list_marks pairs place next zero = replicate pairs false
list_marks pairs place next (suc k) = marked (list_places_lem pairs place next k) (list_marks pairs place next k)

-- marks are put as the rules put them
marked_mark : (ps : List ℕ) (marks : List Bool) → marked ps marks ≡ mark ps true marks
marked_mark [] marks = refl
marked_mark (p ∷ ps) marks = marked_mark ps (set marks p true)

module _ (pairs : ℕ) (place next : List ℕ) where
  -- before the first
  pub list_marks-none : list_marks pairs place next 0 ≡ replicate pairs false
  unfolding list_marks
  list_marks-none = refl

  -- one more, as a loop has it
  pub list_marks-turn : (k : ℕ) (used after : List Bool) → used ≡ list_marks pairs place next k → after ≡ marked (list_places_lem pairs place next k) used → after ≡ list_marks pairs place next (k + 1)
  unfolding list_marks
  list_marks-turn k used after e f = f ∙ ap (marked (list_places_lem pairs place next k)) e ∙ ap (list_marks pairs place next) (sym (add-one k))

  -- the tables with no ids
  abbrev bare : Tracings
  bare = record { place = place; id = []; next = next }

  -- they are the marks of the places in use
  list_marks_are : (k : ℕ) → list_marks pairs place next k ≡ marks_of pairs bare k
  unfolding list_marks used_places list_places_lem
  list_marks_are zero = refl
  list_marks_are (suc k) =
      ap (marked (places_of pairs bare k)) (list_marks_are k) ∙ marked_mark (places_of pairs bare k) (marks_of pairs bare k) ∙ sym (marks_more pairs bare k)

  -- which the contract tells place by place
  pub list_marks-used : (edges : ℕ) → list_marks pairs place next edges ≡ used_marks pairs place next edges
  unfolding used_marks
  list_marks-used edges =
      let used = used_places pairs bare edges in
      let test : ℕ → Bool = λ p. member p used in
      let long : length (marks_of pairs bare edges) ≡ pairs = length_mark used true (replicate pairs false) ∙ length-replicate pairs false in
      list_marks_are edges
      ∙ ext_get_or false (marks_of pairs bare edges) (map test (upto pairs)) (long ∙ sym (map-upto-length test pairs))
      (λ q l. marks-used pairs bare edges q (omega arith) ∙ sym (map-upto-at test pairs q false (omega arith)))

-- ---- from the soundness of the lists

-- the places of a list do not depend on the ids
list_places_are : (pairs : ℕ) (t : Tracings) (k : ℕ) → list_places_lem pairs t.place t.next k ≡ places_of pairs t k
unfolding list_places_lem
list_places_are pairs t k = refl

-- nor do the places in use
pub used_places_are : (pairs : ℕ) (t : Tracings) (edges : ℕ) → used_places pairs (record { place = t.place; id = []; next = t.next }) edges ≡ used_places pairs t edges
unfolding used_places
used_places_are pairs t edges = refl

-- sound lists can be followed
pub sound_ending : (pairs : ℕ) (t : Tracings) (line_id : List ℕ) (edges : ℕ) → edges ≤ length t.place → pairs ≤ length t.next
    → sound_lists pairs t line_id edges ≡ true → Ending pairs t.place t.next edges
sound_ending pairs t line_id edges places nexts ok = record {
  each = λ k l.
      let s = (sound_lists_lem pairs t line_id edges ok).each k l in
      let e = list_places_are pairs t k in
      record {
        place_room = omega arith;
        next_room = nexts;
        first = s.first;
        within = λ q m. s.within q (subst (λ ps. In q ps) e m);
        ends = ap (λ ps. get_or t.next (last_of list_end ps) list_end) e ∙ s.ends;
      };
}
