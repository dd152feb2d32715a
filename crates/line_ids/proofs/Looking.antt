-- Looking for an id in an edge's list, place by place, as a loop does it.
use Prim.Native.Nat.{ℕ, ◌<◌, ◌≤◌}
use native.Mathlib.Omega.{arith}
use mathlib.Core.Path.{◌≡◌, refl, sym, ap, subst, ◌∙◌}
use mathlib.Core.Bool.{true, false}
use mathlib.Core.List.{List, ◌∷◌}
use lib.Dec.{eqb}
use lib.ListN.{length, get_or}
use borrow.Author.Tests.{le-ltb}
use Rattle.lists.specs.Lists.{count_of, member, In}
use Rattle.lists.proofs.Counts.{in_tail}
use Rattle.lists.proofs.Entries.{get_d_any}
use Rattle.rules.specs.LineIds.{Tracings, list_end, places_of, ids_of, last_lower, sound_lists}
use Rattle.rules.proofs.PlaceChains.{chain_in}
use Rattle.rules.proofs.ListSoundness.{sound_lists_lem}
use Rattle.rules.proofs.Listed.{ends_chain}
use Rattle.rules.proofs.IdLoops.{Seeking, seek_end, seek_on, seek_stop, walk-next}
use Rattle.line_ids.specs.Seeking.{Seekable}
use Rattle.line_ids.proofs.Marked.{onward}

-- sound lists can be looked through
pub sound_seekable : (pairs : ℕ) (t : Tracings) (line_id : List ℕ) (edges k : ℕ) → edges ≤ length t.place → pairs ≤ length t.id → pairs ≤ length t.next
    → sound_lists pairs t line_id edges ≡ true → k < edges → Seekable pairs t k
sound_seekable pairs t line_id edges k places ids nexts ok l =
    let s = (sound_lists_lem pairs t line_id edges ok).each k l in
    record {
      place_room = omega arith;
      id_room = ids;
      next_room = nexts;
      first = s.first;
      within = s.within;
      rises = s.rises;
      ends = s.ends;
    }

module _ (pairs : ℕ) (t : Tracings) (i k : ℕ) where
  -- the search stands at `at` and came from b, and what is left lies in the table
  pub record Looking (b at : ℕ) : Type 0 where
    pub seeking : Seeking pairs t i k b at
    pub within : (q : ℕ) → In q (onward pairs t.next at) → q < pairs

  -- it starts with the list
  pub look_start : pairs ≤ list_end → Seekable pairs t k → Looking list_end (get_or t.place k 0)
  unfolding places_of ids_of onward
  look_start small r = subst (Looking list_end) (get_d_any t.place k list_end 0 r.place_room) (record {
    seeking = record {
      chain = ends_chain pairs t.next (get_or t.place k list_end) r.first (λ e. omega (arith, r.first)) r.ends;
      rises = r.rises;
      behind = refl;
      among = refl;
      joins = refl;
    };
    within = r.within;
  })

  module _ (b at : ℕ) (s : Looking b at) where
    -- at the end: b is the last place, and the id is not there
    pub look_end : at ≡ list_end → (false ≡ member i (ids_of pairs t k)) × (b ≡ last_lower t.id i list_end (places_of pairs t k))
    look_end e =
        let r = seek_end pairs t i k b at s.seeking e in
        (sym (le-ltb 0 (count_of i (ids_of pairs t k)) (omega (arith, r.1))), r.0)

    module _ (d : at ≡ list_end → ⊥) where
      -- the place itself, and what is left behind it
      here : (onward pairs t.next at ≡ at ∷ onward pairs t.next (get_or t.next at list_end))
      unfolding onward
      here = (walk-next pairs t.next at s.seeking.chain d).0

      -- it lies in the table
      pub look_within : at < pairs
      unfolding onward
      look_within = s.within at (chain_in t.next at (onward pairs t.next at) d s.seeking.chain)

      module _ (p : ℕ) (e : p ≡ at) where
        -- at an id that is not lower: it goes behind b, and it is there only if this is it
        pub look_stop : i ≤ get_or t.id p 0 → (eqb i (get_or t.id p 0) ≡ member i (ids_of pairs t k)) × (b ≡ last_lower t.id i list_end (places_of pairs t k))
        look_stop h =
            let r = seek_stop pairs t i k b at s.seeking d (subst (λ q. i ≤ get_or t.id q 0) e h) in
            (ap (λ q. eqb i (get_or t.id q 0)) e ∙ sym r.1, r.0)

        module _ (long : pairs ≤ length t.next) where
          -- the next place, as it is read
          leads : get_or t.next at list_end ≡ get_or t.next p 0
          leads = get_d_any t.next at list_end 0 (omega (arith, look_within)) ∙ ap (λ q. get_or t.next q 0) (sym e)

          -- past a lower id
          pub look_on : get_or t.id p 0 < i → Looking at (get_or t.next p 0)
          look_on h = subst (Looking at) leads (record {
            seeking = seek_on pairs t i k b at s.seeking d (subst (λ q. get_or t.id q 0 < i) e h);
            within = λ q m. s.within q (subst (λ ps. In q ps) (sym here) (in_tail q at (onward pairs t.next (get_or t.next at list_end)) m));
          })

          -- less is left
          pub look_less : length (onward pairs t.next (get_or t.next p 0)) < length (onward pairs t.next at)
          look_less = omega (arith, ap length here, ap (λ q. length (onward pairs t.next q)) leads)
