-- The places of the table that lists use, and the first that is free.
use Rattle.std.specs.Prelude.{ℕ, zero, suc, ◌-◌, ◌<◌, ◌≤◌, min, ◌≡◌, Bool, true, false, cond, List, [], ◌∷◌, map, length, get_or, set}
use Rattle.lists.specs.Lists.{upto, member, In, last_of}
use Rattle.rules.specs.Limits.{Limits}
use Rattle.rules.specs.LineIds.{list_end, places_of, used_places, lowest_free}
use Rattle.rules.specs.State.{State}

-- ---- the places in use

-- which places are in the lists of that many edges
unfoldable pub used_marks : ℕ → List ℕ → List ℕ → ℕ → List Bool
unfolding used_places
used_marks pairs place next edges = map (λ p. member p (used_places pairs (record { place = place; id = []; next = next }) edges)) (upto pairs)

-- the places of edge k's list; the ids do not matter for them
unfoldable pub list_places_lem : ℕ → List ℕ → List ℕ → ℕ → List ℕ
unfolding places_of
list_places_lem pairs place next k = places_of pairs (record { place = place; id = []; next = next }) k

-- marks, with these places marked too
abbrev pub marked : List ℕ → List Bool → List Bool
marked [] marks = marks
marked (p ∷ ps) marks = marked ps (set marks p true)

-- edge k's list can be followed: it starts in the table, stays there, and ends
pub record Ends (pairs : ℕ) (place next : List ℕ) (k : ℕ) : Type 0 where
  pub place_room : k < length place
  pub next_room : pairs ≤ length next
  pub first : get_or place k list_end < pairs
  pub within : (q : ℕ) → In q (list_places_lem pairs place next k) → q < pairs
  pub ends : get_or next (last_of list_end (list_places_lem pairs place next k)) list_end ≡ list_end

-- so can the lists of that many edges
pub record Ending (pairs : ℕ) (place next : List ℕ) (edges : ℕ) : Type 0 where
  pub each : (k : ℕ) → k < edges → Ends pairs place next k

-- ---- the free places

-- of n places from p on the first that is not marked, or the one behind them
abbrev pub first_free : List Bool → ℕ → ℕ → ℕ
first_free used zero p = p
first_free used (suc n) p = let on = first_free used n (suc p) in cond (get_or used p false) on p

-- the first place from `from` on that is not marked, or as many as there are places
unfoldable pub free_from : List Bool → ℕ → ℕ → ℕ
free_from used from pairs = first_free used (pairs - from) from

-- the lowest free place of a state, or as many as there are places
unfoldable pub free_place : Limits → State → ℕ
unfolding used_places lowest_free
free_place l s = min (lowest_free (used_places l.pairs s.tracings s.edges)) l.pairs

-- Marks that were made once, and the lowest free place: from there on the marks are right, and no place below it is looked for again.
pub record FreeAt (l : Limits) (s : State) (used : List Bool) (free : ℕ) : Type 0 where
  pub lowest : free ≡ free_place l s
  pub most : free ≤ l.pairs
  pub marks : (q : ℕ) → free ≤ q → q < l.pairs → get_or used q false ≡ member q (used_places l.pairs s.tracings s.edges)
