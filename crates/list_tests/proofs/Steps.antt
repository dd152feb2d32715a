-- The walk along one list, one place at a time, as a loop makes it: each law is one way that a turn can go.
use Prim.Native.Nat.{ℕ, suc, ◌<◌, ◌≤◌}
use native.Mathlib.Omega.{arith}
use mathlib.Core.Path.{◌≡◌, sym, ◌∙◌}
use mathlib.Core.Bool.{Bool, true, false}
use mathlib.Core.List.{List}
use lib.Dec.{ltb}
use lib.ListN.{length, get_or, set}
use borrow.Author.Tests.{eq-eqb, ne_eqb, lt-ltb, le-ltb}
use Rattle.lists.proofs.Entries.{get_d_any}
use Rattle.rules.specs.LineIds.{Tracings, list_end}
use Rattle.list_tests.specs.Walks.{walk_from, walk_list}

module _ (pairs : ℕ) (id next : List ℕ) where
  -- no fuel is left
  pub fuel_none : (n p : ℕ) (seen : List Bool) → n ≡ 0 → walk_from pairs id next n p seen ≡ record { good = false; seen = seen }
  unfolding walk_from
  fuel_none n p seen z = rw z

  module _ (n f p : ℕ) (seen : List Bool) (more : n ≡ suc f) where
    -- the place is not in the table
    pub place-outside : pairs ≤ p → walk_from pairs id next n p seen ≡ record { good = false; seen = seen }
    unfolding walk_from
    place-outside h = rw (more, le-ltb p pairs h)

    -- it was passed before
    pub place_again : p < pairs → get_or seen p false ≡ true → walk_from pairs id next n p seen ≡ record { good = false; seen = seen }
    unfolding walk_from
    place_again h m = rw (more, lt-ltb p pairs h, m)

    module _ (h : p < pairs) (long : pairs ≤ length next) (new : get_or seen p false ≡ false) (q : ℕ) (e : q ≡ get_or next p 0) where
      -- the next place, whatever is read past the table
      leads : get_or next p list_end ≡ q
      leads = get_d_any next p list_end 0 (omega arith) ∙ sym e

      -- the list ends there
      pub place-last : q ≡ list_end → walk_from pairs id next n p seen ≡ record { good = true; seen = set seen p true }
      unfolding walk_from
      place-last z = rw (more, lt-ltb p pairs h, new, eq-eqb (get_or next p list_end) list_end (leads ∙ z))

      module _ (on : q ≡ list_end → ⊥) where
        -- the next id is not higher
        pub place_falls : ltb (get_or id p 0) (get_or id q 0) ≡ false → walk_from pairs id next n p seen ≡ record { good = false; seen = set seen p true }
        unfolding walk_from
        place_falls z = rw (more, lt-ltb p pairs h, new, leads, ne_eqb q list_end on, z)

        -- it is, and the walk goes on
        pub place_on : ltb (get_or id p 0) (get_or id q 0) ≡ true → walk_from pairs id next n p seen ≡ walk_from pairs id next f q (set seen p true)
        unfolding walk_from
        place_on z = rw (more, lt-ltb p pairs h, new, leads, ne_eqb q list_end on, z)

-- ---- one list of the pass

module _ (pairs : ℕ) (t : Tracings) (line_id : List ℕ) (k : ℕ) (seen : List Bool) (p : ℕ) (e : p ≡ get_or t.place k 0) (room : k < length t.place) where
  -- where the list starts, whatever is read past the table
  starts : get_or t.place k list_end ≡ p
  starts = get_d_any t.place k list_end 0 room ∙ sym e

  -- the first place is not in the table
  pub list_outside : pairs ≤ p → walk_list pairs t line_id k seen ≡ record { good = false; seen = seen }
  unfolding walk_list
  list_outside h = rw (starts, le-ltb p pairs h)

  -- it does not hold the line id
  pub list_other : p < pairs → (get_or t.id p 0 ≡ get_or line_id k 0 → ⊥) → walk_list pairs t line_id k seen ≡ record { good = false; seen = seen }
  unfolding walk_list
  list_other h d = rw (starts, lt-ltb p pairs h, ne_eqb (get_or t.id p 0) (get_or line_id k 0) d)

  -- it does
  pub list_on : p < pairs → get_or t.id p 0 ≡ get_or line_id k 0 → walk_list pairs t line_id k seen ≡ walk_from pairs t.id t.next pairs p seen
  unfolding walk_list
  list_on h d = rw (starts, lt-ltb p pairs h, eq-eqb (get_or t.id p 0) (get_or line_id k 0) d)
