-- The stores of one more line id make the state with it: the pair goes first, or behind the last one with a lower id.
use Prim.Native.Nat.{ℕ}
use mathlib.Core.Path.{◌≡◌, sym, ap, ◌∙◌}
use mathlib.Core.Bool.{Bool, false, cond}
use mathlib.Core.List.{List}
use lib.Dec.{eqb}
use lib.Ieee.{Float}
use lib.ListN.{get_or, set}
use lib.Seq.{set-get_or}
use borrow.Author.Tests.{eq-eqb, ne_eqb}
use Rattle.rules.specs.Adding.{with_id}
use Rattle.rules.specs.Limits.{Limits}
use Rattle.rules.specs.LineIds.{Tracings, list_end, start_list, put_behind_lem, enter_id_lem}
use Rattle.tables.specs.Tables.{state_of}
use Rattle.tables.specs.Regions.{xs_in, ys_in, zs_in, segments_in, sources_in, targets_in, list_places_in, links_in, star_table_in, degrees_in, node_marks_in, half_marks_in, line_ids_in, pair_ids_in, tracings_in, state_in}
use Rattle.tables.specs.declared.PlanarGraph.{PlanarGraph}
use Rattle.table_entries.specs.Written.{IdRoom}

module _ (l : Limits) (k i b p : ℕ) (numbers ids : List ℕ) (r : IdRoom l k i b p numbers ids) where
  -- the lists
  abbrev old : Tracings
  old = tracings_in l numbers ids

  -- the pair goes first or behind b
  enters : enter_id_lem l.pairs k i p old ≡ cond (eqb b list_end) (start_list k i p (get_or old.place k list_end) old) (put_behind_lem b i p old)
  unfolding enter_id_lem
  enters = ap (λ z. cond (eqb z list_end) (start_list k i p (get_or old.place k list_end) old) (put_behind_lem z i p old)) (sym r.behind)

  -- what the stores leave
  module _ (numbers' ids' : List ℕ) (source : sources_in l numbers' ≡ sources_in l numbers) (target : targets_in l numbers' ≡ targets_in l numbers)
      (pair : pair_ids_in l ids' ≡ set (pair_ids_in l ids) p i) (graph : PlanarGraph) (floats : List Float) (stars : List ℕ) (marks : List Bool) where
    -- with these line ids and lists it is the state with the id
    entered : line_ids_in l ids' ≡ (with_id false l.pairs k i p (state_in l graph floats numbers stars marks ids)).line_id
        → tracings_in l numbers' ids' ≡ enter_id_lem l.pairs k i p old
        → state_in l graph floats numbers' stars marks ids' ≡ with_id false l.pairs k i p (state_in l graph floats numbers stars marks ids)
    entered line lists = λ j. state_of graph (xs_in l floats) (ys_in l floats) (zs_in l floats) (degrees_in l stars) (node_marks_in l marks) (segments_in l floats)
        (line j) (source j) (target j) (half_marks_in l marks) (star_table_in l stars) (lists j)

    -- first: it is the lowest id
    pub first-entered : b ≡ list_end → list_places_in l numbers' ≡ set (list_places_in l numbers) k p
        → links_in l numbers' ≡ set (links_in l numbers) p (get_or (list_places_in l numbers) k list_end) → line_ids_in l ids' ≡ set (line_ids_in l ids) k i
        → state_in l graph floats numbers' stars marks ids' ≡ with_id false l.pairs k i p (state_in l graph floats numbers stars marks ids)
    first-entered e list link line = entered
        (line ∙ ap (set (line_ids_in l ids) k) (sym (r.lowest e)))
        ((λ j. record { place = list j; id = pair j; next = link j })
        ∙ sym (enters ∙ ap (λ c. cond c (start_list k i p (get_or old.place k list_end) old) (put_behind_lem b i p old)) (eq-eqb b list_end e)))

    -- behind b: the line id stays
    pub behind-entered : (b ≡ list_end → ⊥) → list_places_in l numbers' ≡ list_places_in l numbers
        → links_in l numbers' ≡ set (set (links_in l numbers) p (get_or (links_in l numbers) b list_end)) b p → line_ids_in l ids' ≡ line_ids_in l ids
        → state_in l graph floats numbers' stars marks ids' ≡ with_id false l.pairs k i p (state_in l graph floats numbers stars marks ids)
    behind-entered d list link line = entered
        (line ∙ sym (ap (set (line_ids_in l ids) k) (r.stays d) ∙ set-get_or (line_ids_in l ids) k 0))
        ((λ j. record { place = list j; id = pair j; next = link j })
        ∙ sym (enters ∙ ap (λ c. cond c (start_list k i p (get_or old.place k list_end) old) (put_behind_lem b i p old)) (ne_eqb b list_end d)))
