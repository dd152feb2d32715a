-- What the searches of an addition ask of the slices that they read, what they find there, and where the line's id goes.
use Rattle.std.specs.Prelude.{ℕ, ◌*◌, ◌<◌, ◌≤◌, min, ◌≡◌, List, length, Float}
use Rattle.geometry.specs.declared.Line3D.{Line3D}
use Rattle.rules.specs.Adding.{known_id}
use Rattle.rules.specs.HalfEdge.{edge_of}
use Rattle.rules.specs.Limits.{Limits}
use Rattle.rules.specs.LineIds.{list_end, places_of, used_places, lowest_free, last_lower}
use Rattle.rules.specs.State.{State}
use Rattle.tables.specs.Regions.{xs_in, ys_in, sources_in, targets_in, star_table_in, least_floats, least_numbers, least_stars}
use Rattle.tables.specs.declared.PlanarGraph.{PlanarGraph}
use Rattle.searching.specs.Searches.{Searchable, Found}
use Rattle.making.specs.declared.Matches.{Matches}
use Rattle.making.specs.declared.IdPlace.{IdPlace}

-- the slices have room for their regions, and in these the searches can be made
pub record SearchableIn (l : Limits) (graph : PlanarGraph) (floats : List Float) (numbers stars : List ℕ) : Type 0 where
  pub float_room : least_floats l ≤ length floats
  pub number_room : least_numbers l ≤ length numbers
  pub star_room : least_stars l ≤ length stars
  pub tables : Searchable graph.node_count graph.edge_count (xs_in l floats) (ys_in l floats) (sources_in l numbers) (targets_in l numbers) (star_table_in l stars)

-- the three numbers are what the searches find for a line
abbrev pub FoundIn : Limits → Line3D → PlanarGraph → List Float → List ℕ → List ℕ → Matches → Type 0
FoundIn l g graph floats numbers stars m =
    Found g graph.node_count graph.edge_count (xs_in l floats) (ys_in l floats) (sources_in l numbers) (targets_in l numbers) (star_table_in l stars)
    m.start.0 m.end.0 m.half.0

-- where the id goes: the lowest free place, or the table's end where there is none; and where an edge was found, whether it has the id, and
-- behind which of its pairs the id goes
pub record PlacedIn (l : Limits) (g : Line3D) (s : State) (m : Matches) (spot : IdPlace) : Type 0 where
  pub free : spot.free ≡ min (lowest_free (used_places l.pairs s.tracings s.edges)) l.pairs
  pub known : m.half.0 < 2 * s.edges → spot.known ≡ known_id l s g.line_id m.half.0
  pub behind : m.half.0 < 2 * s.edges
      → spot.behind ≡ last_lower s.tracings.id g.line_id list_end (places_of l.pairs s.tracings (edge_of m.half.0))
