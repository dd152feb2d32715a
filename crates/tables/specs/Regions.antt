-- The tables as regions of the five lent slices, for any limits. The last region of a slice runs to its end, so that a state holds every
-- entry of every slice.
use Rattle.std.specs.Prelude.{ℕ, ◌+◌, ◌*◌, ◌≤◌, Bool, List, length, take, drop, Float}
use Rattle.rules.specs.Limits.{Limits}
use Rattle.rules.specs.LineIds.{Tracings}
use Rattle.rules.specs.State.{State}
use Rattle.tables.specs.Tables.{state_of}
use Rattle.tables.specs.declared.PlanarGraph.{PlanarGraph}

-- ---- floats: x, y and z of the nodes, then the segments

abbrev pub xs_in : Limits → List Float → List Float
xs_in l floats = take l.nodes floats

abbrev pub ys_in : Limits → List Float → List Float
ys_in l floats = take l.nodes (drop l.nodes floats)

abbrev pub zs_in : Limits → List Float → List Float
zs_in l floats = take l.nodes (drop (2 * l.nodes) floats)

abbrev pub segments_in : Limits → List Float → List Float
segments_in l floats = drop (3 * l.nodes) floats

-- ---- numbers: where half-edges start, then where they end; the places of the lists of line ids, then the next place of each pair

abbrev pub sources_in : Limits → List ℕ → List ℕ
sources_in l numbers = take (2 * l.edges) numbers

abbrev pub targets_in : Limits → List ℕ → List ℕ
targets_in l numbers = take (2 * l.edges) (drop (2 * l.edges) numbers)

abbrev pub list_places_in : Limits → List ℕ → List ℕ
list_places_in l numbers = take l.edges (drop (4 * l.edges) numbers)

abbrev pub links_in : Limits → List ℕ → List ℕ
links_in l numbers = drop (5 * l.edges) numbers

-- ---- stars: the star table, then the degrees of the nodes

abbrev pub star_table_in : Limits → List ℕ → List ℕ
star_table_in l stars = take (2 * l.edges) stars

abbrev pub degrees_in : Limits → List ℕ → List ℕ
degrees_in l stars = drop (2 * l.edges) stars

-- ---- marks: those of the nodes, then those of the half-edges

abbrev pub node_marks_in : Limits → List Bool → List Bool
node_marks_in l marks = take l.nodes marks

abbrev pub half_marks_in : Limits → List Bool → List Bool
half_marks_in l marks = drop l.nodes marks

-- ---- ids: the line ids of the edges, then those of the pairs

abbrev pub line_ids_in : Limits → List ℕ → List ℕ
line_ids_in l ids = take l.edges ids

abbrev pub pair_ids_in : Limits → List ℕ → List ℕ
pair_ids_in l ids = drop l.edges ids

-- ---- all of them

-- the lists of line ids
abbrev pub tracings_in : Limits → List ℕ → List ℕ → Tracings
tracings_in l numbers ids = record { place = list_places_in l numbers; id = pair_ids_in l ids; next = links_in l numbers }

-- the small state and the five slices as the state of the rules
abbrev pub state_in : Limits → PlanarGraph → List Float → List ℕ → List ℕ → List Bool → List ℕ → State
state_in l g floats numbers stars marks ids =
    state_of g (xs_in l floats) (ys_in l floats) (zs_in l floats) (degrees_in l stars) (node_marks_in l marks)
    (segments_in l floats) (line_ids_in l ids) (sources_in l numbers) (targets_in l numbers) (half_marks_in l marks) (star_table_in l stars) (tracings_in l numbers ids)

-- ---- the least length of each slice

abbrev pub least_floats : Limits → ℕ
least_floats l = 3 * l.nodes + 6 * l.edges

abbrev pub least_numbers : Limits → ℕ
least_numbers l = 5 * l.edges + l.pairs

abbrev pub least_stars : Limits → ℕ
least_stars l = 2 * l.edges + l.nodes

abbrev pub least_marks : Limits → ℕ
least_marks l = l.nodes + 2 * l.edges

abbrev pub least_ids : Limits → ℕ
least_ids l = l.edges + l.pairs

-- every slice has room for its regions
pub record SliceRoom (l : Limits) (floats : List Float) (numbers stars : List ℕ) (marks : List Bool) (ids : List ℕ) : Type 0 where
  pub float_room : least_floats l ≤ length floats
  pub number_room : least_numbers l ≤ length numbers
  pub star_room : least_stars l ≤ length stars
  pub mark_room : least_marks l ≤ length marks
  pub id_room : least_ids l ≤ length ids
