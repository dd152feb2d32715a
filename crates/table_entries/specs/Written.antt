-- The counts with a new node and a new edge, and the room that writing them, or one more line id, asks.
use Rattle.std.specs.Prelude.{ℕ, suc, ◌<◌, ◌≤◌, min, ◌≡◌, Bool, true, false, List, Float, length, get_or}
use Rattle.rules.specs.Limits.{Limits}
use Rattle.rules.specs.LineIds.{list_end, places_of, last_lower}
use Rattle.tables.specs.Regions.{degrees_in, line_ids_in, pair_ids_in, tracings_in, least_floats, least_numbers, least_stars, least_marks, least_ids, SliceRoom}
use Rattle.tables.specs.declared.PlanarGraph.{PlanarGraph}
use Rattle.adding.specs.Written.{raised}

-- the counts with node n, where it is new
abbrev pub node_counted : Bool → ℕ → PlanarGraph → PlanarGraph
node_counted false n g = g
node_counted true n g = record { node_count = suc n; edge_count = g.edge_count; stage = g.stage }

-- the counts with one more edge
abbrev pub edge_counted : PlanarGraph → PlanarGraph
edge_counted g = record { node_count = g.node_count; edge_count = suc g.edge_count; stage = g.stage }

-- the slices that nodes lie in have an entry for node n
pub record NodeRoom (l : Limits) (n : ℕ) (floats : List Float) (stars : List ℕ) (marks : List Bool) : Type 0 where
  pub few : n < l.nodes
  pub float_room : least_floats l ≤ length floats
  pub star_room : least_stars l ≤ length stars
  pub mark_room : least_marks l ≤ length marks

-- the degree of node n can be raised: a u16 holds one more
abbrev pub Raisable : List ℕ → ℕ → Type 0
Raisable degrees n = get_or degrees n 0 < 65535

-- the star table has entries for the halves of edge k, and the degrees of nodes u and v can be raised
pub record StarRoom (l : Limits) (k u v : ℕ) (stars : List ℕ) : Type 0 where
  pub few : k < l.edges
  pub from : u < l.nodes
  pub to : v < l.nodes
  pub star_room : least_stars l ≤ length stars
  pub low_from : Raisable (degrees_in l stars) u
  pub low_to : Raisable (raised (degrees_in l stars) u) v

-- every slice has entries for edge k from node u to node v, and for a pair at place p
pub record EdgeRoom (l : Limits) (k u v p : ℕ) (floats : List Float) (numbers stars : List ℕ) (marks : List Bool) (ids : List ℕ) : Type 0 where
  pub room : SliceRoom l floats numbers stars marks ids
  pub last : StarRoom l k u v stars
  pub space : p < l.pairs

-- the slices have entries for a pair at place p with id i behind edge k, which goes behind the one at b, or first
pub record IdRoom (l : Limits) (k i b p : ℕ) (numbers ids : List ℕ) : Type 0 where
  pub few : k < l.edges
  pub space : p < l.pairs
  pub number_room : least_numbers l ≤ length numbers
  pub id_room : least_ids l ≤ length ids
  pub behind : b ≡ last_lower (pair_ids_in l ids) i list_end (places_of l.pairs (tracings_in l numbers ids) k)
  pub within : (b ≡ list_end → ⊥) → b < l.pairs
  -- it goes first where it is the lowest
  pub lowest : b ≡ list_end → min i (get_or (line_ids_in l ids) k 0) ≡ i
  pub stays : (b ≡ list_end → ⊥) → min i (get_or (line_ids_in l ids) k 0) ≡ get_or (line_ids_in l ids) k 0
