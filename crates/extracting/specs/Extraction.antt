-- What the whole of ring extraction asks and leaves.
use Rattle.std.specs.Prelude.{ℕ, ◌*◌, ◌≤◌, ◌≡◌, Bool, true, List, map, length, take, Float}
use Rattle.lists.specs.Lists.{flatten, over}
use Rattle.rules.specs.Limits.{Limits}
use Rattle.rules.specs.LineIds.{Tracings}
use Rattle.rules.specs.State.{State, arrangement, node_key, roomy, sound}
use Rattle.rules.specs.Euler.{census}
use Rattle.rules.specs.Naming.{naming_comparisons}
use Rattle.rules.specs.Ringing.{RingReply, RingLists, rings_of, ring_replies_lem, side_number_lem, side_area_lem}
use Rattle.tables.specs.Tables.{state_of}
use Rattle.tables.specs.declared.PlanarGraph.{PlanarGraph}
use Rattle.stars.specs.Grouped.{Grouped}
use Rattle.cycles.specs.Census.{census_of}
use Rattle.extracting.specs.declared.Extracted.{Extracted}

-- the six lent lists
abbrev pub lists_of : List ℕ → List ℕ → List ℕ → List ℕ → List ℕ → List Float → RingLists
lists_of half_edges_lem first size face side area = record { half_edges_lem = half_edges_lem; first = first; length = size; face = face; side = side; area = area }

-- each of them has n entries
pub record Room (n : ℕ) (out : RingLists) : Type 0 where
  pub in_half_edges : n ≤ length out.half_edges_lem
  pub in_first : n ≤ length out.first
  pub in_size : n ≤ length out.length
  pub in_face : n ≤ length out.face
  pub in_side : n ≤ length out.side
  pub in_area : n ≤ length out.area

-- the tables are, with others that are not read, those of a sound state whose stars are grouped, and the lists are long enough
pub record Extractable (l : Limits) (graph : PlanarGraph) (nodes_x nodes_y : List Float) (source : List ℕ) (marks : List Bool) (offsets grouped : List ℕ) (out : RingLists) : Type 0 where
  pub nodes_z : List Float
  pub degree : List ℕ
  pub nodes_marked : List Bool
  pub lines : List Float
  pub line_ids : List ℕ
  pub target : List ℕ
  pub star : List ℕ
  pub tracings : Tracings
  pub roomed : roomy l (state_of graph nodes_x nodes_y nodes_z degree nodes_marked lines line_ids source target marks star tracings) ≡ true
  pub sense : sound l (state_of graph nodes_x nodes_y nodes_z degree nodes_marked lines line_ids source target marks star tracings) ≡ true
  pub groups : Grouped graph.node_count source (take (2 * graph.edge_count) star) offsets grouped
  pub long : Room (2 * graph.edge_count) out

-- what is replied of the rings of a state
abbrev pub replies_of : State → List RingReply
replies_of s = ring_replies_lem s (rings_of s) 0 (rings_of s)

-- the rings of a state are counted and written into the lists, its census is taken, the comparisons of naming are counted, and the stage is 4
pub record Extraction (s : State) (out out' : RingLists) (r : Extracted) : Type 0 where
  pub advanced : r.graph ≡ record { node_count = s.nodes; edge_count = s.edges; stage = 4 }
  pub count : r.count ≡ length (rings_of s)
  pub counted : census_of r.census ≡ census (arrangement s)
  pub compared : r.comparisons ≡ naming_comparisons (node_key s) (arrangement s) (map (λ q. q.half_edges_lem) (rings_of s))
  pub half_edges_lem : out'.half_edges_lem ≡ over (flatten (map (λ q. q.half_edges_lem) (rings_of s))) out.half_edges_lem
  pub first : out'.first ≡ over (map (λ w. w.first) (replies_of s)) out.first
  pub size : out'.length ≡ over (map (λ w. w.length) (replies_of s)) out.length
  pub face : out'.face ≡ over (map (λ w. w.face) (replies_of s)) out.face
  pub side : out'.side ≡ over (map (λ w. side_number_lem w.side) (replies_of s)) out.side
  pub area : out'.area ≡ over (map (λ w. side_area_lem w.side) (replies_of s)) out.area

-- so it is for every sound state that has the tables that are read, and whose stars are the groups
abbrev pub Extracts : Limits → PlanarGraph → List Float → List Float → List ℕ → List Bool → List ℕ → List ℕ → RingLists → RingLists → Extracted → Type 0
Extracts l graph nodes_x nodes_y source marks offsets grouped out out' r =
    (nodes_z : List Float) (degree : List ℕ) (nodes_marked : List Bool) (lines : List Float) (line_ids target star : List ℕ) (tracings : Tracings)
    → let s = state_of graph nodes_x nodes_y nodes_z degree nodes_marked lines line_ids source target marks star tracings in
    sound l s ≡ true → Grouped graph.node_count source (take (2 * graph.edge_count) star) offsets grouped → Extraction s out out' r
