-- What the functions of this crate ask of the tables that they are lent.
use Rattle.std.specs.Prelude.{ℕ, ◌*◌, ◌<◌, ◌≤◌, Bool, List, length, get_or, Float}
use Rattle.rules.specs.Limits.{Limits}

-- the tables that the soundness test reads are as long as the limits need
pub record Room (l : Limits) (nodes_x nodes_y : List Float) (degree : List ℕ) (node_mark : List Bool) (source target : List ℕ) (half_mark : List Bool) (star : List ℕ) : Type 0 where
  pub x_room : l.nodes ≤ length nodes_x
  pub y_room : l.nodes ≤ length nodes_y
  pub degree_room : l.nodes ≤ length degree
  pub node_mark_room : l.nodes ≤ length node_mark
  pub source_room : 2 * l.edges ≤ length source
  pub target_room : 2 * l.edges ≤ length target
  pub half_mark_room : 2 * l.edges ≤ length half_mark
  pub star_room : 2 * l.edges ≤ length star

-- the tables that every state's tests read hold as much as is counted, and no more edges are counted than the limit
pub record Listable (l : Limits) (nodes edges : ℕ) (nodes_x nodes_y : List Float) (source target : List ℕ) (half_mark : List Bool) (star : List ℕ) : Type 0 where
  pub few_edges : edges ≤ l.edges
  pub x_room : nodes ≤ length nodes_x
  pub y_room : nodes ≤ length nodes_y
  pub source_room : 2 * edges ≤ length source
  pub target_room : 2 * edges ≤ length target
  pub half_mark_room : 2 * edges ≤ length half_mark
  pub star_room : 2 * edges ≤ length star

-- the first half-edges are within the limits, and each starts at a node within the limits
pub record Starts (l : Limits) (halves : ℕ) (source : List ℕ) : Type 0 where
  pub few : halves ≤ 2 * l.edges
  pub room : halves ≤ length source
  pub within : (h : ℕ) → h < halves → get_or source h 0 < l.nodes

-- what resetting asks: counts within the limits and the tables, and half-edges that start at nodes
pub record Resettable (l : Limits) (nodes edges : ℕ) (source degree : List ℕ) (node_mark half_mark : List Bool) : Type 0 where
  pub few_nodes : nodes ≤ l.nodes
  pub few_edges : edges ≤ l.edges
  pub source_room : 2 * edges ≤ length source
  pub degree_room : nodes ≤ length degree
  pub node_mark_room : nodes ≤ length node_mark
  pub half_mark_room : 2 * edges ≤ length half_mark
  pub starts : (h : ℕ) → h < 2 * edges → get_or source h 0 < nodes
