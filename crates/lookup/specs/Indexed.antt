-- Tables of chains that hold the nodes and the half-edges of a graph.
use Rattle.std.specs.Prelude.{ℕ, ◌+◌, ◌*◌, ◌<◌, ◌≤◌, List, Float, length, get_or}
use Rattle.chains.specs.Chains.{Chained}
use Rattle.rules.specs.Limits.{Limits}
use Rattle.rules.specs.State.{State}
use Rattle.lookup.specs.Codes.{node_heads, half_heads, node_code_lem, half_code_lem}

-- the first nodes of the tables are chained by key
pub record NodesChained (nodes : ℕ) (xs ys : List Float) (chains : List ℕ) : Type 0 where
  pub room_x : nodes ≤ length xs
  pub room_y : nodes ≤ length ys
  pub room : node_heads + nodes ≤ length chains
  pub chained : Chained node_heads (node_code_lem xs ys) nodes chains

-- the half-edges at the first entries of the star table are chained by their ends
pub record HalvesChained (halves : ℕ) (source target star chains : List ℕ) : Type 0 where
  pub room_star : halves ≤ length star
  pub known : (i : ℕ) → i < halves → (get_or star i 0 < length source) × (get_or star i 0 < length target)
  pub room : half_heads + halves ≤ length chains
  pub chained : Chained half_heads (half_code_lem source target star) halves chains

-- all nodes and half-edges of a graph are chained, and the tables of chains have room for as many as there may be
pub record Indexed (l : Limits) (s : State) (node_chains half_chains : List ℕ) : Type 0 where
  pub nodes : Chained node_heads (node_code_lem s.node_x s.node_y) s.nodes node_chains
  pub halves : Chained half_heads (half_code_lem s.source s.target s.star) (2 * s.edges) half_chains
  pub node_room : node_heads + l.nodes ≤ length node_chains
  pub half_room : half_heads + 2 * l.edges ≤ length half_chains
