-- What pruning asks of the tables.
use Rattle.std.specs.Prelude.{ℕ, suc, ◌*◌, ◌<◌, ◌≤◌, Bool, List, length, get_or}
use Rattle.rules.specs.Limits.{Limits}
use Rattle.rules.specs.Counted.{Stars, Counted}
use Rattle.stars.specs.Groups.{group_of}

-- the node that a half-edge starts at
abbrev pub origin_in : List ℕ → ℕ → ℕ
origin_in source h = get_or source h 0

-- the groups lie within the list, and are the stars
pub record Starred (nodes edges : ℕ) (offsets grouped source : List ℕ) : Type 0 where
  pub room : nodes < length offsets
  pub ends : (n : ℕ) → n < nodes → get_or offsets (suc n) 0 ≤ length grouped
  pub source_room : 2 * edges ≤ length source
  pub stars : Stars nodes edges (group_of offsets grouped) (origin_in source)

-- counts within the limits, stars, tables that count right, and a list with room for every edge
pub record Prunable (l : Limits) (nodes edges : ℕ) (offsets grouped source degrees : List ℕ) (node_marks half_marks : List Bool) (out : List ℕ) : Type 0 where
  pub few_nodes : nodes ≤ l.nodes
  pub few_edges : edges ≤ l.edges
  pub starred : Starred nodes edges offsets grouped source
  pub counted : Counted nodes edges (group_of offsets grouped) degrees node_marks half_marks
  pub list_room : edges ≤ length out
