-- The searches of an addition, over the lists that they read.
use Rattle.std.specs.Prelude.{ℕ, ◌*◌, ◌<◌, ◌≤◌, ◌≡◌, List, eqb, Float, length, get_or, take}
use Rattle.lists.specs.Lists.{In, upto, first_where}
use Rattle.geometry.specs.declared.Line3D.{Line3D}
use Rattle.rotation.specs.Rotation.{Key, key_same}
use Rattle.rules.specs.Keys.{key_of}
use Rattle.rules.specs.Limits.{limits}
use Rattle.rules.specs.State.{star_in, key_in_lem}

-- the lowest node with the key, or the node count
abbrev pub find_node_in : ℕ → List Float → List Float → Key → ℕ
find_node_in nodes xs ys k = first_where (λ n. key_same (key_in_lem xs ys n) k) nodes (upto nodes)

-- the first half-edge of u's star that ends at v, or the number of half-edges
abbrev pub find_half_in : ℕ → List ℕ → List ℕ → List ℕ → ℕ → ℕ → ℕ
find_half_in edges source target star u v = first_where (λ h. eqb (get_or target h 0) v) (2 * edges) (star_in source (take (2 * edges) star) u)

-- u, w and h are what the searches find for a line: the nodes of its ends, and the half-edge between them
pub record Found (g : Line3D) (nodes edges : ℕ) (xs ys : List Float) (source target star : List ℕ) (u w h : ℕ) : Type 0 where
  pub start : u ≡ find_node_in nodes xs ys (key_of g.start.x g.start.y)
  pub end : w ≡ find_node_in nodes xs ys (key_of g.end.x g.end.y)
  pub half : h ≡ find_half_in edges source target star u w

-- what the searches ask of the lists: room for the counts, and star entries that are half-edges of the tables and join two of the nodes
pub record Searchable (nodes edges : ℕ) (xs ys : List Float) (source target star : List ℕ) : Type 0 where
  pub few_nodes : nodes ≤ limits.nodes
  pub few_edges : edges ≤ limits.edges
  pub room_x : nodes ≤ length xs
  pub room_y : nodes ≤ length ys
  pub room_star : 2 * edges ≤ length star
  pub known : (i : ℕ) → i < 2 * edges → (get_or star i 0 < length source) × (get_or star i 0 < length target)
  pub within : (h : ℕ) → In h (take (2 * edges) star) → (get_or source h 0 < nodes) × (get_or target h 0 < nodes)
