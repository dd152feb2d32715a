-- Whether a ring holds an open one, by the nodes of both; and the stamps that tell which nodes a ring has.
use Rattle.std.specs.Prelude.{ℕ, suc, ◌<◌, ◌≤◌, ◌≡◌, ◌⊎◌, Bool, false, not, ◌&&◌, List, length, get_or, ℤ}
use Rattle.lists.specs.Lists.{pick, member, last_of, In}
use Rattle.geometry.specs.Angle.{Point}
use Rattle.geometry.specs.Coordinate.{coordinate_bound}
use Rattle.rules.specs.Euler.{some_of_lem}
use Rattle.rules.specs.Face.{Ring}
use Rattle.rules.specs.Holes.{outside, ring_nodes, ring_at, left_of, foremost_of}
use Rattle.inside.specs.Spots.{spot_in, NodesWithin, Spotted}
use Rattle.inside.specs.Standing.{stands_from, is_inside}
use Rattle.holding.specs.Maps.{origins}

-- the nodes that are not among those passed
abbrev pub free : List ℕ → List ℕ → List ℕ
free passed nodes = pick (λ n. not (member n passed)) nodes

-- a point is strictly inside the ring with these nodes
abbrev pub inside_by : (ℕ → Point) → List ℕ → Point → Bool
inside_by at nodes p = is_inside (stands_from at p false (last_of 0 nodes) nodes)

-- the test point is strictly inside
abbrev pub holds_by_lem : (ℕ → Point) → List ℕ → List ℕ → Bool
holds_by_lem at passed nodes = some_of_lem (free passed nodes) && inside_by at passed (at (foremost_of (left_of at) 0 (free passed nodes)))

-- what the test asks: the nodes of a ring and of another, and stamps of which those with this ring's are its nodes
pub record Testable (bound : ℕ) (outer inner : List ℕ) (xs ys : List ℤ) (stamp : ℕ) (stamps : List ℕ) : Type 0 where
  pub some : 0 < length outer
  pub spots : Spotted coordinate_bound bound xs ys
  pub outer_nodes : NodesWithin outer bound
  pub inner_nodes : NodesWithin inner bound
  pub room : bound ≤ length stamps
  pub few : length stamps ≤ outside
  pub fresh : (n : ℕ) → get_or stamps n 0 ≡ stamp → In n outer

-- a node of the list to whose left none of it lies
pub record Corner (xs ys : List ℤ) (nodes : List ℕ) (corner : ℕ) : Type 0 where
  pub one : In corner nodes
  pub first : (n : ℕ) → In n nodes → left_of (spot_in xs ys) n corner ≡ false

-- only nodes of a list get the stamp, and the others keep what they had
pub record Restamped (nodes : List ℕ) (stamp : ℕ) (before after : List ℕ) : Type 0 where
  pub size : length after ≡ length before
  pub each : (n : ℕ) → n < length before → (get_or after n 0 ≡ get_or before n 0) ⊎ ((get_or after n 0 ≡ stamp) × In n nodes)

-- a stamp is the number of a ring that has the node, and one more; 0 says nothing
pub record Stamps (rs : List Ring) (source : List ℕ) (bound : ℕ) (stamps : List ℕ) : Type 0 where
  pub room : bound ≤ length stamps
  pub few : length stamps ≤ outside
  pub mine : (n i : ℕ) → get_or stamps n 0 ≡ suc i → In n (ring_nodes (origins source) (ring_at rs i).half_edges_lem)
