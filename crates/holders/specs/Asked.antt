-- What finding the holes asks: lists that hold rings, whose half-edges start and end at nodes that lie at coordinates.
use Rattle.std.specs.Prelude.{ℕ, ◌*◌, ◌<◌, ◌≤◌, ◌≡◌, List, length, get_or, T, Float, ℤ}
use Rattle.std.specs.Float.{nan}
use Rattle.lists.specs.Lists.{below}
use Rattle.geometry.specs.Coordinate.{coordinate_bound, coordinate}
use Rattle.rules.specs.Limits.{limits, shaped_rings}
use Rattle.rules.specs.Face.{Ring, face_number_lem}
use Rattle.rules.specs.Ringing.{side_number_lem, exact_side}
use Rattle.rules.specs.Claim.{Joined}
use Rattle.rules.specs.Holes.{enclosed, is_open_lem, ring_at}
use Rattle.ring_lists.specs.Shown.{Shown}
use Rattle.inside.specs.Spots.{RingWithin, Spotted}
use Rattle.candidates.specs.Candidates.{RingListable, Listable}
use Rattle.holding.specs.Maps.{origins, Starting, Map, Holds}
use Rattle.hole_listing.specs.Listing.{OpenListed}

-- the nodes lie at coordinates
pub record Placed (nodes : ℕ) (xs ys : List Float) : Type 0 where
  pub few : nodes ≤ limits.nodes
  pub in_xs : nodes ≤ length xs
  pub in_ys : nodes ≤ length ys
  pub whole_x : (n : ℕ) → n < nodes → T (coordinate coordinate_bound (get_or xs n nan))
  pub whole_y : (n : ℕ) → n < nodes → T (coordinate coordinate_bound (get_or ys n nan))

-- a ring has half-edges, which start and end at nodes and close
pub record Closed (nodes : ℕ) (source ring : List ℕ) : Type 0 where
  pub some : 0 < length ring
  pub within : RingWithin ring source nodes
  pub joined : Joined (origins source) (get_or ring 0 0) ring

-- the lists hold the rings, the half-edges and no more, with the side of each
pub record Asked (rs : List Ring) (nodes : ℕ) (xs ys : List Float) (source half_edges_lem first size face side : List ℕ) (area : List Float) (count : ℕ) : Type 0 where
  pub placed : Placed nodes xs ys
  pub shown : Shown rs half_edges_lem first size face area
  pub counted : count ≡ length rs
  pub short : length half_edges_lem ≤ 2 * limits.edges
  pub starts : Starting half_edges_lem source nodes
  pub closed : (i : ℕ) → i < length rs → Closed nodes source (ring_at rs i).half_edges_lem
  pub in_side : length rs ≤ length side
  pub sided : (i : ℕ) → i < length rs → get_or side i 0 ≡ side_number_lem (exact_side (ring_at rs i).doubled)
  pub apart : (i j : ℕ) → i < length rs → j < length rs → face_number_lem rs (ring_at rs i) ≡ face_number_lem rs (ring_at rs j) → i ≡ j
  pub few_enclosed : length (below (λ i. enclosed (ring_at rs i)) (length rs)) ≤ shaped_rings limits
  pub few_open : length (below (λ i. is_open_lem (ring_at rs i)) (length rs)) ≤ shaped_rings limits

-- the same of a map with whole numbers: its rings stand in the lists with their sides and areas
pub record Ready (rs : List Ring) (bound : ℕ) (m : Map) (side : List ℕ) (area : List Float) (count : ℕ) : Type 0 where
  pub map : Holds rs m bound
  pub few_nodes : bound ≤ limits.nodes
  pub counted : count ≡ length rs
  pub in_side : count ≤ length side
  pub in_area : count ≤ length area
  pub each : (i : ℕ) → i < count → RingListable rs m.nodes m.xs m.ys m.first m.size side area i
  pub few_enclosed : length (below (λ i. enclosed (ring_at rs i)) count) ≤ shaped_rings limits
  pub opens : OpenListed rs side area count

-- what boxing the enclosed rings of it asks: nodes that lie at coordinates, and rings that can be listed
pub record Boxable (rs : List Ring) (bound : ℕ) (nodes : List ℕ) (xs ys : List ℤ) (first size side : List ℕ) (area : List Float) (count : ℕ) (rings : List ℕ) (numbers : List ℤ) : Type 0 where
  pub spotted : Spotted coordinate_bound bound xs ys
  pub listable : Listable rs nodes xs ys first size side area bound count rings numbers
