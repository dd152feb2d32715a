-- Points in whole numbers, from tables of x and y, and what the test of a ring against one reads.
use Rattle.std.specs.Prelude.{ℕ, ◌<◌, ◌≤◌, List, length, get_or, ℤ, pos, slice_index, slice_index_or, unsigned_abs}
use Rattle.lists.specs.Lists.{In}
use Rattle.geometry.specs.Angle.{Point}
use Rattle.rules.specs.HalfEdge.{twin}

-- the point at x and y
abbrev pub spot : ℤ → ℤ → Point
spot x y = record { x = x; y = y }

-- where node n of a table of x and one of y lies
abbrev pub spot_in : List ℤ → List ℤ → ℕ → Point
spot_in xs ys n = spot (slice_index_or xs n (pos 0)) (slice_index_or ys n (pos 0))

-- x and y lie no further from zero than the bound
abbrev pub Near : ℕ → Point → Type 0
Near bound p = (unsigned_abs p.x ≤ bound) × (unsigned_abs p.y ≤ bound)

-- of the two ends of a line, and of a point
abbrev pub AllNear : ℕ → Point → Point → Point → Type 0
AllNear bound a b p = Near bound a × Near bound b × Near bound p

-- of the first n entries of a table
abbrev pub Within : ℕ → List ℤ → ℕ → Type 0
Within bound xs n = (k : ℕ) → k < n → unsigned_abs (slice_index_or xs k (pos 0)) ≤ bound

-- every node of a list is below a count
abbrev pub NodesWithin : List ℕ → ℕ → Type 0
NodesWithin nodes count = (n : ℕ) → In n nodes → n < count

-- a half-edge and its twin stand in the table of sources, and start at nodes below the count
pub record LineWithin (h : ℕ) (source : List ℕ) (nodes : ℕ) : Type 0 where
  pub half : h < length source
  pub other : twin h < length source
  pub start : get_or source h 0 < nodes
  pub finish : get_or source (twin h) 0 < nodes

-- those of a ring do
abbrev pub RingWithin : List ℕ → List ℕ → ℕ → Type 0
RingWithin ring source nodes = (k : ℕ) → k < length ring → LineWithin (slice_index ring k) source nodes

-- the nodes below a count stand in the tables of x and y, and lie within the bound
pub record Spotted (bound nodes : ℕ) (xs ys : List ℤ) : Type 0 where
  pub in_xs : nodes ≤ length xs
  pub in_ys : nodes ≤ length ys
  pub near_xs : Within bound xs nodes
  pub near_ys : Within bound ys nodes
