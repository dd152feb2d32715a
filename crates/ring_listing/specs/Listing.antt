-- What listing the rings asks of the lent lists, and what it leaves.
use Rattle.std.specs.Prelude.{ℕ, ◌+◌, ◌*◌, ◌≤◌, ◌≡◌, List, Float, length, get_or, take, drop}
use Rattle.rules.specs.Cycles.{Arrangement, halves, maximal_rings}
use Rattle.rules.specs.Split.{split_successor, minimal_rings}
use Rattle.rules.specs.Sane.{Live}
use Rattle.rules.specs.Euler.{census}
use Rattle.cycles.specs.Census.{census_of}
use Rattle.lists.specs.Lists.{flatten}
use Rattle.ring_tally.specs.Keys.{keys_y, Keyed}
use Rattle.rings.specs.Listing.{RingRows, RowsRoom, Listed}
use Rattle.ring_listing.specs.declared.listing.RingCount.{RingCount}

-- the keys of the half-edges of a list out of the front of both halves: the bits of x
abbrev pub keys_x_of : List ℕ → List ℕ → List ℕ
keys_x_of half_edges_lem keys = take (length half_edges_lem) keys

-- and those of y
abbrev pub keys_y_of : List ℕ → List ℕ → List ℕ
keys_y_of half_edges_lem keys = take (length half_edges_lem) (drop keys_y keys)

-- a table has the successors along the rings of an arrangement, whose maximal rings are counted
pub record Successors (g : Arrangement) (next : List ℕ) (maximal : ℕ) : Type 0 where
  pub split : (h : ℕ) → Live (halves g) g.active h → get_or next h 0 ≡ split_successor g h
  pub number : maximal ≡ length (maximal_rings g)

-- the five lists have an entry for each half-edge, and the keys two
pub record RingRoom (edges : ℕ) (half_edges_lem keys : List ℕ) (rows : RingRows) : Type 0 where
  pub in_half_edges : 2 * edges ≤ length half_edges_lem
  pub in_keys : keys_y + 2 * edges ≤ length keys
  pub in_rows : RowsRoom (2 * edges) rows

-- the rings of an arrangement are listed with their keys and counted, and its census is taken
pub record RingsListed (g : Arrangement) (source : List ℕ) (xs ys : List Float) (half_edges₀ keys₀ : List ℕ) (rows₀ : RingRows) (half_edges_lem keys : List ℕ) (rows : RingRows) (r : RingCount) : Type 0 where
  pub listed : Listed (minimal_rings g) source xs ys half_edges₀ rows₀ half_edges_lem rows r.count
  pub keyed : Keyed keys_y (flatten (minimal_rings g)) source xs ys keys₀ keys
  pub counted : census_of r.census ≡ census g
