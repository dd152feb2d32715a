-- What writing the rings that lists hold asks.
use Rattle.std.specs.Prelude.{ℕ, ◌*◌, ◌<◌, ◌≤◌, ◌≡◌, List, length, get_or, ℤ, pos, Float}
use Rattle.std.specs.Float.{nan}
use Rattle.rules.specs.Face.{Ring}
use Rattle.rules.specs.Limits.{limits}
use Rattle.rules.specs.Listing.{no_ring}
use Rattle.ring_lists.specs.Shown.{HalfOf, Shown}

-- the first areas are half of these numbers
pub record Halves (area : List Float) (doubled : List ℤ) : Type 0 where
  pub in_area : length doubled ≤ length area
  pub each : (k : ℕ) → k < length doubled → HalfOf (get_or area k nan) (get_or doubled k (pos 0))

-- the lists hold the rings, none of which is empty, and have an entry for each half-edge that a graph may have
pub record Listed (rings : List Ring) (half_edges_lem first size face : List ℕ) (area : List Float) : Type 0 where
  pub shown : Shown rings half_edges_lem first size face area
  pub some : (k : ℕ) → k < length rings → 0 < length (get_or rings k no_ring).half_edges_lem
  pub wide_halves : length half_edges_lem ≡ 2 * limits.edges
  pub wide_first : length first ≡ 2 * limits.edges
  pub wide_size : length size ≡ 2 * limits.edges
