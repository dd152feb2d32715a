-- Lists that hold rings, ring by ring, with their face numbers and areas. Each area is exactly half of a whole number.
use Rattle.std.specs.Prelude.{◌≡◌, ℕ, ◌+◌, ◌*◌, ◌^◌, ◌<◌, ◌≤◌, List, map, length, get_or, take, drop, ℤ, slice_index, slice_index_or, unsigned_abs, Float}
use Rattle.std.specs.Float.{nan}
use Rattle.lists.specs.Lists.{flatten}
use Rattle.rules.specs.Face.{Ring, face_number_lem}
use Rattle.rules.specs.Limits.{limits}
use Rattle.rules.specs.Ringing.{side_area_lem, exact_side}
use Rattle.rules.specs.Listing.{no_ring}

-- the area replied for a ring whose doubled area is z
pub record HalfOf (area : Float) (z : ℤ) : Type 0 where
  pub half : area ≡ side_area_lem (exact_side z)
  pub small : unsigned_abs z ≤ 2 ^ 53

-- how many half-edges the first k rings have
abbrev pub passed : List Ring → ℕ → ℕ
passed rings k = length (flatten (take k (map (λ r. r.half_edges_lem) rings)))

-- the entries of ring k
pub record Entry (rings : List Ring) (half_edges_lem first size face : List ℕ) (area : List Float) (k : ℕ) : Type 0 where
  pub starts : get_or first k 0 ≡ passed rings k
  pub sized : get_or size k 0 ≡ length (get_or rings k no_ring).half_edges_lem
  pub inside : get_or first k 0 + slice_index size k ≤ length half_edges_lem
  pub holds : take (slice_index size k) (drop (slice_index first k) half_edges_lem) ≡ (get_or rings k no_ring).half_edges_lem
  pub faced : get_or face k 0 ≡ face_number_lem rings (slice_index_or rings k no_ring)
  pub halved : HalfOf (slice_index_or area k nan) (get_or rings k no_ring).doubled

-- the lists hold the rings
pub record Shown (rings : List Ring) (half_edges_lem first size face : List ℕ) (area : List Float) : Type 0 where
  pub few : length rings ≤ 2 * limits.edges
  pub short : (k : ℕ) → k ≤ length rings → passed rings k ≤ 2 * limits.edges
  pub in_first : length rings ≤ length first
  pub in_size : length rings ≤ length size
  pub in_face : length rings ≤ length face
  pub in_area : length rings ≤ length area
  pub each : (k : ℕ) → k < length rings → Entry rings half_edges_lem first size face area k
