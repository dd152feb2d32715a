-- Rings as they stand in lists: half-edges and keys ring by ring, and for each ring its first place, its length, where its least rotation starts, and its area.
use Rattle.std.specs.Prelude.{ℕ, ◌+◌, ◌^◌, ◌<◌, ◌≤◌, ◌≡◌, false, List, length, get_or, take, drop, ℤ, pos, negsuc, nat_abs, Float}
use Rattle.std.specs.Float.{fin, nan, binary64}
use Rattle.std.specs.Float.Ieee.{mul, of_int}
use Rattle.geometry.specs.Coordinate.{value}
use Rattle.rotation.specs.Rotation.{Key, rotated, keys_of}
use Rattle.rules.specs.Face.{Ring}

-- the n entries from place first on
abbrev pub part_of : {A : Type 0} → ℕ → ℕ → List A → List A
part_of first n l = take n (drop first l)

-- ---- areas

-- half of a whole number, as a float
abbrev pub half_of : ℤ → Float
half_of z = mul binary64 (of_int binary64 z) (fin false 1 (negsuc 0))

-- the whole number of which a float is half
abbrev pub doubled_of_lem : Float → ℤ
doubled_of_lem a = value (mul binary64 a (fin false 1 (pos 1)))

-- the float is exactly half of the whole number z, which floats hold
pub record HalfOf (a : Float) (z : ℤ) : Type 0 where
  pub small : nat_abs z ≤ 2 ^ 53
  pub is : a ≡ half_of z

-- ---- rings

-- the lists
pub record Listed : Type 0 where
  -- ring by ring
  pub half_edges_lem : List ℕ
  pub keys : List Key
  -- for each ring
  pub first : List ℕ
  pub size : List ℕ
  pub turn : List ℕ
  pub area : List Float

-- the lists of the code; a key is in two of them
abbrev pub listed : List ℕ → List ℕ → List ℕ → List ℕ → List ℕ → List ℕ → List Float → Listed
listed half_edges_lem xs ys firsts lengths turns areas = record {
  half_edges_lem = half_edges_lem;
  keys = keys_of xs ys;
  first = firsts;
  size = lengths;
  turn = turns;
  area = areas;
}

-- ring i
unfoldable pub ring_in_lem : Listed → ℕ → Ring
ring_in_lem t i = record {
  half_edges_lem = part_of (get_or t.first i 0) (get_or t.size i 0) t.half_edges_lem;
  key = rotated (get_or t.turn i 0) (part_of (get_or t.first i 0) (get_or t.size i 0) t.keys);
  doubled = doubled_of_lem (get_or t.area i nan);
}

-- ring i is in the lists
pub record Stands (t : Listed) (i : ℕ) : Type 0 where
  pub firsts : i < length t.first
  pub sizes : i < length t.size
  pub turns : i < length t.turn
  pub areas : i < length t.area
  pub some : 0 < get_or t.size i 0
  pub within : get_or t.first i 0 + get_or t.size i 0 ≤ length t.half_edges_lem
  pub keyed : get_or t.first i 0 + get_or t.size i 0 ≤ length t.keys
  pub turned : get_or t.turn i 0 < get_or t.size i 0
  pub half : HalfOf (get_or t.area i nan) (doubled_of_lem (get_or t.area i nan))

-- rings i and j are
abbrev pub BothStand : Listed → ℕ → ℕ → Type 0
BothStand t i j = Stands t i × Stands t j

-- n rings are, and no two begin with the same half-edge
pub record AllStand (t : Listed) (n : ℕ) : Type 0 where
  pub stands : (i : ℕ) → i < n → Stands t i
  pub apart : (i j : ℕ) → i < n → j < n → get_or t.half_edges_lem (get_or t.first i 0) 0 ≡ get_or t.half_edges_lem (get_or t.first j 0) 0 → i ≡ j
