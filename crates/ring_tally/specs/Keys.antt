-- The keys of the half-edges that a walk passes: the bits of x in the first half of a list, those of y in the second.
use Rattle.std.specs.Prelude.{ℕ, suc, ◌+◌, ◌*◌, ◌≡◌, List, [], ◌∷◌, map, get_or, take, drop, set, Float}
use Rattle.std.specs.Float.{nan}
use Rattle.geometry.specs.Coordinate.{canonical_bits}
use Rattle.lists.specs.Lists.{over}
use Rattle.rules.specs.Limits.{limits}

-- the bits of a coordinate of the node where half-edge h starts
unfoldable pub bits_from : List ℕ → List Float → ℕ → ℕ
unfolding canonical_bits
bits_from source coordinates h = canonical_bits (get_or coordinates (get_or source h 0) nan)

-- where the second half begins in the lists of the code
abbrev pub keys_y : ℕ
keys_y = 2 * limits.edges

-- the key of half-edge h put at place k of both halves, of which the second begins at m
abbrev pub key_put : ℕ → List ℕ → List Float → List Float → List ℕ → ℕ → ℕ → List ℕ
key_put m source xs ys keys k h = set (set keys k (bits_from source xs h)) (m + k) (bits_from source ys h)

-- the keys of a row of half-edges put there from place k on
abbrev pub keys_put : ℕ → List ℕ → List Float → List Float → List ℕ → ℕ → List ℕ → List ℕ
keys_put m source xs ys keys k [] = keys
keys_put m source xs ys keys k (h ∷ hs) = keys_put m source xs ys (key_put m source xs ys keys k h) (suc k) hs

-- the keys of a row of half-edges stand in front of both halves, and the rest of the list is as it was
pub record Keyed (m : ℕ) (row source : List ℕ) (xs ys : List Float) (keys₀ keys : List ℕ) : Type 0 where
  pub bits_x : take m keys ≡ over (map (bits_from source xs) row) (take m keys₀)
  pub bits_y : drop m keys ≡ over (map (bits_from source ys) row) (drop m keys₀)
