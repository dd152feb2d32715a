-- How long naming takes: the comparisons of the least-rotation searches.
use Rattle.std.specs.Prelude.{ℕ, ◌+◌, ◌*◌, ◌≤◌, List, [], ◌∷◌, map, leb, length}
use Rattle.lists.specs.Lists.{bit, sum, flatten}
use Rattle.rotation.specs.Rotation.{Key}
use Rattle.rotation.specs.Steps.{comparisons}
use Rattle.rules.specs.Cycles.{Arrangement}
use Rattle.rules.specs.Face.{ring_keys_lem}

-- the sum over rings, each searched once from its lowest half-edge, with which it begins
unfoldable pub naming_comparisons : (ℕ → Key) → Arrangement → List (List ℕ) → ℕ
unfolding comparisons
naming_comparisons key g rings = sum (map (λ ring. comparisons (ring_keys_lem key g ring)) rings)

-- how many rings have two half-edges or more
abbrev pub several : List (List ℕ) → ℕ
several [] = 0
several (r ∷ rs) = bit (leb 2 (length r)) + several rs

-- no more than 3 n - 3 for each ring of n half-edges, n at least 2, and none for the others
abbrev pub FewComparisons : List (List ℕ) → ℕ → Type 0
FewComparisons rings made = made + 3 * several rings ≤ 3 * length (flatten rings)
