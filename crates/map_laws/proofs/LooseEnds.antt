-- Loose ends of a small graph, taken in several orders.
use Prim.Native.Nat.{ℕ}
use mathlib.Core.Path.{◌≡◌, refl}
use mathlib.Core.Bool.{true}
use mathlib.Core.List.{List, [], ◌∷◌, map}
use lib.ListN.{get_or}
use Rattle.lists.specs.Lists.{below}
use Rattle.map_laws.specs.AnyOrder.{take_end, take_ends, touching}

-- where half-edges start: edges 0 1 2 are a triangle, 3 and 4 a tail from its node 2 over node 3 to node 4; 5 and 6 both join nodes 5 and 6
abbrev starts : ℕ → ℕ
starts h = get_or (0 ∷ 1 ∷ 1 ∷ 2 ∷ 2 ∷ 0 ∷ 2 ∷ 3 ∷ 3 ∷ 4 ∷ 5 ∷ 6 ∷ 6 ∷ 5 ∷ []) h 0

-- the edges left after steps at the nodes of a list
abbrev left : List ℕ → List ℕ
left order = below (take_ends 7 (touching starts) (λ k. true) order) 7

-- the tail goes from its end, whatever else is tried before or between; one step leaves node 3 loose
pub worked : map left ((4 ∷ 3 ∷ []) ∷ (3 ∷ 0 ∷ 4 ∷ 5 ∷ 3 ∷ 2 ∷ []) ∷ (4 ∷ []) ∷ []) ≡ (0 ∷ 1 ∷ 2 ∷ 5 ∷ 6 ∷ []) ∷ (0 ∷ 1 ∷ 2 ∷ 5 ∷ 6 ∷ []) ∷ (0 ∷ 1 ∷ 2 ∷ 3 ∷ 5 ∷ 6 ∷ []) ∷ []
unfolding take_end
worked = refl
