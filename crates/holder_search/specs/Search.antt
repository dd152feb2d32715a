-- The search for an open ring's holder among the candidates.
use Rattle.std.specs.Prelude.{ℕ, ◌<◌, ◌≤◌, ◌≡◌, Bool, true, false, ◌||◌, List, ℤ, pos, length, get_or, eqb, ltb}
use Rattle.std.specs.Int.Signed.{lt_z}
use Rattle.rules.specs.Face.{Ring}
use Rattle.rules.specs.Pieces.{then_by}
use Rattle.rules.specs.Holes.{outside, ring_nodes, ring_at, holds, holds_first}
use Rattle.inside.specs.Spots.{spot_in, NodesWithin}
use Rattle.candidates.specs.Candidates.{number_at, Candidates}
use Rattle.holding.specs.Maps.{origins, Map, Holds}
use Rattle.holding.specs.Holding.{Corner}
use Rattle.views.specs.Views.{Slanted, along_of_lem}

-- a map with its candidates
pub record Field (rs : List Ring) (m : Map) (bound slope : ℕ) (rings : List ℕ) (numbers : List ℤ) (count : ℕ) : Type 0 where
  pub map : Holds rs m bound
  pub known : bound ≤ outside
  pub along : List ℤ
  pub slanted : Slanted slope m.xs m.ys bound along
  pub candidates : Candidates rs m.nodes along m.ys m.first m.size bound (length rs) rings numbers count

-- an open ring with its nodes, the node of least x, then least y, among them, and where that lies in the candidates' boxes
pub record Opening (o : Ring) (m : Map) (bound slope : ℕ) (inner : List ℕ) (corner : ℕ) (x y : ℤ) : Type 0 where
  pub nodes : inner ≡ ring_nodes (origins m.source) o.half_edges_lem
  pub within : NodesWithin inner bound
  pub leftmost : Corner m.xs m.ys inner corner
  pub is_x : x ≡ along_of_lem slope (get_or m.xs corner (pos 0)) (get_or m.ys corner (pos 0))
  pub is_y : y ≡ get_or m.ys corner (pos 0)

-- whether candidate j holds the open ring
abbrev pub holds_at_lem : List Ring → Map → Ring → List ℕ → ℕ → Bool
holds_at_lem rs m o rings j = holds (spot_in m.xs m.ys) (origins m.source) (ring_at rs (get_or rings j 0)) o

-- whether candidate j comes before another by doubled area, then face number, or there is no other
abbrev pub first_by : List ℕ → List ℤ → List ℕ → ℕ → ℕ → ℕ → Bool
first_by rings numbers face count j best =
    eqb best count
    || then_by (λ i k. lt_z (number_at numbers i 4) (number_at numbers k 4)) (λ i k. ltb (get_or face (get_or rings i 0) 0) (get_or face (get_or rings k 0) 0)) j best

-- candidate j does not hold the open ring, or comes behind the best so far; there is none yet where best is count
abbrev pub Behind : List Ring → Map → Ring → List ℕ → ℕ → ℕ → ℕ → Type 0
Behind rs m o rings count best j = holds_at_lem rs m o rings j ≡ true → (best < count) × (holds_first rs (get_or rings j 0) (get_or rings best 0) ≡ false)

-- the best of the candidates from a place of their order on that hold the open ring; count where none does
pub record Best (rs : List Ring) (m : Map) (o : Ring) (rings order : List ℕ) (count place best : ℕ) : Type 0 where
  pub low : best ≤ count
  pub holder : best < count → holds_at_lem rs m o rings best ≡ true
  pub behind : (k : ℕ) → place ≤ k → k < count → Behind rs m o rings count best (get_or order k 0)
