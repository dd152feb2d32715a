-- What lets a search from right to left pass candidates by, many at once.
use Rattle.std.specs.Prelude.{ℕ, ◌<◌, ◌≤◌, ◌≡◌, Bool, true, false, ◌&&◌, not, List, ℤ, pos, length, get_or, eqb}
use Rattle.std.specs.Int.Signed.{lt_z}
use Rattle.candidates.specs.Candidates.{number_at}
use Rattle.candidate_order.specs.Order.{number_in}

-- no candidate from the beginning to place k has a doubled area below entry k
abbrev pub LeastAreas : List ℤ → List ℕ → ℕ → List ℤ → Type 0
LeastAreas numbers order count least = (i k : ℕ) → i ≤ k → k < count → lt_z (number_in numbers order i 4) (get_or least k (pos 0)) ≡ false

-- the candidates from one place to another, both with them, reach no further to the right than the last of them
abbrev pub Within : List ℤ → List ℕ → ℕ → ℕ → Type 0
Within numbers order from last = (i : ℕ) → from ≤ i → i ≤ last → lt_z (number_in numbers order last 1) (number_in numbers order i 1) ≡ false

-- entry k is a place from which on to k none reaches further than that at k
pub record Reaches (numbers : List ℤ) (order : List ℕ) (count : ℕ) (reaches : List ℕ) : Type 0 where
  pub back : (k : ℕ) → k < count → get_or reaches k 0 ≤ k
  pub within : (k : ℕ) → k < count → Within numbers order (get_or reaches k 0) k

-- both tables
pub record Passable (numbers : List ℤ) (order : List ℕ) (count : ℕ) (least : List ℤ) (reaches : List ℕ) : Type 0 where
  pub in_least : count ≤ length least
  pub in_reaches : count ≤ length reaches
  pub areas : LeastAreas numbers order count least
  pub reached : Reaches numbers order count reaches

-- from one place up to another all candidates end to the left of x
abbrev pub EndsBefore : List ℤ → List ℕ → ℤ → ℕ → ℕ → Type 0
EndsBefore numbers order x from to = (i : ℕ) → from ≤ i → i < to → lt_z (number_in numbers order i 1) x ≡ true

-- there is a best so far, and no candidate up to place k has as small an area
abbrev pub rest_larger : List ℤ → ℕ → ℕ → List ℤ → ℕ → Bool
rest_larger numbers count best least k = not (eqb best count) && lt_z (number_at numbers best 4) (get_or least k (pos 0))
