-- The test of an edge by a table of marks and one of labels, and what cutting asks.
use Rattle.std.specs.Prelude.{ℕ, ◌+◌, ◌*◌, ◌≤◌, Bool, ◌&&◌, List, eqb, length, get_or}
use Rattle.lists.specs.Lists.{below}
use Rattle.rules.specs.Limits.{Limits}
use Rattle.stars.specs.Groups.{unmarked}

-- both halves are active and have one label
abbrev pub cut_by : List Bool → List ℕ → ℕ → Bool
cut_by marks labels k =
    unmarked marks (2 * k) && (unmarked marks (2 * k + 1) && eqb (get_or labels (2 * k) 0) (get_or labels (2 * k + 1) 0))

-- the edges that pass, rising
abbrev pub cuts_by : ℕ → List Bool → List ℕ → List ℕ
cuts_by edges marks labels = below (cut_by marks labels) edges

-- what cutting asks: the tables and the list are long enough
pub record Cuttable (l : Limits) (edges : ℕ) (labels : List ℕ) (marks : List Bool) (out : List ℕ) : Type 0 where
  pub few : edges ≤ l.edges
  pub in_labels : 2 * edges ≤ length labels
  pub in_marks : 2 * edges ≤ length marks
  pub in_out : edges ≤ length out
