-- Tables as functions, and what labelling asks and leaves.
use Rattle.std.specs.Prelude.{ℕ, ◌*◌, ◌<◌, ◌≤◌, ◌≡◌, Bool, List, [], ◌∷◌, length, get_or, set}
use Rattle.rules.specs.Cycles.{cycles, label_of}
use Rattle.rules.specs.Sane.{Live, Permutes}
use Rattle.rules.specs.Limits.{Limits}
use Rattle.stars.specs.Groups.{unmarked}

-- the entries of a table as a function
abbrev pub entry_of : List ℕ → ℕ → ℕ
entry_of table h = get_or table h 0

-- a value written at each of the listed places
abbrev pub written : List ℕ → ℕ → List ℕ → List ℕ
written [] a table = table
written (h ∷ hs) a table = written hs a (set table h a)

-- what a walk from `start` asks: the table permutes the active half-edges below some count, and `start` is one of them
pub record Walkable (next labels : List ℕ) (start : ℕ) : Type 0 where
  pub count : ℕ
  pub active : ℕ → Bool
  pub permutes : Permutes (entry_of next) count active
  pub live : Live count active start
  pub in_next : count ≤ length next
  pub in_labels : count ≤ length labels

-- what labelling asks: the table permutes the active half-edges, and the tables are long enough
pub record Labelable (l : Limits) (edges : ℕ) (next : List ℕ) (marks : List Bool) (labels : List ℕ) : Type 0 where
  pub permutes : Permutes (entry_of next) (2 * edges) (unmarked marks)
  pub few : edges ≤ l.edges
  pub in_next : 2 * edges ≤ length next
  pub in_marks : 2 * edges ≤ length marks
  pub in_labels : 2 * edges ≤ length labels

-- what it leaves: each half-edge has the label of its cycle, and `count` is the number of cycles
pub record Labelled (edges : ℕ) (next : List ℕ) (marks : List Bool) (labels : List ℕ) (count : ℕ) : Type 0 where
  pub each : (h : ℕ) → h < 2 * edges → get_or labels h 0 ≡ label_of (entry_of next) (2 * edges) (unmarked marks) h
  pub number : count ≡ length (cycles (entry_of next) (2 * edges) (unmarked marks))
