-- What splitting writes at a star, and what the table of successors then holds.
use Rattle.std.specs.Prelude.{ℕ, ◌*◌, ◌<◌, ◌≤◌, ◌≡◌, Bool, List, [], ◌∷◌, length, get_or, set, take}
use Rattle.rules.specs.HalfEdge.{twin}
use Rattle.rules.specs.Cycles.{halves, label}
use Rattle.rules.specs.Split.{split_successor}
use Rattle.rules.specs.Sane.{Sane, Live}
use Rattle.rules.specs.Limits.{Limits}
use Rattle.rules.specs.State.{arrangement_in}
use Rattle.stars.specs.Grouped.{Grouped}
use Rattle.stars.specs.Groups.{PartWithin, GroupsWithin}

-- the entries of a table as a function
abbrev pub entry_of : List ℕ → ℕ → ℕ
entry_of table h = get_or table h 0

-- each half-edge noted under its label, from the last to the first: the first one of a label stays
abbrev pub noted : (ℕ → ℕ) → List ℕ → List ℕ → List ℕ
noted lab [] upcoming = upcoming
noted lab (h ∷ hs) upcoming = set (noted lab hs upcoming) (lab h) h

-- from the last half-edge to the first: the twin of each is followed by the first of its label from that place on, or else by what was noted before
abbrev pub relinked : (ℕ → ℕ) → List ℕ → List ℕ → List ℕ → List ℕ
relinked lab upcoming [] next = next
relinked lab upcoming (h ∷ hs) next = set (relinked lab upcoming hs next) (twin h) (get_or (noted lab (h ∷ hs) upcoming) (lab (twin h)) 0)

-- what going through a star asks: its half-edges are below twice some count of edges, and their labels have a place
pub record StarWithin (from to : ℕ) (grouped : List ℕ) (marks : List Bool) (labels upcoming : List ℕ) : Type 0 where
  pub edges : ℕ
  pub within : PartWithin (2 * edges) from to grouped
  pub in_marks : 2 * edges ≤ length marks
  pub in_labels : 2 * edges ≤ length labels
  pub low : (h : ℕ) → h < 2 * edges → get_or labels h 0 < length upcoming

-- what splitting asks: the groups are parts of half-edges, no label is above their count, and the tables are long enough
pub record Splittable (l : Limits) (nodes edges : ℕ) (offsets grouped : List ℕ) (marks : List Bool) (labels next : List ℕ) : Type 0 where
  pub few : edges ≤ l.edges
  pub groups : GroupsWithin nodes (2 * edges) offsets grouped
  pub in_marks : 2 * edges ≤ length marks
  pub in_labels : 2 * edges ≤ length labels
  pub in_next : 2 * edges ≤ length next
  pub low : (h : ℕ) → h < 2 * edges → get_or labels h 0 ≤ 2 * edges

-- Next holds the successor after splitting of every active half-edge, in each arrangement of which the groups are the stars and the labels the labels.
abbrev pub Split : ℕ → ℕ → List ℕ → List ℕ → List Bool → List ℕ → List ℕ → Type 0
Split nodes edges offsets grouped marks labels next =
    (source star : List ℕ) → Grouped nodes source (take (2 * edges) star) offsets grouped → Sane (arrangement_in nodes edges source marks star)
    → let g = arrangement_in nodes edges source marks star in ((h : ℕ) → h < halves g → get_or labels h 0 ≡ label g h)
    → (h : ℕ) → Live (halves g) g.active h → get_or next h 0 ≡ split_successor g h
