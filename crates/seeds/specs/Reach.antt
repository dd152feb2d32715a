-- Spreading a piece's number from a node to its neighbours, and what a whole piece is left with.
use Rattle.std.specs.Prelude.{ℕ, ◌+◌, ◌*◌, ◌<◌, ◌≤◌, ◌≡◌, Bool, cond, List, [], ◌∷◌, ◌++◌, map, eqb, length, get_or, set, take}
use Rattle.lists.specs.Lists.{pick, keep}
use Rattle.rules.specs.HalfEdge.{twin}
use Rattle.rules.specs.Euler.{roots}
use Rattle.stars.specs.Groups.{unmarked, group_of, GroupsWithin, InEach}

-- a node that has no number gets the piece's
abbrev pub reach_one : ℕ → ℕ → List ℕ → List ℕ
reach_one piece n pieces = cond (eqb (get_or pieces n 0) 0) (set pieces n piece) pieces

-- so do the listed nodes in turn
abbrev pub reach_all : ℕ → List ℕ → List ℕ → List ℕ
reach_all piece [] pieces = pieces
reach_all piece (n ∷ ns) pieces = reach_all piece ns (reach_one piece n pieces)

-- those that had none, in turn
abbrev pub reach_new : ℕ → List ℕ → List ℕ → List ℕ
reach_new piece [] pieces = []
reach_new piece (n ∷ ns) pieces = keep (eqb (get_or pieces n 0) 0) n (reach_new piece ns (reach_one piece n pieces))

-- where the active half-edges of a star end
abbrev pub ends_of_lem : List ℕ → List Bool → List ℕ → List ℕ
ends_of_lem source marks star = map (λ h. get_or source (twin h) 0) (pick (unmarked marks) star)

-- what reaching the listed nodes leaves: their numbers, and the new ones on top of the stack
pub record Reached (piece : ℕ) (ns pieces stack pieces' stack' : List ℕ) (top top' : ℕ) : Type 0 where
  pub numbers : pieces' ≡ reach_all piece ns pieces
  pub pushed : take top' stack' ≡ take top stack ++ reach_new piece ns pieces
  pub height : top' ≡ top + length (reach_new piece ns pieces)

-- what spreading asks: stars are parts of half-edges, which start at nodes, and the tables are long enough
pub record Spreadable (nodes edges : ℕ) (source : List ℕ) (marks : List Bool) (offsets grouped : List ℕ) : Type 0 where
  pub groups : GroupsWithin nodes (2 * edges) offsets grouped
  pub in_source : 2 * edges ≤ length source
  pub in_marks : 2 * edges ≤ length marks
  pub starts : (h : ℕ) → h < 2 * edges → get_or source h 0 < nodes

-- what reaching the neighbours of the node at a place of the stack asks: it is a node, and there is room for those that are new
pub record Takeable (source : List ℕ) (marks : List Bool) (offsets grouped : List ℕ) (piece : ℕ) (pieces stack : List ℕ) (top : ℕ) : Type 0 where
  pub nodes : ℕ
  pub edges : ℕ
  pub spreads : Spreadable nodes edges source marks offsets grouped
  pub in_pieces : nodes ≤ length pieces
  pub in_stack : top < length stack
  pub node : get_or stack top 0 < nodes
  pub room : top + length (reach_new piece (ends_of_lem source marks (group_of offsets grouped (get_or stack top 0))) pieces) ≤ length stack

-- what a fill asks besides: the seed is a node that has no number
pub record Fillable (source : List ℕ) (marks : List Bool) (offsets grouped pieces stack : List ℕ) (seed piece : ℕ) : Type 0 where
  pub nodes : ℕ
  pub edges : ℕ
  pub spreads : Spreadable nodes edges source marks offsets grouped
  pub in_pieces : nodes ≤ length pieces
  pub in_stack : length pieces ≤ length stack
  pub node : seed < nodes
  pub some : 0 < piece
  pub none : get_or pieces seed 0 ≡ 0

-- the nodes of the seed's piece have its number and all others what they had, where no node of the piece had a number
abbrev pub Filled : List ℕ → List Bool → List ℕ → List ℕ → ℕ → ℕ → List ℕ → List ℕ → Type 0
Filled source marks offsets grouped seed piece pieces pieces' =
    (nodes edges : ℕ) → InEach nodes edges source marks offsets grouped (λ g. let r = roots g in
    seed < nodes
    → nodes ≤ length pieces
    → ((n : ℕ) → n < nodes → get_or r n n ≡ get_or r seed seed → get_or pieces n 0 ≡ 0)
    → (n : ℕ) → n < nodes → get_or pieces' n 0 ≡ cond (eqb (get_or r n n) (get_or r seed seed)) piece (get_or pieces n 0))
