-- The tables in the middle of pruning, and what one turn asks and leaves.
use Rattle.std.specs.Prelude.{ℕ, ◌-◌, ◌<◌, ◌≤◌, ◌≡◌, Bool, false, ◌&&◌, not, List, reverse, eqb, length, get_or, take, drop}
use Rattle.rules.specs.HalfEdge.{twin}
use Rattle.rules.specs.Prune.{Pruning}
use Rattle.rules.specs.Counted.{Counted}
use Rattle.stars.specs.Groups.{group_of}
use Rattle.leaves.specs.declared.Progress.{Progress}
use Rattle.leaves.specs.Given.{origin_in, Starred}

-- an unmarked node of degree 1
abbrev pub leaf : List ℕ → List Bool → ℕ → Bool
leaf degrees node_marks n = eqb (get_or degrees n 0) 1 && not (get_or node_marks n false)

-- the first k entries of a list, the last first
abbrev pub latest : ℕ → List ℕ → List ℕ
latest k l = reverse (take k l)

-- the tables in the middle of pruning: stacked and found are the first entries of two lists
abbrev pub tables_at : List ℕ → List Bool → List Bool → List ℕ → List ℕ → Progress → Pruning
tables_at degrees node_marks half_marks stack out at = record {
  degrees = degrees;
  node_marks = node_marks;
  half_marks = half_marks;
  stack = latest at.stacked stack;
  found = latest at.found out;
}

-- how far it came from `before` edges found: no count is past its list, and the entries past those found are as before
pub record Reached (before : ℕ) (old out stack : List ℕ) (at : Progress) : Type 0 where
  pub rises : before ≤ at.found
  pub stack_room : at.stacked ≤ length stack
  pub list_room : at.found ≤ length out
  pub rest : drop at.found out ≡ drop at.found old

-- what taking node n with half-edge h asks: every entry that is read or written is there, and the neighbour's degree can fall
pub record Takeable (n h : ℕ) (source degrees : List ℕ) (node_marks half_marks : List Bool) (stack out : List ℕ) (at : Progress) : Type 0 where
  pub node : n < length degrees
  pub node_mark : n < length node_marks
  pub half : h < length half_marks
  pub twin_half : twin h < length half_marks
  pub twin_start : twin h < length source
  pub other : origin_in source (twin h) < length degrees
  pub other_mark : origin_in source (twin h) < length node_marks
  pub some : 0 < get_or degrees (origin_in source (twin h)) 0
  pub stack_room : at.stacked < length stack
  pub list_room : at.found < length out

-- the node stacked last
abbrev pub top_of : List ℕ → Progress → ℕ
top_of stack at = get_or stack (at.stacked - 1) 0

-- what one turn asks, for some counts: a node is stacked, the tables count right, and the list has room for an edge where one is taken
pub record Turning (offsets grouped source degrees : List ℕ) (node_marks half_marks : List Bool) (stack out : List ℕ) (at : Progress) : Type 0 where
  pub nodes : ℕ
  pub edges : ℕ
  pub some : 0 < at.stacked
  pub stack_room : at.stacked ≤ length stack
  pub node : top_of stack at < nodes
  pub starred : Starred nodes edges offsets grouped source
  pub counted : Counted nodes edges (group_of offsets grouped) degrees node_marks half_marks
  pub list_end : at.found ≤ length out
  pub list_room : get_or degrees (top_of stack at) 0 ≡ 1 → at.found < length out
