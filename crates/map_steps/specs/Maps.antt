-- What sorting, pruning and cutting leave of a graph that was built.
use Rattle.std.specs.Prelude.{ℕ, length}
use Rattle.rules.specs.State.{State}
use Rattle.rules.specs.Stages.{sorted_state, dangles_of, pruned_state, cuts_of, cut_state}

-- ---- one step that marks edges

-- the graph after it, and how many edges it marked
pub record Marking : Type 0 where
  pub state : State
  pub count : ℕ

-- pruning marks the dangles
abbrev pub pruning : State → Marking
pruning s = record { state = pruned_state s; count = length (dangles_of s) }

-- cutting marks the cut edges
abbrev pub cutting : State → Marking
cutting s = record { state = cut_state s; count = length (cuts_of s) }

-- ---- the steps together

-- the cut graph, and how many dangles and cut edges it has
pub record Mapping : Type 0 where
  pub state : State
  pub dangles : ℕ
  pub cuts : ℕ

-- a graph that was built is sorted, then pruned, then cut
abbrev pub cut_map_lem : State → Mapping
cut_map_lem s =
    let p = pruning (sorted_state s) in
    let c = cutting p.state in
    record { state = c.state; dangles = p.count; cuts = c.count }
