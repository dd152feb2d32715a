-- What a step asks: a graph that is sound and in the stage before it.
use Rattle.std.specs.Prelude.{ℕ, ◌≡◌}
use Rattle.rules.specs.Limits.{limits}
use Rattle.rules.specs.State.{State}
use Rattle.rules.specs.Going.{Held}

-- in stage 0 sorting is due, in stage 1 pruning, in stage 2 cutting, in stage 3 ring extraction
pub record Stands (stage : ℕ) (s : State) : Type 0 where
  pub held : Held limits s
  pub here : s.stage ≡ stage
