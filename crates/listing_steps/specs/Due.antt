-- What writing the listing asks before a step: the graph is sound and in the stage before it, and the buffer has room.
use Rattle.std.specs.Prelude.{ℕ, ◌≤◌, ◌≡◌, List, length}
use Rattle.rules.specs.Limits.{limits}
use Rattle.rules.specs.State.{State}
use Rattle.rules.specs.Going.{Held}
use Rattle.ring_lines.specs.Rooms.{listing_room}

-- in stage 0 the steps of a map are due, in stage 3 ring extraction
pub record Due (stage : ℕ) (s : State) (out : List ℕ) : Type 0 where
  pub held : Held limits s
  pub here : s.stage ≡ stage
  pub room : listing_room limits ≤ length out
