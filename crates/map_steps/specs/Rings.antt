-- What ring extraction asks of the lists that it writes, and what it leaves there.
use Rattle.std.specs.Prelude.{ℕ, ◌*◌, ◌≡◌, Bool, length}
use Rattle.rules.specs.Euler.{census}
use Rattle.rules.specs.Limits.{limits}
use Rattle.rules.specs.State.{State, arrangement}
use Rattle.rules.specs.Ringing.{rings_of, RingLists}
use Rattle.ring_lists.specs.Shown.{Shown}

-- each list has an entry for each half-edge that a graph may have
pub record Wide (out : RingLists) : Type 0 where
  pub half_edges_lem : length out.half_edges_lem ≡ 2 * limits.edges
  pub first : length out.first ≡ 2 * limits.edges
  pub size : length out.length ≡ 2 * limits.edges
  pub face : length out.face ≡ 2 * limits.edges
  pub side : length out.side ≡ 2 * limits.edges
  pub area : length out.area ≡ 2 * limits.edges

-- the lists hold the rings of a state, so many, with their verdict
pub record Rung (s : State) (out : RingLists) (count : ℕ) (verdict : Bool) : Type 0 where
  pub shown : Shown (rings_of s) out.half_edges_lem out.first out.length out.face out.area
  pub many : count ≡ length (rings_of s)
  pub seen : verdict ≡ (census (arrangement s)).verdict
