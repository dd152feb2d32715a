-- What an addition ensures.
use Rattle.std.specs.Prelude.{◌≡◌}
use Rattle.geometry.specs.Reply.{Reply}
use Rattle.geometry.specs.declared.Line3D.{Line3D}
use Rattle.rules.specs.Limits.{limits}
use Rattle.rules.specs.State.{State}
use Rattle.rules.specs.Adding.{Added, add}
use Rattle.rules.specs.Claim.{Given64}
use Rattle.calls.specs.Replies.{left}

-- adding a line
pub record Adds (line : Line3D) (before : State) (reply : Reply Added) (after : State) : Type 0 where
  -- ONE equation between all that came out of a call (its reply and the state with every table) and the outcome that the rules give for all
  -- that went in
  pub outcome : left reply after ≡ add limits line before
  -- what went in were 64-bit floats, as every f64 is
  pub floats : Given64 line
