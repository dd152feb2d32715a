-- What sorting ensures: ONE equation between all that came out of a call (its reply and the state with every table) and the outcome that
-- the rules give for all that went in.
use Rattle.std.specs.Prelude.{◌≡◌}
use Rattle.geometry.specs.Reply.{Reply}
use Rattle.rules.specs.Limits.{limits}
use Rattle.rules.specs.State.{State}
use Rattle.rules.specs.Adding.{Nothing}
use Rattle.rules.specs.Stages.{sort}
use Rattle.calls.specs.Replies.{left}

-- sorting the stars
abbrev pub Sorts : State → Reply Nothing → State → Type 0
Sorts before reply after = left reply after ≡ sort limits before
