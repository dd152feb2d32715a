-- What creating ensures: ONE equation between all that came out of a call (its reply and the state with every table) and the outcome that
-- the rules give for all that went in.
use Rattle.std.specs.Prelude.{◌≡◌}
use Rattle.geometry.specs.Reply.{Reply}
use Rattle.rules.specs.Limits.{limits}
use Rattle.rules.specs.State.{State}
use Rattle.rules.specs.Adding.{Nothing}
use Rattle.rules.specs.Stages.{create}
use Rattle.calls.specs.Replies.{left}

-- creating an empty graph
abbrev pub Creates : State → Reply Nothing → State → Type 0
Creates before reply after = left reply after ≡ create limits before
