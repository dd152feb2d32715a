-- What pruning ensures: ONE equation between all that came out of a call (its reply, the state with every table, the lent list) and the
-- outcome that the rules give for all that went in.
use Rattle.std.specs.Prelude.{ℕ, ◌≡◌, List}
use Rattle.geometry.specs.Reply.{Reply}
use Rattle.rules.specs.Limits.{limits}
use Rattle.rules.specs.State.{State}
use Rattle.rules.specs.Stages.{prune_step}
use Rattle.calls.specs.Replies.{left_with}

-- pruning dangles: the count, and the edges in the lent list
abbrev pub Prunes : State → List ℕ → Reply ℕ → State → List ℕ → Type 0
Prunes before out reply after written = left_with reply after written ≡ prune_step limits before out
