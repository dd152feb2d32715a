-- What ring extraction ensures: ONE equation between all that came out of a call (its reply, the state with every table, the lent lists)
-- and the outcome that the rules give for all that went in.
use Rattle.std.specs.Prelude.{◌≡◌}
use Rattle.geometry.specs.Reply.{Reply}
use Rattle.rules.specs.Limits.{limits}
use Rattle.rules.specs.State.{State}
use Rattle.rules.specs.Ringing.{RingLists, Ringing, ring_step}
use Rattle.calls.specs.Replies.{left_with}

-- ring extraction: the count, the census and the comparisons, and the rings in the lent lists
abbrev pub Extracts : State → RingLists → Reply Ringing → State → RingLists → Type 0
Extracts before out reply after written = left_with reply after written ≡ ring_step limits before out
