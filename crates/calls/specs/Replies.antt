-- What came out of a call, as an outcome of the rules, and document 01's number for each case of the common reply.
use Rattle.std.specs.Prelude.{Ok, Err}
use Rattle.geometry.specs.Reply.{Reply, refused, success}
use Rattle.rules.specs.State.{State}
use Rattle.rules.specs.Adding.{Outcome, Nothing}
use Rattle.tables.specs.Refusals.{refusal_number_lem}
use Rattle.calls.specs.Checks.{Checked}

-- what came out of a call that lends no list
abbrev pub left : {A : Type 0} → Reply A → State → Outcome A Nothing
left reply after = record { reply = reply; state = after; lists = record {} }

-- what came out of a call that lends lists
abbrev pub left_with : {A L : Type 0} → Reply A → State → L → Outcome A L
left_with reply after lists = record { reply = reply; state = after; lists = lists }

-- the tests that a call begins with: passed, or the number of the first that fails
abbrev pub check_reply : Checked → Reply Nothing
check_reply (Ok passed) = success (record {})
check_reply (Err why) = refused (refusal_number_lem why)

-- sorting and resetting: success alone, or the number
abbrev pub step_reply : Checked → Reply Nothing
step_reply = check_reply
