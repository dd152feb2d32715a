-- What adding a file's records ensures: ONE equation between all that came out of a call (its reply and the state with every table) and
-- the outcome that the rules give for all that went in.
use Rattle.std.specs.Prelude.{ℕ, ◌≡◌, List}
use Rattle.geometry.specs.Reply.{Reply}
use Rattle.rules.specs.Limits.{limits}
use Rattle.rules.specs.State.{State}
use Rattle.calls.specs.Replies.{left}
use Rattle.file_taking.specs.FileAdding.{Records, add_records_lem}

-- adding the records of a file, given by its bytes
abbrev pub AddsRecords : List ℕ → State → Reply Records → State → Type 0
AddsRecords bytes before reply after = left reply after ≡ add_records_lem limits bytes before
