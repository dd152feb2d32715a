-- What reading a whole file leaves.
use Rattle.std.specs.Prelude.{ℕ, ◌≡◌, false, List, length}
use Rattle.rules.specs.Limits.{limits}
use Rattle.rules.specs.State.{State}
use Rattle.taking.specs.Taking.{take_file_lem}
use Rattle.taking.specs.Answers.{reply_of}
use Rattle.segment_reading.specs.declared.ReadOut.{ReadOut}
use Rattle.long_records.specs.Turns.{goes_on_lem}

-- All turns: there are bytes, as many as came, and what was taken is what they come to as a file. No more is to be taken.
pub record ReadAll (before : State) (r : ReadOut) (after : State) : Type 0 where
  pub over : goes_on_lem r.reply r.source ≡ false
  pub bytes : List ℕ
  pub size : length bytes ≡ r.bytes
  pub used : ℕ
  pub took : record { reply = reply_of r.reply; count = r.records; bytes = used; state = after } ≡ take_file_lem limits bytes before
