-- What the code's answers say in the documents' numbers, and all that taking leaves as one value of the definitions.
use Rattle.std.specs.Prelude.{ℕ, Bool, List, Float, Result, Ok, Err}
use Rattle.std.specs.declared.ops.ControlFlow.{ControlFlow}
use Rattle.std.specs.declared.ops.ControlFlow.TheVariants.{Continue, Break}
use Rattle.geometry.specs.Reply.{Reply, refused, success}
use Rattle.rules.specs.Adding.{Nothing}
use Rattle.rules.specs.Limits.{limits}
use Rattle.tables.specs.Regions.{state_in}
use Rattle.taking.specs.Taking.{Rest, onward, ended, Turned, Taking}
use Rattle.frames.specs.Frames as frames
use Rattle.tables.specs.Refusals.{refusal_number_lem}
use Rattle.taking.specs.declared.TakeRefusal.{TakeRefusal}
use Rattle.taking.specs.declared.TakeRefusal.TheVariants.{Record, Segment}
use Rattle.taking.specs.declared.Turn.{Turn}
use Rattle.taking.specs.declared.Taken.{Taken}

-- the documents' number of a refusal
abbrev pub number_of : TakeRefusal → ℕ
number_of (Record why) = frames.number_of why
number_of (Segment why) = refusal_number_lem why

-- success, or the number of a refusal
abbrev pub reply_of : Result (Unit {0}) TakeRefusal → Reply Nothing
reply_of (Ok done) = success (record {})
reply_of (Err why) = refused (number_of why)

-- the next record, or the reply to all
abbrev pub rest_of : ControlFlow (Result (Unit {0}) TakeRefusal) ℕ → Rest
rest_of (Continue size) = onward size
rest_of (Break reply) = ended (reply_of reply)

-- one record's answer with the counts, the stage and the slices
abbrev pub turn_of : Turn → List Float → List ℕ → List ℕ → List Bool → List ℕ → Turned
turn_of r floats numbers stars marks ids = record { rest = rest_of r.next; state = state_in limits r.graph floats numbers stars marks ids }

-- the same of many records, with how many were taken and their bytes
abbrev pub taking_of : Taken → List Float → List ℕ → List ℕ → List Bool → List ℕ → Taking
taking_of r floats numbers stars marks ids = record {
  reply = reply_of r.reply;
  count = r.count;
  bytes = r.bytes;
  state = state_in limits r.graph floats numbers stars marks ids;
}
