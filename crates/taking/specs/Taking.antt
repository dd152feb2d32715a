-- Taking the records of a segment file into a graph, one after another: segments are added, other records are passed over, and the first bad
-- record decides.
use Rattle.std.specs.Prelude.{ℕ, zero, suc, ◌+◌, Bool, true, cond, List, eqb, length, drop}
use Rattle.geometry.specs.Reply.{Reply, refused, success}
use Rattle.geometry.specs.declared.Line3D.{Line3D}
use Rattle.rules.specs.Limits.{Limits}
use Rattle.rules.specs.State.{State}
use Rattle.rules.specs.Adding.{Nothing, Added, add}
use Rattle.file_rules.specs.Records.{Found, taken, passed, wrong, end}
use Rattle.file_rules.specs.SegmentFile.{segment_next}

-- ---- one record

-- what follows a record: the next one, behind so many bytes, or nothing, with the reply to all of them
pub data Rest : Type 0 where
  onward : ℕ → Rest
  ended : Reply Nothing → Rest

-- that, and the state that the record left
pub record Turned : Type 0 where
  pub rest : Rest
  pub state : State

-- a segment that is added takes its record's bytes; a refusal ends the taking
abbrev pub after_adding_lem : Reply Added → ℕ → Rest
after_adding_lem (refused n) size = ended (refused n)
after_adding_lem (success a) size = onward size

-- a segment is added, another record is passed over; a bad one ends the taking, and so does the file's end
abbrev pub take_record_lem : Limits → Found Line3D → State → Turned
take_record_lem l (taken line size) s = let o = add l line s in record { rest = after_adding_lem o.reply size; state = o.state }
take_record_lem l (passed size) s = record { rest = onward size; state = s }
take_record_lem l (wrong n) s = record { rest = ended (refused n); state = s }
take_record_lem l end s = record { rest = ended (success (record {})); state = s }

-- ---- records one after another

-- what taking records comes to: success or the first refusal, how many records were taken before it (those passed over among them) and how many
-- bytes these have, and the state that they left
pub record Taking : Type 0 where
  pub reply : Reply Nothing
  pub count : ℕ
  pub bytes : ℕ
  pub state : State

-- nothing is taken
abbrev pub halted : Reply Nothing → State → Taking
halted r s = record { reply = r; count = 0; bytes = 0; state = s }

-- so many records of so many bytes go before the others
abbrev pub behind : ℕ → ℕ → Taking → Taking
behind count bytes t = record { reply = t.reply; count = count + t.count; bytes = bytes + t.bytes; state = t.state }

-- what follows a record, with the taking of what is left behind so many bytes
abbrev pub follow : Rest → State → (ℕ → State → Taking) → Taking
follow (onward size) s more = behind 1 size (more size s)
follow (ended r) s more = halted r s

-- record by record to the end or the first refusal; fuel bounds how many
unfoldable pub take_on : Limits → ℕ → List ℕ → State → Taking
unfolding segment_next add
take_on l zero bytes s = halted (success (record {})) s
take_on l (suc fuel) bytes s =
    let t = take_record_lem l (segment_next bytes) s in
    follow t.rest t.state (λ size u. take_on l fuel (drop size bytes) u)

-- a file from its first byte to its end: a record takes a byte at least, so its bytes are fuel enough
abbrev pub take_file_lem : Limits → List ℕ → State → Taking
take_file_lem l bytes s = take_on l (suc (length bytes)) bytes s

-- ---- parts of a file

-- more bytes can go on from here: the bytes ended behind a record, or inside one, which gets 9 until the others are there
abbrev pub waits : Reply Nothing → Bool
waits (refused n) = eqb n 9
waits (success none) = true

-- what a part comes to together with what follows it
abbrev pub resumed : Taking → (State → Taking) → Taking
resumed t more = cond (waits t.reply) (behind t.count t.bytes (more t.state)) t
