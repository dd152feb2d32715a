-- What one turn of reading asks and leaves. Nothing names the bytes that a read brings but the buffer after it, so each turn's contract says
-- that there are bytes, as many as it brought, and what became of them.
use Rattle.std.specs.Prelude.{ℕ, ◌+◌, ◌<◌, ◌≤◌, ◌≡◌, Bool, true, cond, ◌&&◌, List, ◌++◌, ltb, leb, length, take, drop, Result}
use Rattle.geometry.specs.Reply.{Reply, refused, success}
use Rattle.rules.specs.Limits.{limits}
use Rattle.rules.specs.State.{State}
use Rattle.rules.specs.Adding.{Nothing}
use Rattle.file_rules.specs.Records.{Found, taken, passed, wrong, end, field, whole_frame_lem}
use Rattle.buffered_input.specs.Reads.{is_open_lem}
use Rattle.buffered_input.specs.declared.Source.{Source}
use Rattle.buffered_input.specs.declared.Source.TheVariants.{Open, Ended, Failed}
use Rattle.taking.specs.Taking.{take_file_lem, waits}
use Rattle.taking.specs.Answers.{reply_of}
use Rattle.taking.specs.declared.TakeRefusal.{TakeRefusal}
use Rattle.long_records.specs.declared.Turn.{Turn}

-- ---- sizes

-- the buffer's bytes
abbrev pub buffer_bytes : ℕ
buffer_bytes = 65536

-- no read is begun once so many bytes have come
abbrev pub most_bytes : ℕ
most_bytes = 4611686018427387904

-- ---- whether to go on

-- there may be more to take: no record was bad, and the input goes on
abbrev pub goes_on_lem : Result (Unit {0}) TakeRefusal → Source → Bool
goes_on_lem reply source = waits (reply_of reply) && is_open_lem source

-- where more bytes have come than can be counted on, no more is read, as if a read had failed
abbrev pub capped : Source → ℕ → Source
capped Open bytes = cond (ltb bytes most_bytes) Open Failed
capped Ended bytes = Ended
capped Failed bytes = Failed

-- ---- a record that is longer than the buffer

-- its length and kind are there, and it cannot fit
abbrev pub is_long_lem : List ℕ → Bool
is_long_lem p = leb 6 (length p) && ltb buffer_bytes (4 + field p 0 4)

-- what is answered once it has all come: it is passed over, or refused
abbrev pub whole_reply : Found ℕ → Reply Nothing
whole_reply (taken kind size) = success (record {})
whole_reply (passed size) = success (record {})
whole_reply (wrong n) = refused n
whole_reply end = success (record {})

-- or 9, where the input ends inside it
abbrev pub long_reply_lem : Source → ℕ → ℕ → Reply Nothing
long_reply_lem source size kind = cond (is_open_lem source) (whole_reply (whole_frame_lem size kind)) (refused 9)

-- a record passed over is counted, a refused one is not
abbrev pub passed_count_lem : Reply Nothing → ℕ
passed_count_lem (refused n) = 0
passed_count_lem (success none) = 1

-- ---- contracts

-- the bytes kept stand at the buffer's front and are a record that is not there to its end, or none
pub record Kept (kept : ℕ) (buffer : List ℕ) : Type 0 where
  pub full : length buffer ≡ buffer_bytes
  pub room : kept ≤ buffer_bytes
  pub short : length (take kept buffer) < 4 + field (take kept buffer) 0 4

-- One turn, behind the bytes that were kept.
pub record Turned (kept new : List ℕ) (before : State) (r : Turn) (after : State) : Type 0 where
  -- the bytes that came
  pub came : List ℕ
  pub size : length came ≡ r.got
  pub few : r.got < 4 + 4294967296
  pub some : is_open_lem r.source ≡ true → 0 < r.got
  -- what was taken is what all of them come to as a file
  pub used : ℕ
  pub took : record { reply = reply_of r.reply; count = r.count; bytes = used; state = after } ≡ take_file_lem limits (kept ++ came) before
  -- where it goes on, what stands behind that is kept
  pub room : r.kept ≤ length new
  pub rest : goes_on_lem r.reply r.source ≡ true → take r.kept new ≡ drop used (kept ++ came)
