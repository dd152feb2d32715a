-- What listing a file ensures: ONE equation between all that came out of a call (its answer and the buffer) and what the rules say for all
-- that went in.
use Rattle.std.specs.Prelude.{ℕ, ◌≡◌, Bool, true, false, List, ltb, length, Result, Ok, Err}
use Rattle.geometry.specs.Reply.{Reply, refused, success}
use Rattle.rules.specs.Limits.{limits}
use Rattle.tables.specs.Refusals.{refusal_number_lem}
use Rattle.lists.specs.Buffer.{written}
use Rattle.ring_lines.specs.Rooms.{listing_room}
use Rattle.taken_text.specs.File.{file_text}
use Rattle.tables.specs.declared.Refusal.{Refusal}

-- how many bytes the text has, or the number of a refusal
abbrev pub listed_reply : Result ℕ Refusal → Reply ℕ
listed_reply (Ok size) = success size
listed_reply (Err why) = refused (refusal_number_lem why)

-- the answer and the buffer
pub record Written : Type 0 where
  pub reply : Reply ℕ
  pub buffer : List ℕ

-- a text at the buffer's front, all else as it was; where the buffer is short 8 refuses, and nothing is written
abbrev pub written_if : Bool → List ℕ → List ℕ → Written
written_if true text out = record { reply = refused 8; buffer = out }
written_if false text out = record { reply = success (length text); buffer = written 0 text out }

-- listing a file, given by its bytes
abbrev pub ListsBytes : List ℕ → List ℕ → Reply ℕ → List ℕ → Type 0
ListsBytes bytes before reply after =
    record { reply = reply; buffer = after } ≡ written_if (ltb (length before) (listing_room limits)) (file_text limits bytes) before
