-- What the calls on ring files leave, by the answers of the public entries that they call.
use Rattle.std.specs.Prelude.{ℕ, List, [], ◌∷◌}
use Rattle.geometry.specs.Reply.{Reply, refused, success}
use Rattle.file_rules.specs.RingFile.{Answered, RingCounts}

-- the number answered, the lists that were lent to be written, and the values of the reply
pub record Gave (L : Type 0) : Type 0 where
  pub number : ℕ
  pub lists : L
  pub reply : List ℕ

abbrev pub gave_by : {L : Type 0} → ℕ → L → List ℕ → Gave L
gave_by number lists reply = record { number = number; lists = lists; reply = reply }

-- a success answers 0 and its values; a refusal its number, with the reply as it was
abbrev pub gave_reply : {A L : Type 0} → (A → List ℕ) → List ℕ → Reply A → L → Gave L
gave_reply values reply (refused n) lists = gave_by n lists reply
gave_reply values reply (success a) lists = gave_by 0 lists (values a)

abbrev pub gave : {A L : Type 0} → (A → List ℕ) → List ℕ → Answered A L → Gave L
gave values reply a = gave_reply values reply a.reply a.lists

-- the writer's value: how many bytes
abbrev pub bytes_written : ℕ → List ℕ
bytes_written n = n ∷ []

-- the reader's: how many rings, how many node numbers
abbrev pub rings_read : RingCounts → List ℕ
rings_read w = w.rings ∷ w.nodes ∷ []
