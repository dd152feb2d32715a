-- What a taking came to, as the entry's answer.
use Prim.Native.Nat.{ℕ}
use mathlib.Core.Path.{◌≡◌, ap, ◌∙◌}
use Rattle.geometry.specs.Reply.{success}
use Rattle.rules.specs.Adding.{Outcome, Nothing}
use Rattle.calls.specs.Replies.{left}
use Rattle.taking.specs.Taking.{Taking}
use Rattle.file_taking.specs.FileAdding.{Records, end_number_lem, records_taken}

pub file-taken : (t u : Taking) (n : ℕ) → n ≡ end_number_lem t.reply → t ≡ u
    → ◌≡◌ {A = Outcome Records Nothing} (left (success (record { taken = t.count; number = n })) t.state) (records_taken u)
file-taken t u n e f = ap (λ m. left (success (record { taken = t.count; number = m })) t.state) e ∙ ap records_taken f
