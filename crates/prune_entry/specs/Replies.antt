-- Document 01's number and value for each case of the reply.
use Rattle.std.specs.Prelude.{ℕ, Result}
use Rattle.geometry.specs.Reply.{Reply}
use Rattle.tables.specs.Refusals.{reply_by}
use Rattle.tables.specs.declared.Refusal.{Refusal}

-- the count, or the number
abbrev pub prune_reply : Result ℕ Refusal → Reply ℕ
prune_reply = reply_by (λ n. n)
