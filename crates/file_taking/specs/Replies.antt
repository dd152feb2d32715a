-- Document 01's number and values for each case of the reply.
use Rattle.std.specs.Prelude.{Result}
use Rattle.geometry.specs.Reply.{Reply}
use Rattle.tables.specs.Refusals.{reply_by}
use Rattle.tables.specs.declared.Refusal.{Refusal}
use Rattle.taking.specs.Answers.{reply_of}
use Rattle.file_taking.specs.FileAdding.{Records, end_number_lem}
use Rattle.file_taking.specs.declared.FileTaken.{FileTaken}

-- how many records were taken and what ended it, or the number of a refusal
abbrev pub file_reply : Result FileTaken Refusal → Reply Records
file_reply = reply_by (λ taken. record { taken = taken.count; number = end_number_lem (reply_of taken.ended) })
