-- `answer_records` meets its contract.
use mathlib.Core.Path.{ap, ◌∙◌}
use mathlib.Core.List.{[], ◌∷◌}
use Rattle.file_taking.specs.Replies.{file_reply}
use Rattle.replies.proofs.Replying.{answer-refused, answer-success}
use Rattle.station_files.proofs.answer.answer_records.Goals as goal

pub returns-in-Err : goal.returns-in-Err
returns-in-Err c = answer-refused (ap file_reply c.in-Err.is) c.refusal_number.ensures

pub returns-in-Ok : goal.returns-in-Ok
returns-in-Ok c =
    answer-success (ap file_reply c.in-Ok.is) c.write_state.ensures
    (ap (λ n. c.in-Ok.file.count ∷ n ∷ []) (c.from-ended.ensures ∙ c.end_number.ensures))
