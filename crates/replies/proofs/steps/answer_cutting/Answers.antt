-- `answer_cutting` meets its contract.
use mathlib.Core.Path.{ap}
use mathlib.Core.List.{[], ◌∷◌}
use Rattle.cut_entry.specs.Replies.{cut_reply}
use Rattle.replies.proofs.Replying.{answer-refused, answer-success}
use Rattle.replies.proofs.steps.answer_cutting.Goals as goal

pub returns-in-Err : goal.returns-in-Err
returns-in-Err c = answer-refused (ap cut_reply c.in-Err.is) c.refusal_number.ensures

pub returns-in-Ok : goal.returns-in-Ok
returns-in-Ok c =
    let cuts = c.in-Ok.cuts in
    let census = cuts.census in
    answer-success (ap cut_reply c.in-Ok.is) c.write_state.ensures
    (ap (λ z. cuts.count ∷ census.vertices ∷ census.edges ∷ census.cycles ∷ census.pieces ∷ z ∷ []) c.flag-verdict.ensures)
