-- `tukmiheb_minimum_rotation_index` meets its contract.
use mathlib.Core.Path.{sym, ap, ◌∙◌}
use Rattle.rotation.specs.Answers.{start_reply}
use Rattle.station_questions.specs.Questions.{told_by, told_start}
use Rattle.station_questions.proofs.least_rotation.tukmiheb_minimum_rotation_index.Goals as goal

pub returns-in-Err : goal.returns-in-Err
returns-in-Err c =
    let reply = c.args.reply.now in
    ap (λ n. told_by n reply) c.refusal_number.ensures ∙ ap (λ r. told_start reply (start_reply r)) (sym c.in-Err.is ∙ c.minimum_rotation_index.ensures)

pub returns-in-Ok : goal.returns-in-Ok
returns-in-Ok c = ap (λ r. told_start c.args.reply.now (start_reply r)) (sym c.in-Ok.is ∙ c.minimum_rotation_index.ensures)
