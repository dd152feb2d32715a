-- `answer_step` meets its contract.
use mathlib.Core.Path.{refl, ap}
use Rattle.calls.specs.Replies.{step_reply}
use Rattle.replies.proofs.Replying.{answer-refused, answer-success}
use Rattle.replies.proofs.steps.answer_step.Goals as goal

pub returns-in-Err : goal.returns-in-Err
returns-in-Err c = answer-refused (ap step_reply c.in-Err.is) c.refusal_number.ensures

pub returns-in-Ok : goal.returns-in-Ok
returns-in-Ok c = answer-success (ap step_reply c.in-Ok.is) c.write_state.ensures refl
