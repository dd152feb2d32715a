-- `answer_added` meets its contract.
use mathlib.Core.Path.{ap}
use Rattle.adding.specs.Outcomes.{reply_of}
use Rattle.replies.proofs.Replying.{answer-refused, answer-success}
use Rattle.replies.proofs.building.answer_added.Goals as goal

pub returns-in-Err : goal.returns-in-Err
returns-in-Err c = answer-refused (ap reply_of c.in-Err.is) c.refusal_number.ensures

pub returns-in-Ok : goal.returns-in-Ok
returns-in-Ok c = answer-success (ap reply_of c.in-Ok.is) c.write_state.ensures c.edge_values.ensures
