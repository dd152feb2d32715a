-- `answer_created` meets its contract.
use Prim.Native.Nat.{◌<◌}
use mathlib.Core.Path.{◌≡◌, refl, sym, ap, subst}
use Rattle.create_entry.specs.Replies.{created_reply, created_graph}
use Rattle.replies.specs.Lent.{graph_in, numbers_of}
use Rattle.replies.proofs.Replying.{answer-refused, answer-success}
use Rattle.replies.proofs.building.answer_created.Goals as goal

pub returns-in-Err : goal.returns-in-Err
returns-in-Err c = answer-refused (ap created_reply c.in-Err.is) c.refusal_number.ensures

pub returns-in-Ok : goal.returns-in-Ok
returns-in-Ok c =
    let small = c.args.state.now in
    let e = c.in-Ok.is in
    answer-success (ap created_reply e)
    (subst (λ z. (c.write_state.new.state ≡ numbers_of (created_graph (graph_in small) z)) × ((created_graph (graph_in small) z).stage < 256)) (sym e) c.write_state.ensures)
    refl
