-- `answer_rings` meets its contract.
use mathlib.Core.Path.{ap}
use mathlib.Core.List.{[], ◌∷◌}
use Rattle.hole_entry.specs.Replies.{rings_reply}
use Rattle.replies.proofs.Replying.{answer-refused, answer-success}
use Rattle.ring_replies.proofs.answer_rings.Goals as goal

pub returns-in-Err : goal.returns-in-Err
returns-in-Err c = answer-refused (ap rings_reply c.in-Err.is) c.refusal_number.ensures

pub returns-in-Ok : goal.returns-in-Ok
returns-in-Ok c =
    let v = c.in-Ok.listed in
    let rings = v.rings in
    let census = rings.census in
    answer-success (ap rings_reply c.in-Ok.is) c.write_state.ensures
    (ap (λ z. rings.count ∷ census.vertices ∷ census.edges ∷ census.cycles ∷ census.pieces ∷ z ∷ rings.comparisons ∷ v.half_edges ∷ v.holes ∷ []) c.flag-verdict.ensures)
