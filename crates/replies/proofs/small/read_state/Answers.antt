-- `read_state` meets its contract.
use lib.ListN.{get_or}
use Rattle.replies.proofs.small.read_state.Goals as goal

pub returns : goal.returns
returns c =
    let small = c.args.state.now in
    (λ i. record { node_count = get_or small 0 0; edge_count = get_or small 1 0; stage = c.read_stage.ensures i })
