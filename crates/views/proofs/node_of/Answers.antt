-- `node_of` meets its contract.
use mathlib.Core.Path.{ap, ◌∙◌}
use lib.ListN.{get_or}
use Rattle.views.proofs.node_of.Goals as goal

pub returns : goal.returns
returns c =
    let a = c.args in
    c.from.ensures ∙ ap (λ h. get_or a.dir_edges_src.now h 0) c.from-half.ensures
