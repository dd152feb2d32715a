-- `counts_within` meets its contract.
use mathlib.Core.Path.{ap₂, ◌∙◌}
use mathlib.Core.Bool.{◌&&◌, and_assoc}
use lib.Dec.{leb}
use Rattle.rules.specs.Limits.{limits}
use Rattle.table_tests.proofs.sound.counts_within.Goals as goal

pub returns : goal.returns
returns c =
    let g = c.args.graph in
    ap₂ (λ n m. leb n limits.nodes && leb m limits.edges && leb g.stage 4) c.from.ensures c.from-2.ensures
    ∙ and_assoc (leb g.node_count limits.nodes) (leb g.edge_count limits.edges) (leb g.stage 4)
