-- What a table holds for a half-edge is read at its index.
use mathlib.Core.Path.{ap, ◌∙◌}
use lib.ListN.{get_or}
use Rattle.splitting.proofs.reads.index_at.Goals as goal

pub returns : goal.returns
returns c = c.from-2.ensures ∙ ap (λ i. get_or c.args.table.now i 0) c.from.ensures
