-- `seeds::end_of` meets its contract: what is read is the start of the twin.
use mathlib.Core.Path.{ap, ◌∙◌}
use lib.ListN.{get_or}
use Rattle.seeds.proofs.end_of.Goals as goal

pub returns : goal.returns
returns c = ap (λ i. get_or c.args.dir_edges_src.now i 0) (c.from-t.ensures ∙ c.twin_of.ensures)
