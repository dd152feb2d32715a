-- `seek_id` meets its contract: all ids passed are lower, and what is left tells what the whole list tells.
use lib.ListN.{length}
use Rattle.rules.specs.Limits.{limits}
use Rattle.line_ids.proofs.Marked.{onward}
use Rattle.line_ids.proofs.Looking.{Looking}
use Rattle.line_ids.proofs.seeking.seek_id.Given as goal

abbrev pub invariant-loop-at : goal.invariant-loop-at
invariant-loop-at l = Looking limits.pairs (record { place = l.list_places; id = l.pair_ids; next = l.links }) l.id l.k l.behind l.at

abbrev pub decreases-loop-at : goal.decreases-loop-at
decreases-loop-at l = length (onward limits.pairs l.links l.at)
