-- `mark_list` meets its contract: with the places that are left marked too, all of the list are.
use lib.ListN.{length}
use Rattle.rules.specs.Limits.{limits}
use Rattle.line_ids.specs.Free.{list_places_lem, marked}
use Rattle.line_ids.proofs.Marked.{onward, Passing}
use Rattle.line_ids.proofs.free.mark_list.Given as goal

abbrev pub invariant-loop-at : goal.invariant-loop-at
invariant-loop-at l = Passing limits.pairs l.links (marked (list_places_lem limits.pairs l.list_places l.links l.k) l.initial.used) l.at l.used

abbrev pub decreases-loop-at : goal.decreases-loop-at
decreases-loop-at l = length (onward limits.pairs l.links l.at)
