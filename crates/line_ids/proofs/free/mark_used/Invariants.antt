-- `mark_used` meets its contract: after k edges the places of their lists are marked.
use Prim.Native.Nat.{◌≤◌, ◌-◌}
use mathlib.Core.Path.{◌≡◌}
use Rattle.rules.specs.Limits.{limits}
use Rattle.line_ids.proofs.Marked.{list_marks}
use Rattle.line_ids.proofs.free.mark_used.Given as goal

abbrev pub invariant-loop-k : goal.invariant-loop-k
invariant-loop-k l = (l.k ≤ l.edges) × (l.used ≡ list_marks limits.pairs l.list_places l.links l.k)

abbrev pub decreases-loop-k : goal.decreases-loop-k
decreases-loop-k l = l.edges - l.k
