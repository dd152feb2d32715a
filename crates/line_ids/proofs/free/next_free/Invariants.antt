-- `next_free` meets its contract: from the place that it looks at on the same place is found.
use Prim.Native.Nat.{◌≤◌, ◌-◌}
use mathlib.Core.Path.{◌≡◌}
use Rattle.rules.specs.Limits.{limits}
use Rattle.line_ids.specs.Free.{free_from}
use Rattle.line_ids.proofs.free.next_free.Given as goal

abbrev pub invariant-loop-p : goal.invariant-loop-p
invariant-loop-p l = (l.p ≤ limits.pairs) × (free_from l.used l.p limits.pairs ≡ free_from l.used l.from limits.pairs)

abbrev pub decreases-loop-p : goal.decreases-loop-p
decreases-loop-p l = limits.pairs - l.p
