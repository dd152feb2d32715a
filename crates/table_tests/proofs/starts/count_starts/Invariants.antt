-- `count_starts` meets its contract: each entry counts the half-edges passed that start there.
use Prim.Native.Nat.{◌≤◌, ◌-◌}
use Rattle.rules.specs.Limits.{limits}
use Rattle.table_tests.proofs.Standing.{Counted}
use Rattle.table_tests.proofs.starts.count_starts.Given as goal

abbrev pub invariant-loop-h : goal.invariant-loop-h
invariant-loop-h l = (l.h ≤ l.halves) × Counted limits.nodes l.dir_edges_src l.h l.counts

abbrev pub decreases-loop-h : goal.decreases-loop-h
decreases-loop-h l = l.halves - l.h
