-- `write_reaches` meets its contract. The invariant: the table has the reach of each place before k.
use Prim.Native.Nat.{◌-◌, ◌≤◌}
use mathlib.Core.Path.{◌≡◌}
use lib.ListN.{length}
use Rattle.passing.specs.Passing.{Reaches}
use Rattle.passing.proofs.write_reaches.Given as goal

abbrev pub invariant-loop-k : goal.invariant-loop-k
invariant-loop-k l = (l.k ≤ l.count) × (length l.reaches ≡ length l.initial.reaches) × Reaches l.numbers l.order l.k l.reaches

abbrev pub decreases-loop-k : goal.decreases-loop-k
decreases-loop-k l = l.count - l.k
