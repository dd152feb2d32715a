-- `write_least` meets its contract. The invariant: no candidate before place k has an area below the lowest, and the table has it so for each place before.
use Prim.Native.Nat.{◌-◌, ◌≤◌}
use mathlib.Core.Path.{◌≡◌}
use lib.ListN.{length}
use Rattle.passing.specs.Passing.{LeastAreas}
use Rattle.passing.proofs.Passes.{NoneBelow}
use Rattle.passing.proofs.write_least.Given as goal

abbrev pub invariant-loop-k : goal.invariant-loop-k
invariant-loop-k l = (l.k ≤ l.count) × (length l.least ≡ length l.initial.least) × NoneBelow l.numbers l.order l.k l.lowest × LeastAreas l.numbers l.order l.k l.least

abbrev pub decreases-loop-k : goal.decreases-loop-k
decreases-loop-k l = l.count - l.k
