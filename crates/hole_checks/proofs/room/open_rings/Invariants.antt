-- `open_rings` meets its contract: after i turns the open ones among the first i are counted.
use Prim.Native.Nat.{◌≤◌, ◌-◌}
use mathlib.Core.Path.{◌≡◌}
use lib.ListN.{length}
use Rattle.hole_checks.specs.Open.{open_among}
use Rattle.hole_checks.proofs.room.open_rings.Given as goal

abbrev pub invariant-loop-i : goal.invariant-loop-i
invariant-loop-i l = (l.i ≤ l.count) × (l.total ≤ l.i) × (l.total ≡ length (open_among l.ring_side l.i))

abbrev pub decreases-loop-i : goal.decreases-loop-i
decreases-loop-i l = l.count - l.i
