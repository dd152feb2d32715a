-- `double_areas` meets its contract: so far the first areas are doubled, whatever numbers they are said to be half of.
use Prim.Native.Nat.{◌-◌, ◌≤◌}
use mathlib.Core.Path.{◌≡◌}
use mathlib.Core.List.{List}
use lib.IntN.{ℤ}
use lib.ListN.{length, take}
use Rattle.lists.specs.Lists.{over}
use Rattle.ring_records.specs.Given.{Halves}
use Rattle.ring_records.proofs.double_areas.Given as goal

abbrev pub invariant-loop-i : goal.invariant-loop-i
invariant-loop-i l = (l.i ≤ l.count) × (length l.to ≡ length l.initial.to) × ((zs : List ℤ) → Halves l.ring_area zs → l.count ≡ length zs → l.to ≡ over (take l.i zs) l.initial.to)

abbrev pub decreases-loop-i : goal.decreases-loop-i
decreases-loop-i l = l.count - l.i
