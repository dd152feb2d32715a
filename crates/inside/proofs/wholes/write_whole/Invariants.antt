-- `write_whole` meets its contract: so far the first entries are the values.
use Rattle.std.proofs.Common.{◌≡◌, ◌-◌, ◌≤◌, map, length, take}
use Rattle.lists.specs.Lists.{over}
use Rattle.geometry.specs.Coordinate.{value}
use Rattle.inside.proofs.wholes.write_whole.Given as goal

abbrev pub invariant-loop-n : goal.invariant-loop-n
invariant-loop-n l = (l.n ≤ l.count) × (length l.out ≡ length l.initial.out) × (l.out ≡ over (take l.n (map value l.floats)) l.initial.out)

abbrev pub decreases-loop-n : goal.decreases-loop-n
decreases-loop-n l = l.count - l.n
