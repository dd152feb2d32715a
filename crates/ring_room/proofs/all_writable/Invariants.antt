-- `all_writable` meets its contract. The invariant: the test of the rings from `i` on is that of all.
use Prim.Native.Nat.{◌-◌, ◌≤◌}
use mathlib.Core.Path.{◌≡◌}
use lib.ListN.{drop}
use Rattle.lists.specs.Lists.{upto, all}
use Rattle.ring_writing.specs.Rings.{writable_at}
use Rattle.ring_room.proofs.all_writable.Given as goal

abbrev pub invariant-loop-i : goal.invariant-loop-i
invariant-loop-i l = (l.i ≤ l.count) × (all (writable_at l.ring_first l.ring_length l.nodes) (drop l.i (upto l.count)) ≡ all (writable_at l.ring_first l.ring_length l.nodes) (upto l.count))

abbrev pub decreases-loop-i : goal.decreases-loop-i
decreases-loop-i l = l.count - l.i
