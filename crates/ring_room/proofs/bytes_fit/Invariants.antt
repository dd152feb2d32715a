-- `bytes_fit` meets its contract. The invariant: what is left holds the rings from `i` on as the whole room holds all.
use Prim.Native.Nat.{◌+◌, ◌≤◌}
use mathlib.Core.Path.{◌≡◌}
use lib.ListN.{drop}
use Rattle.lists.specs.Lists.{upto}
use Rattle.ring_writing.specs.Rings.{sizes_at}
use Rattle.ring_room.proofs.bytes_fit.Given as goal

abbrev pub invariant-loop-size : goal.invariant-loop-size
invariant-loop-size l = (l.size-index ≤ l.count) × (l.left ≤ l.room) × (l.left + sizes_at l.ring_length (upto l.count) ≡ l.room + sizes_at l.ring_length (drop l.size-index (upto l.count)))
