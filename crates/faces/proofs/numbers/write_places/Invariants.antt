-- `faces::numbers::write_places` meets its contract. The invariant: the places of the first p rings in order are written.
-- Assumes nothing.
use Prim.Native.Nat.{◌-◌, ◌≤◌}
use lib.ListN.{take}
use Rattle.faces.proofs.Places.{Written}
use Rattle.faces.proofs.numbers.write_places.Given as goal

abbrev pub invariant-loop-p : goal.invariant-loop-p
invariant-loop-p l = Written (take l.count l.order) l.count l.p l.initial.faces l.faces × (l.p ≤ l.count)

abbrev pub decreases-loop-p : goal.decreases-loop-p
decreases-loop-p l = l.count - l.p
