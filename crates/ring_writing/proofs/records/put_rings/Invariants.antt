-- `put_rings` meets its contract. The invariant: the records of the rings from `i` on are left.
use Prim.Native.Nat.{◌-◌, ◌≤◌}
use lib.ListN.{drop}
use Rattle.lists.specs.Lists.{upto}
use Rattle.lists.proofs.Buffers.{Left}
use Rattle.file_rules.specs.RingFile.{lent}
use Rattle.ring_writing.specs.Rings.{bytes_at}
use Rattle.ring_writing.proofs.records.put_rings.Given as goal

abbrev pub invariant-loop-i : goal.invariant-loop-i
invariant-loop-i l = let t = lent l.ring_first l.ring_length l.ring_face l.ring_doubled l.nodes in
    (l.i ≤ l.count) × Left 0 (bytes_at t (upto l.count)) l.initial.out l.place (bytes_at t (drop l.i (upto l.count))) l.out

abbrev pub decreases-loop-i : goal.decreases-loop-i
decreases-loop-i l = l.count - l.i
