-- `take_rings` meets its contract. The invariant: the lists hold the rings before `at`.
use Prim.Native.Nat.{◌-◌}
use lib.ListN.{length}
use Rattle.file_rules.specs.RingFile.{lent}
use Rattle.ring_taking.proofs.Filling.{Filling}
use Rattle.ring_taking.proofs.take_rings.Given as goal

abbrev pub invariant-loop-found : goal.invariant-loop-found
invariant-loop-found l = Filling l.bytes (lent l.initial.ring_first l.initial.ring_length l.initial.ring_face l.initial.ring_doubled l.initial.nodes) l.at l.ring l.place (lent l.ring_first l.ring_length l.ring_face l.ring_doubled l.nodes)

abbrev pub decreases-loop-found : goal.decreases-loop-found
decreases-loop-found l = length l.bytes - l.at
