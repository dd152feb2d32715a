-- `survey_file` meets its contract. The invariant: the rings and node numbers before `at` are counted.
use Prim.Native.Nat.{◌-◌}
use lib.ListN.{length}
use Rattle.ring_reading.proofs.Progress.{Surveying}
use Rattle.ring_reading.proofs.survey_file.Given as goal

abbrev pub invariant-loop-found : goal.invariant-loop-found
invariant-loop-found l = Surveying l.bytes l.at l.rings l.nodes

abbrev pub decreases-loop-found : goal.decreases-loop-found
decreases-loop-found l = length l.bytes - l.at
