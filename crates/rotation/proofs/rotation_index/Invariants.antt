-- `rotation::rotation_index` meets its contract: its turns are the comparisons of the two-candidate method.
-- Assumes nothing.
use Prim.Native.Nat.{◌+◌, ◌-◌, ◌*◌}
use lib.ListN.{length}
use Rattle.rotation.specs.Rotation.{keys_of}
use Rattle.rotation.proofs.Steps.{Underway}
use Rattle.rotation.proofs.rotation_index.Given as goal

abbrev pub invariant-loop-left : goal.invariant-loop-left
invariant-loop-left l = Underway (keys_of l.xs l.ys) (record { left = l.left; right = l.right; offset = l.offset; compared = l.compared })

abbrev pub decreases-loop-left : goal.decreases-loop-left
decreases-loop-left l = 3 * length l.xs - (l.left + l.right + l.offset)
