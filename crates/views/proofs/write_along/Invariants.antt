-- `write_along` meets its contract. The invariant: the entries before n are written.
use Prim.Native.Nat.{◌-◌, ◌≤◌}
use mathlib.Core.Path.{◌≡◌}
use lib.ListN.{length}
use Rattle.views.specs.Views.{Slanted}
use Rattle.views.proofs.write_along.Given as goal

abbrev pub invariant-loop-n : goal.invariant-loop-n
invariant-loop-n l = (l.n ≤ l.count) × (length l.along ≡ length l.initial.along) × Slanted l.slope l.xs l.ys l.n l.along

abbrev pub decreases-loop-n : goal.decreases-loop-n
decreases-loop-n l = l.count - l.n
