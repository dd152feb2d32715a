-- `leaves::first_active` meets its contract. The loop's invariant: the first active half-edge of what is left is that of the whole.
use Prim.Native.Nat.{ℕ, ◌-◌, ◌<◌}
use mathlib.Core.Path.{◌≡◌}
use lib.ListN.{length}
use Rattle.lists.specs.Lists.{In}
use Rattle.rules.specs.Prune.{first_active_lem}
use Rattle.stars.specs.Groups.{part}
use Rattle.leaves.proofs.first_active.Given as goal

abbrev pub invariant-loop-i : goal.invariant-loop-i
invariant-loop-i l = (first_active_lem l.dir_edges_marked 0 (part l.i l.to l.grouped) ≡ first_active_lem l.dir_edges_marked 0 (part l.from l.to l.grouped)) × ((h : ℕ) → In h (part l.i l.to l.grouped) → h < length l.dir_edges_marked)

abbrev pub decreases-loop-i : goal.decreases-loop-i
decreases-loop-i l = l.to - l.i
