-- Noting a star. The invariant: what is noted is what `noted` says of the part passed.
use Prim.Native.Nat.{◌-◌, ◌≤◌}
use mathlib.Core.Path.{◌≡◌}
use lib.ListN.{length}
use Rattle.lists.specs.Lists.{pick}
use Rattle.stars.specs.Groups.{unmarked, part}
use Rattle.splitting.specs.Splits.{entry_of, noted}
use Rattle.splitting.proofs.split.note_star.Given as goal

abbrev pub invariant-loop-i : goal.invariant-loop-i
invariant-loop-i l = (l.from ≤ l.i) × (l.i ≤ l.to) × (length l.upcoming ≡ length l.initial.upcoming)
    × (l.upcoming ≡ noted (entry_of l.labels) (pick (unmarked l.dir_edges_marked) (part l.i l.to l.grouped)) l.initial.upcoming)

abbrev pub decreases-loop-i : goal.decreases-loop-i
decreases-loop-i l = l.i - l.from
