-- Relinking a star. The invariant: what is noted and what is linked is what `noted` and `relinked` say of the part passed.
use Prim.Native.Nat.{◌-◌, ◌≤◌}
use mathlib.Core.Path.{◌≡◌}
use lib.ListN.{length}
use Rattle.lists.specs.Lists.{pick}
use Rattle.stars.specs.Groups.{unmarked, part}
use Rattle.splitting.specs.Splits.{entry_of, noted, relinked}
use Rattle.splitting.proofs.split.relink_star.Given as goal

abbrev pub invariant-loop-i : goal.invariant-loop-i
invariant-loop-i l = (l.from ≤ l.i) × (l.i ≤ l.to) × (length l.upcoming ≡ length l.initial.upcoming) × (length l.next ≡ length l.initial.next)
    × (l.upcoming ≡ noted (entry_of l.labels) (pick (unmarked l.dir_edges_marked) (part l.i l.to l.grouped)) l.initial.upcoming)
    × (l.next ≡ relinked (entry_of l.labels) l.initial.upcoming (pick (unmarked l.dir_edges_marked) (part l.i l.to l.grouped)) l.initial.next)

abbrev pub decreases-loop-i : goal.decreases-loop-i
decreases-loop-i l = l.i - l.from
