-- `ring_labels::links::last_active` meets its contract. The invariant: the last active one of what is left in front is that of the whole.
use Prim.Native.Nat.{◌≤◌}
use mathlib.Core.Path.{◌≡◌}
use Rattle.lists.specs.Lists.{pick, last_of}
use Rattle.stars.specs.Groups.{unmarked, part}
use Rattle.ring_labels.proofs.links.last_active.Given as goal

abbrev pub invariant-loop-i : goal.invariant-loop-i
invariant-loop-i l = (l.from ≤ l.i) × (l.i ≤ l.to)
    × (last_of 0 (pick (unmarked l.dir_edges_marked) (part l.from l.i l.grouped)) ≡ last_of 0 (pick (unmarked l.dir_edges_marked) (part l.from l.to l.grouped)))

abbrev pub decreases-loop-i : goal.decreases-loop-i
decreases-loop-i l = l.i
