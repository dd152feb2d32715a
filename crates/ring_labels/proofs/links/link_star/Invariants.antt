-- `ring_labels::links::link_star` meets its contract. The invariant: linking what is left gives what linking the whole star gives.
use Prim.Native.Nat.{◌-◌, ◌≤◌}
use mathlib.Core.Path.{◌≡◌}
use lib.ListN.{length}
use Rattle.stars.specs.Groups.{unmarked, part}
use Rattle.ring_labels.specs.Links.{link_from, link_star_lem}
use Rattle.ring_labels.proofs.links.link_star.Given as goal

abbrev pub invariant-loop-i : goal.invariant-loop-i
invariant-loop-i l = (l.from ≤ l.i) × (l.i ≤ l.to) × (length l.next ≡ length l.initial.next)
    × (link_from (unmarked l.dir_edges_marked) l.previous.0 (part l.i l.to l.grouped) l.next ≡ link_star_lem (unmarked l.dir_edges_marked) (part l.from l.to l.grouped) l.initial.next)

abbrev pub decreases-loop-i : goal.decreases-loop-i
decreases-loop-i l = l.to - l.i
