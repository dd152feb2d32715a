-- `ring_stands` meets its contract. The invariant: what is left of the lines, with the parity so far, answers as all of them do.
use Rattle.std.proofs.Common.{◌≡◌, ◌-◌, ◌≤◌, false, length, drop}
use Rattle.lists.specs.Lists.{last_of, In}
use Rattle.inside.specs.Spots.{spot, spot_in}
use Rattle.inside.specs.Standing.{stands_from}
use Rattle.inside.proofs.rings.ring_stands.Given as goal

abbrev pub invariant-loop-to : goal.invariant-loop-to
invariant-loop-to l =
    let at = spot_in l.xs l.ys in
    let p = spot l.px l.py in
    (l.to-index ≤ length l.nodes)
    × In l.from l.nodes
    × (stands_from at p l.odd l.from (drop l.to-index l.nodes) ≡ stands_from at p false (last_of 0 l.nodes) l.nodes)

abbrev pub decreases-loop-to : goal.decreases-loop-to
decreases-loop-to l = length l.nodes - l.to-index
