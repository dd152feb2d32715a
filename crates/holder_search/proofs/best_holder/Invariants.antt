-- `best_holder` meets its contract. The invariant: the best is that of the candidates from the end on.
use Prim.Native.Nat.{ℕ, ◌≤◌}
use mathlib.Core.Path.{◌≡◌}
use mathlib.Core.List.{List}
use lib.ListN.{length}
use Rattle.rules.specs.Face.{Ring}
use Rattle.holding.specs.Maps.{map_of}
use Rattle.holding.specs.Holding.{Stamps}
use Rattle.holder_search.specs.Search.{Field, Opening, Best}
use Rattle.holder_search.proofs.best_holder.Given as goal

abbrev pub invariant-loop-end : goal.invariant-loop-end
invariant-loop-end l =
    let m = map_of l.dir_edges_src l.xs l.ys l.half_edges l.nodes l.ring_first l.ring_length l.ring_face in
    (length l.stamps ≡ length l.initial.stamps)
    × (l.end ≤ l.count)
    × ((rs : List Ring) (bound slope : ℕ) (o : Ring) → Field rs m bound slope l.rings l.numbers l.count → Opening o m bound slope l.inner l.corner.0 l.x l.y → Best rs m o l.rings l.order l.count l.end l.best)
    × ((rs : List Ring) (bound slope : ℕ) → Field rs m bound slope l.rings l.numbers l.count → Stamps rs l.dir_edges_src bound l.initial.stamps → Stamps rs l.dir_edges_src bound l.stamps)

abbrev pub decreases-loop-end : goal.decreases-loop-end
decreases-loop-end l = l.end
