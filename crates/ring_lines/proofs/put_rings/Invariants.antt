-- `put_rings` meets its contract. After k turns the lines of the first k rings are written, whatever rings the lists are said to hold.
use Prim.Native.Nat.{◌-◌, ◌≤◌}
use mathlib.Core.Path.{◌≡◌}
use mathlib.Core.List.{List}
use lib.ListN.{length}
use Rattle.rules.specs.Face.{Ring}
use Rattle.lists.specs.Buffer.{Put}
use Rattle.rules.specs.Listing.{lines_of}
use Rattle.ring_lists.specs.Shown.{Shown}
use Rattle.ring_lines.proofs.put_rings.Given as goal

abbrev pub invariant-loop-k : goal.invariant-loop-k
invariant-loop-k l = (l.k ≤ l.count) × (length l.out ≡ length l.initial.out)
    × ((rings : List Ring) → Shown rings l.half_edges l.ring_first l.ring_length l.ring_face l.ring_area → l.count ≡ length rings → Put l.at (lines_of l.dir_edges_src rings l.k) l.initial.out l.out l.place)

abbrev pub decreases-loop-k : goal.decreases-loop-k
decreases-loop-k l = l.count - l.k
