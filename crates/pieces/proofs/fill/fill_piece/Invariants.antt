-- `pieces::fill::fill_piece` meets its contract. The invariant: the fill from the seed is under way (`Filling`). The measure is the stack with the nodes that have no number.
use Prim.Native.Nat.{ℕ, ◌+◌, ◌*◌, ◌≤◌}
use mathlib.Core.Path.{◌≡◌}
use mathlib.Core.List.{List}
use lib.ListN.{length, take}
use Rattle.rules.specs.Sane.{Sane}
use Rattle.rules.specs.State.{arrangement_in}
use Rattle.stars.specs.Grouped.{Grouped}
use Rattle.seeds.specs.Reach.{Spreadable}
use Rattle.seeds.proofs.Reaching.{free}
use Rattle.pieces.proofs.Filling.{Below, Filling}
use Rattle.pieces.proofs.fill.fill_piece.Given as goal

abbrev pub invariant-loop-top : goal.invariant-loop-top
invariant-loop-top l = (length l.pieces ≡ length l.initial.pieces) × (length l.stack ≡ length l.initial.stack) × (l.top + free l.pieces ≤ length l.pieces)
    × ((nodes : ℕ) → (edges : ℕ) → Spreadable nodes edges l.dir_edges_src l.dir_edges_marked l.offsets l.grouped → Below nodes (take l.initial.top l.initial.stack) → Below nodes (take l.top l.stack))
    × ((seed nodes edges : ℕ) (star : List ℕ) → Grouped nodes l.dir_edges_src (take (2 * edges) star) l.offsets l.grouped
    → (sane : Sane (arrangement_in nodes edges l.dir_edges_src l.dir_edges_marked star)) → nodes ≤ length l.initial.pieces
    → let g = arrangement_in nodes edges l.dir_edges_src l.dir_edges_marked star in
    Filling g sane l.initial.pieces seed l.piece l.initial.pieces (take l.initial.top l.initial.stack) → Filling g sane l.initial.pieces seed l.piece l.pieces (take l.top l.stack))

abbrev pub decreases-loop-top : goal.decreases-loop-top
decreases-loop-top l = l.top + free l.pieces
