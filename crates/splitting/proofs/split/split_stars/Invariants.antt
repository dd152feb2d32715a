-- Splitting star by star. The invariant: the half-edges that end at the nodes passed have their successors.
use Prim.Native.Nat.{ℕ, ◌-◌, ◌*◌, ◌<◌, ◌≤◌}
use mathlib.Core.Path.{◌≡◌}
use lib.ListN.{length, get_or}
use Rattle.splitting.proofs.Splitting.{SplitBelow}
use Rattle.splitting.proofs.split.split_stars.Given as goal

abbrev pub invariant-loop-n : goal.invariant-loop-n
invariant-loop-n l = (l.n ≤ l.nodes) × (length l.upcoming ≡ length l.initial.upcoming) × (length l.next ≡ length l.initial.next)
    × ((e : ℕ) → ((h : ℕ) → h < 2 * e → get_or l.labels h 0 < length l.initial.upcoming) → 2 * e ≤ length l.initial.next → SplitBelow l.nodes e l.offsets l.grouped l.dir_edges_marked l.labels l.n l.next)

abbrev pub decreases-loop-n : goal.decreases-loop-n
decreases-loop-n l = l.nodes - l.n
