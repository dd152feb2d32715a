-- `lists_sound` meets its contract: after k edges it has followed the lists of k edges.
use Prim.Native.Nat.{◌≤◌, ◌-◌}
use mathlib.Core.Path.{◌≡◌}
use Rattle.rules.specs.Limits.{limits}
use Rattle.list_tests.specs.Walks.{walk_lists}
use Rattle.list_tests.proofs.lists_sound.Given as goal

abbrev pub invariant-loop-k : goal.invariant-loop-k
invariant-loop-k l = (l.k ≤ l.edges) × (record { good = l.good; seen = l.seen } ≡ walk_lists limits.pairs (record { place = l.list_places; id = l.pair_ids; next = l.links }) l.line_ids l.k)

abbrev pub decreases-loop-k : goal.decreases-loop-k
decreases-loop-k l = l.edges - l.k
