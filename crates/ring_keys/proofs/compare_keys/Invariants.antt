-- `ring_keys::compare_keys` meets its contract. The invariant: the first k entries of the two are equal.
-- Assumes nothing.
use Prim.Native.Nat.{ℕ, ◌-◌, ◌<◌, ◌≤◌}
use mathlib.Core.Path.{◌≡◌}
use Rattle.rotation.specs.Rotation.{keys_of, key_at}
use Rattle.ring_keys.specs.Keys.{turned_keys}
use Rattle.ring_keys.proofs.compare_keys.Given as goal

abbrev pub invariant-loop-k : goal.invariant-loop-k
invariant-loop-k l = (l.k ≤ l.shared) × ((t : ℕ) → t < l.k → key_at (turned_keys (keys_of l.xs l.ys) l.a) t ≡ key_at (turned_keys (keys_of l.xs l.ys) l.b) t)

abbrev pub decreases-loop-k : goal.decreases-loop-k
decreases-loop-k l = l.shared - l.k
