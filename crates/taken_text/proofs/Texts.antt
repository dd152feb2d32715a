-- A text that was put at the front of a buffer ends within it.
use Prim.Native.Nat.{ℕ, ◌+◌, ◌≤◌}
use native.Mathlib.Omega.{arith}
use mathlib.Core.Path.{ap}
use mathlib.Core.List.{List}
use lib.ListN.{length, drop, length-append}
use Rattle.lists.specs.Buffer.{written, Put}

-- what was written is as long as its text at least
written-long : (text out : List ℕ) → length text ≤ length (written 0 text out)
unfolding written
written-long text out = omega (arith, length-append text (drop (0 + length text) out))

pub put_within : (text old new : List ℕ) (place : ℕ) → Put 0 text old new place → place ≤ length new
put_within text old new place p = omega (arith, p.after, ap length p.buffer, written-long text old)
