-- `is_writable` meets its contract, test by test.
use Prim.Native.Nat.{ℕ, ◌+◌, ◌-◌, ◌≤◌}
use native.Mathlib.Omega.{arith}
use mathlib.Core.Path.{◌≡◌, refl, sym, ◌∙◌}
use lib.Dec.{leb}
use borrow.Author.Tests.{leb-true, leb-false, lt-ltb, le-ltb, le-leb, lt-leb}
use Rattle.lists.proofs.Counts.{by_test}
use Rattle.ring_room.proofs.is_writable.Goals as goal

-- the length on the other side
moved : (a b c : ℕ) → b ≤ c → leb a (c - b) ≡ leb (a + b) c
moved a b c h =
    by_test (leb (a + b) c) (λ e. le-leb a (c - b) (omega (arith, leb-true (a + b) c e)) ∙ sym e)
    (λ e. lt-leb a (c - b) (omega (arith, leb-false (a + b) c e)) ∙ sym e)

pub returns-then-size-eq0 : goal.returns-then-size-eq0
returns-then-size-eq0 c = let a = c.args in rw (le-ltb 0 a.size (omega arith)) refl

pub returns-then-size-gt-MAX_NODES : goal.returns-then-size-gt-MAX_NODES
returns-then-size-gt-MAX_NODES c = let a = c.args in rw (lt-ltb 0 a.size (omega arith), lt-leb a.size 65535 (omega arith)) refl

pub returns-then-nodes-size : goal.returns-then-nodes-size
returns-then-nodes-size c = let a = c.args in rw (lt-ltb 0 a.size (omega arith), le-leb a.size 65535 (omega arith), lt-leb (a.first + a.size) a.nodes (omega arith)) refl

pub returns : goal.returns
returns c = let a = c.args in rw (lt-ltb 0 a.size (omega arith), le-leb a.size 65535 (omega arith)) (moved a.first a.size a.nodes (omega arith))
