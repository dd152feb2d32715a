use Prim.Native.Nat.{ℕ, ◌+◌, ◌<◌}
use native.Mathlib.Omega.{arith}
use mathlib.Core.Path.{◌≡◌, refl, sym, ap, ◌∙◌}
use mathlib.Core.Bool.{Bool, ◌&&◌}
use lib.ListN.{drop}
use Rattle.lists.specs.Lists.{upto, all}
use Rattle.ring_writing.proofs.Places.{places_from_lem, places-end}
use Rattle.ring_room.proofs.all_writable.Goals as goal

-- the test at a place, and that of those behind it
opened : (p : ℕ → Bool) (count i : ℕ) (b : Bool) → b ≡ p i → i < count → all p (drop i (upto count)) ≡ all p (upto count)
    → (b && all p (drop (i + 1) (upto count))) ≡ all p (upto count)
opened p count i b e h rest =
    ap (λ (x : Bool). x && all p (drop (i + 1) (upto count))) e ∙ ap (all p) (sym (places_from_lem count i h)) ∙ rest

pub loop-i-init : goal.loop-i-init
loop-i-init c = (omega arith, refl)

pub returns-then-not-is_writable : goal.returns-then-not-is_writable
returns-then-not-is_writable c =
    let a = c.args in
    opened _ a.count c.loop-i.i _ (sym c.if-not-is_writable.true ∙ c.is_writable.ensures) c.loop-i-test.true c.loop-i.invariant.1

pub loop-i-preserved : goal.loop-i-preserved
loop-i-preserved c =
    let a = c.args in
    (omega arith, opened _ a.count c.loop-i.i _ (sym c.if-not-is_writable.false ∙ c.is_writable.ensures) c.loop-i-test.true c.loop-i.invariant.1)

pub returns : goal.returns
returns c =
    let a = c.args in
    let q = c.loop-i in
    let e : q.i ≡ a.count = omega arith in
    sym (ap (all _) (ap (λ (n : ℕ). drop n (upto a.count)) e ∙ places-end a.count)) ∙ q.invariant.1
