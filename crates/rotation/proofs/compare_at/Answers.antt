-- `rotation::compare_at` meets its contract: by x, then y.
-- Assumes nothing.
use Prim.Native.Nat.{ℕ}
use native.Mathlib.Omega.{arith}
use mathlib.Core.Path.{◌≡◌, sym, ap, ◌∙◌}
use mathlib.Core.List.{List}
use lib.ListN.{length, get_or}
use Rattle.std.specs.Ordering.{nat_cmp, ordering_then}
use Rattle.std.specs.Cmp.{nat_cmp_is}
use Rattle.std.specs.declared.cmp.Ordering.{Ordering}
use Rattle.std.specs.declared.cmp.Ordering.TheVariants.{Less, Equal, Greater}
use Rattle.rotation.specs.Rotation.{keys_of, key_at}
use Rattle.rotation.specs.Steps.{key_order}
use Rattle.rotation.proofs.Keys.{cmp-order, key_at_lem}
use Rattle.rotation.proofs.compare_at.Goals as goal

-- how the x stand, and the y behind them, is how the keys stand
told : (xs ys : List ℕ) (i j : ℕ) (o : Ordering) → length xs ≡ length ys → o ≡ nat_cmp (get_or xs i 0) (get_or xs j 0)
    → ordering_then o (nat_cmp (get_or ys i 0) (get_or ys j 0)) ≡ key_order (key_at (keys_of xs ys) i) (key_at (keys_of xs ys) j)
told xs ys i j o e x = ap (λ p. ordering_then p (nat_cmp (get_or ys i 0) (get_or ys j 0))) x ∙ cmp-order _ _
    ∙ (λ k. key_order (sym (key_at_lem xs ys i e) k) (sym (key_at_lem xs ys j e) k))

pub returns-then-xs-i : goal.returns-then-xs-i
returns-then-xs-i c = let a = c.args in told a.xs.now a.ys.now a.i a.j Less c.requires.0 (nat_cmp_is _ _ Less c.if-xs-i.true)

pub returns-then-xs-j : goal.returns-then-xs-j
returns-then-xs-j c = let a = c.args in told a.xs.now a.ys.now a.i a.j Greater c.requires.0 (nat_cmp_is _ _ Greater c.if-xs-j.true)

pub returns : goal.returns
returns c =
    let a = c.args in
    let same : get_or a.xs.now a.i 0 ≡ get_or a.xs.now a.j 0 = omega arith in
    c.cmp.ensures ∙ told a.xs.now a.ys.now a.i a.j Equal c.requires.0 (nat_cmp_is _ _ Equal same)
