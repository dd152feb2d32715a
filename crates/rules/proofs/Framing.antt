-- A cycle does not depend on the count that it is looked for below: nothing past the count is active.
use Prim.Native.Nat.{ℕ, ◌≤◌}
use native.Mathlib.Omega.{arith}
use mathlib.Core.Path.{◌≡◌, sym, ap, ◌∙◌}
use mathlib.Core.Bool.{Bool, ◌&&◌}
use lib.Dec.{ltb}
use borrow.Author.Tests.{lt-ltb, ltb-true}
use Rattle.lists.proofs.Counts.{by_lt}
use Rattle.lists.proofs.Tests.{both}
use Rattle.rules.specs.Cycles.{cycle}
use Rattle.rules.specs.Sane.{Live, Permutes}
use Rattle.rules.proofs.Walks.{run, return, cycle_run}

-- a greater count, past which nothing is active
pub permutes_wide : (f : ℕ → ℕ) (n m : ℕ) (active : ℕ → Bool) → n ≤ m → Permutes f n active → Permutes f m (λ h. ltb h n && active h)
permutes_wide f n m active l t =
    let narrow : (h : ℕ) → Live m (λ x. ltb x n && active x) h → Live n active h = λ h a.
    let p = both (ltb h n) (active h) a.1 in (ltb-true h n p.0, p.1) in
    record {
      stays = λ h a. let r = t.stays h (narrow h a) in (omega arith, rw (lt-ltb (f h) n r.0, r.1));
      apart = λ g h a b e. t.apart g h (narrow g a) (narrow h b) e;
    }

-- what is active stays so
pub live_wide : (n m : ℕ) (active : ℕ → Bool) (h : ℕ) → n ≤ m → Live n active h → Live m (λ x. ltb x n && active x) h
live_wide n m active h l a = (omega arith, rw (lt-ltb h n a.0, a.1))

-- the cycle does not depend on the count
pub cycle-frame : (f : ℕ → ℕ) (n m : ℕ) (a b : ℕ → Bool) → Permutes f n a → Permutes f m b → (h : ℕ) → Live n a h → Live m b h → cycle f n h ≡ cycle f m h
cycle-frame f n m a b t u h p q =
    let r = return f n a t h p in
    let s = return f m b u h q in
    let same : r.0 ≡ s.0 = by_lt r.0 s.0
    (λ l. absurd (s.2.first r.0 r.2.some l r.2.back))
    (λ l. by_lt s.0 r.0
    (λ k. absurd (r.2.first s.0 s.2.some k s.2.back))
    (λ k. omega arith)) in
    cycle_run f n a t h r.0 r.1 r.2 ∙ ap (λ k. run f k h) same ∙ sym (cycle_run f m b u h s.0 s.1 s.2)
