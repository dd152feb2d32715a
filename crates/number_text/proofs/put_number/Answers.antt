use Prim.Native.Nat.{ℕ}
use mathlib.Core.List.{List}
use mathlib.Core.Path.{◌≡◌, refl, sym, ap, ◌∙◌}
use Prim.Native.Nat.{◌+◌, ◌-◌, ◌/◌, ◌%◌, ◌<◌, ◌≤◌}
use native.Mathlib.Omega.{arith}
use lib.ListN.{length, set, length-set}
use Rattle.file_rules.specs.Decimal.{digit, decimal}
use Rattle.lists.specs.Buffer.{written}
use Rattle.number_text.proofs.Decimals.{decimal-one, decimal_more, decimal_longer}
use Rattle.lists.proofs.Buffers.{written_byte, written_last}
use Rattle.number_text.proofs.put_number.Goals as goal

pub loop-rest-init : goal.loop-rest-init
loop-rest-init c =
    let a = c.args in
    (ap (λ (n : ℕ). a.at + n) c.digit_count.ensures, omega arith, refl, refl)

pub loop-rest-preserved : goal.loop-rest-preserved
loop-rest-preserved c =
    let q = c.loop-rest in
    let a = c.args in
    let t : 10 ≤ q.rest = c.loop-rest-test.true in
    let l = decimal_longer q.rest t in
    let p : q.place - 1 ≡ a.at + length (decimal (q.rest / 10)) = omega arith in
    let h : a.at + length (decimal (q.rest / 10)) < length q.out = omega arith in (
      p,
      omega arith,
      rw length-set q.invariant.2,
      rw (p, c.digit_byte.ensures) (written_last a.at (digit (q.rest % 10)) (decimal (q.rest / 10)) q.out h)
          ∙ ap (λ (l : List ℕ). written a.at l q.out) (sym (decimal_more q.rest t))
          ∙ q.invariant.3,
    )

pub returns : goal.returns
returns c =
    let q = c.loop-rest in
    let a = c.args in
    let t : q.rest < 10 = c.loop-rest-test.false in
    let h : a.at < length q.out = omega (arith, ap length (decimal-one q.rest t)) in
    record {
      buffer = ap (set q.out a.at) c.digit_byte-2.ensures
          ∙ written_byte a.at (digit q.rest) q.out h
          ∙ ap (λ (l : List ℕ). written a.at l q.out) (sym (decimal-one q.rest t))
          ∙ q.invariant.3;
      after = ap (λ (n : ℕ). a.at + n) c.digit_count.ensures;
    }

pub overflow_sub-place : goal.overflow_sub-place
overflow_sub-place c = omega (arith, decimal_longer c.loop-rest.rest c.loop-rest-test.true)

pub bounds-out-place : goal.bounds-out-place
bounds-out-place c = omega (arith, decimal_longer c.loop-rest.rest c.loop-rest-test.true)

pub bounds-out-at : goal.bounds-out-at
bounds-out-at c = omega (arith, ap length (decimal-one c.loop-rest.rest c.loop-rest-test.false))
