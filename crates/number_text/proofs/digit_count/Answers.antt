use mathlib.Core.Path.{ap}
use Prim.Native.Nat.{ℕ}
use Rattle.lists.proofs.Counts.{by_lt}
use Prim.Native.Nat.{◌/◌, ◌^◌, ◌<◌}
use native.Mathlib.Omega.{arith}
use lib.ListN.{length}
use Rattle.file_rules.specs.Decimal.{decimal}
use Rattle.number_text.proofs.Decimals.{decimal-one, decimal_longer, decimal_64}
use Rattle.number_text.proofs.digit_count.Goals as goal

some : (n : ℕ) → 0 < length (decimal n)
some n = by_lt n 10 (λ l. rw (decimal-one n l) (omega arith)) (λ l. omega (arith, decimal_longer n l))

pub loop-rest-init : goal.loop-rest-init
loop-rest-init c = (omega arith, some c.args.n)

pub overflow_add-count : goal.overflow_add-count
overflow_add-count c =
    let n = c.args.n in
    let h : n < 2 ^ 64 = omega arith in
    omega (arith, decimal_64 n h)

pub loop-rest-preserved : goal.loop-rest-preserved
loop-rest-preserved c =
    let r = c.loop-rest.rest in
    let s = decimal_longer r c.loop-rest-test.true in
    (omega arith, omega (arith, some (r / 10)))

pub returns : goal.returns
returns c = omega (arith, ap length (decimal-one c.loop-rest.rest c.loop-rest-test.false))
