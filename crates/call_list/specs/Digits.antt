-- What digits write.
use Rattle.std.specs.Prelude.{◌≡◌, ℕ, zero, suc, ◌+◌, ◌-◌, ◌*◌, ◌<◌, cond, List, nat_lt, slice_index}

-- the value of a digit: 0 to 9, then a to f; 16 where the byte is no digit
unfoldable pub digit_of : ℕ → ℕ
digit_of b = cond (nat_lt b 48) 16 (cond (nat_lt b 58) (b - 48) (cond (nat_lt b 97) 16 (cond (nat_lt b 103) (b - 87) 16)))

-- the number that n digits from `at` on write
unfoldable pub value_of : ℕ → List ℕ → ℕ → ℕ → ℕ
value_of base text at zero = 0
value_of base text at (suc n) = value_of base text at n * base + digit_of (slice_index text (at + n))

-- digits of the base stand from `at` to `end`, and they write n
pub record Written (base : ℕ) (text : List ℕ) (at end n : ℕ) : Type 0 where
  pub digits : (k : ℕ) → k < end - at → digit_of (slice_index text (at + k)) < base
  pub value : n ≡ value_of base text at (end - at)
