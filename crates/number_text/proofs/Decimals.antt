-- Numbers in decimal: the last digit and the rest, and how many digits there are.
use mathlib.Core.Path.{◌≡◌, refl, sym, ap, ◌∙◌}
use mathlib.Core.Bool.{Bool, true, false}
use mathlib.Core.List.{List, [], ◌∷◌, ◌++◌}
use Prim.Native.Nat.{ℕ, zero, suc, ◌+◌, ◌/◌, ◌%◌, ◌^◌, ◌<◌, ◌≤◌}
use native.Mathlib.Omega.{arith}
use native.Mathlib.Nat.{pow-suc}
use borrow.Author.Tests.{lt-ltb, le-ltb}
use lib.Dec.{ltb}
use lib.ListN.{length, length-append}
use lib.IntN.{ℤ, pos, negsuc}
use lib.Signed.{mag}
use Rattle.lists.proofs.Counts.{by_lt}
use Rattle.file_rules.specs.Decimal.{digit, digits, decimal, signed_decimal}

-- a turn, by the way its test goes
digits_by : (t n : ℕ) {b : Bool} → ltb n 10 ≡ b → digits (suc t) n ≡ elim b [ true ↦ digit n ∷ [] | false ↦ digits t (n / 10) ++ (digit (n % 10) ∷ []) ]
digits_by t n e = ap (λ (b : Bool). elim b [ true ↦ digit n ∷ [] | false ↦ digits t (n / 10) ++ (digit (n % 10) ∷ []) ]) e

-- a number below ten is one digit, however many turns there are
digits-one : (t n : ℕ) → n < 10 → digits t n ≡ digit n ∷ []
digits-one zero n h = refl
digits-one (suc t) n h = digits_by t n (lt-ltb n 10 h)

-- the turns do not matter where there are enough
digits-turns : (t u n : ℕ) → n ≤ t → n ≤ u → digits t n ≡ digits u n
digits-turns zero u n p q = sym (digits-one u n (omega arith))
digits-turns (suc t) zero n p q = digits-one (suc t) n (omega arith)
digits-turns (suc t) (suc u) n p q = by_lt n 10
    (λ h. digits-one (suc t) n h ∙ sym (digits-one (suc u) n h))
    (λ h.
    let a : n / 10 ≤ t = omega arith in
    let b : n / 10 ≤ u = omega arith in
    digits_by t n (le-ltb n 10 h) ∙ ap (λ (l : List ℕ). l ++ (digit (n % 10) ∷ [])) (digits-turns t u (n / 10) a b) ∙ sym (digits_by u n (le-ltb n 10 h)))

-- a number below ten
pub decimal-one : (n : ℕ) → n < 10 → decimal n ≡ digit n ∷ []
unfolding decimal
decimal-one n h = digits-one n n h

digits_more : (n : ℕ) → 10 ≤ suc n → digits (suc n) (suc n) ≡ digits (suc n / 10) (suc n / 10) ++ (digit (suc n % 10) ∷ [])
digits_more n h =
    let a : suc n / 10 ≤ n = omega arith in
    let b : suc n / 10 ≤ suc n / 10 = omega arith in
    digits_by n (suc n) (le-ltb (suc n) 10 h)
    ∙ ap (λ (l : List ℕ). l ++ (digit (suc n % 10) ∷ [])) (digits-turns n (suc n / 10) (suc n / 10) a b)

-- any other: the rest and then the last digit
pub decimal_more : (n : ℕ) → 10 ≤ n → decimal n ≡ decimal (n / 10) ++ (digit (n % 10) ∷ [])
unfolding decimal
decimal_more zero h = absurd (omega arith)
decimal_more (suc n) h = digits_more n h

-- so it has one digit more than the rest
pub decimal_longer : (n : ℕ) → 10 ≤ n → length (decimal n) ≡ length (decimal (n / 10)) + 1
decimal_longer n h = rw (decimal_more n h, length-append)

-- a number below 10 ^ (k + 1) has at most k + 1 digits
pub decimal-short : (k n : ℕ) → n < 10 ^ suc k → length (decimal n) ≤ suc k
decimal-short zero n h = rw (decimal-one n h) (omega arith)
decimal-short (suc k) n h = by_lt n 10
    (λ l. rw (decimal-one n l) (omega arith))
    (λ l.
    let p : n / 10 < 10 ^ suc k = omega (arith, pow-suc 10 (suc k)) in
    omega (arith, decimal_longer n l, decimal-short k (n / 10) p))

-- a number of 64 bits has at most 20 digits, one of 16 bits at most 5
pub decimal_64 : (n : ℕ) → n < 2 ^ 64 → length (decimal n) ≤ 20
decimal_64 n h = decimal-short 19 n (omega arith)

pub decimal_16 : (n : ℕ) → n < 65536 → length (decimal n) ≤ 5
decimal_16 n h = decimal-short 4 n (omega arith)

-- a signed one of 64 bits, at most 19 and the sign
pub signed_64 : (z : ℤ) → mag z < 2 ^ 63 → length (signed_decimal z) ≤ 20
signed_64 (pos n) h = omega (arith, decimal-short 18 n (omega arith))
signed_64 (negsuc n) h = omega (arith, decimal-short 18 (suc n) (omega arith))
