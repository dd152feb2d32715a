-- Items 0, 1, .. that have codes, chained by code in one table of numbers.
use Rattle.std.specs.Prelude.{ℕ, zero, suc, ◌+◌, ◌<◌, ◌≡◌, Bool, cond, List, eqb, get_or, set}

-- one more than the last item below n that has code c; 0 where none has
abbrev pub last_below : (ℕ → ℕ) → ℕ → ℕ → ℕ
last_below code c zero = 0
last_below code c (suc n) = cond (eqb (code n) c) (suc n) (last_below code c n)

-- Entry c of the table shows the last item of code c. Behind these heads, the entry of an item shows the last one before it that has its code.
pub record Chained (heads : ℕ) (code : ℕ → ℕ) (count : ℕ) (table : List ℕ) : Type 0 where
  pub first : (c : ℕ) → c < heads → get_or table c 0 ≡ last_below code c count
  pub next : (n : ℕ) → n < count → get_or table (heads + n) 0 ≡ last_below code (code n) n

-- item n comes last in the chain of code c
abbrev pub entered : ℕ → ℕ → ℕ → List ℕ → List ℕ
entered heads c n table = set (set table (heads + n) (get_or table c 0)) c (n + 1)

-- of the items below n that pass a test, the value of the lowest; d where none passes
abbrev pub lowest_of : (ℕ → Bool) → (ℕ → ℕ) → ℕ → ℕ → ℕ
lowest_of p value d zero = d
lowest_of p value d (suc n) = lowest_of p value (cond (p n) (value n) d) n
