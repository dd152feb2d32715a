-- Bytes of a text, and numbers in decimal.
use Rattle.std.specs.Prelude.{ℕ, zero, suc, ◌+◌, ◌/◌, ◌%◌, true, false, List, [], ◌∷◌, ◌++◌, ltb, ℤ, pos, negsuc}
use Prim.Native.Char.{code}
use Prim.Native.String.{String, [] as none, ◌∷◌ as ◌then◌}

-- the bytes of a text of ASCII characters, one for each
abbrev pub ascii : String → List ℕ
ascii none = []
ascii (c then s) = code c ∷ ascii s

-- the digit of a number below ten, from 48, which is 0
abbrev pub digit : ℕ → ℕ
digit n = 48 + n

-- the digits of n: those of n / 10 and then the last one, in at most `turns` turns
abbrev pub digits : ℕ → ℕ → List ℕ
digits zero n = digit n ∷ []
digits (suc turns) n = elim (ltb n 10) [ true ↦ digit n ∷ [] | false ↦ digits turns (n / 10) ++ (digit (n % 10) ∷ []) ]

-- n in decimal: the highest digit first, at least one, no zero in front of others (n turns are more than enough)
unfoldable pub decimal : ℕ → List ℕ
decimal n = digits n n

-- a whole number in decimal, with a minus sign (45) where it is negative
abbrev pub signed_decimal : ℤ → List ℕ
signed_decimal (pos n) = decimal n
signed_decimal (negsuc n) = 45 ∷ decimal (suc n)
