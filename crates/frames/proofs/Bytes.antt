-- The number that bytes stand for, from the numbers of two parts.
use mathlib.Core.Path.{◌≡◌, refl, ap, ◌∙◌}
use mathlib.Core.List.{List, [], ◌∷◌, ◌++◌}
use Prim.Native.Nat.{ℕ, zero, suc, ◌+◌, ◌*◌, ◌^◌, ◌<◌, ◌≤◌}
use native.Mathlib.Omega.{arith}
use native.Mathlib.Nat.{pow-suc}
use lib.ListN.{length, get_or, take, drop, length-drop}
use lib.Seq.{drop-cons, take-add, take-take, drop-drop, length-take-le}
use Rattle.file_rules.specs.Records.{little_endian, field}

-- the bytes that follow n others count 256 ^ n times
in_row : (xs ys : List ℕ) → little_endian (xs ++ ys) ≡ little_endian xs + 256 ^ length xs * little_endian ys
in_row [] ys = omega arith
in_row (x ∷ xs) ys = rw (in_row xs ys, pow-suc 256 (length xs)) (omega arith)

-- one byte is its own number
pub field-one : (s : List ℕ) (at : ℕ) → at < length s → get_or s at 0 ≡ field s at 1
field-one s at h = rw (drop-cons s at 0 h) (omega arith)

-- j bytes and then k more: the second part counts 256 ^ j times
pub field-join : (j k : ℕ) (s : List ℕ) (at low high : ℕ) → at + j ≤ length s → low ≡ field s at j → high ≡ field s (at + j) k
    → high * 256 ^ j + low ≡ field s at (j + k)
field-join j k s at low high h p q =
    let r : j ≤ length (drop at s) = rw length-drop (omega arith) in
    rw (take-add j k (drop at s), drop-drop j at s, in_row (take j (drop at s)) (take k (drop (at + j) s)), length-take-le j (drop at s) r, p, q)
    (omega arith)

-- a field of a part is one of the whole
within : (at k n : ℕ) (s : List ℕ) → at + k ≤ n → take k (drop at (take n s)) ≡ take k (drop at s)
within zero k n s h = take-take k n s (omega arith)
within (suc at) k zero s h = absurd (omega arith)
within (suc at) k (suc n) [] h = refl
within (suc at) k (suc n) (x ∷ s) h = within at k n s (omega arith)

pub field_in : (s : List ℕ) (from size at k place : ℕ) → at + k ≤ size → from + at ≡ place → field (take size (drop from s)) at k ≡ field s place k
field_in s from size at k place h e = ap little_endian (within at k size (drop from s) h ∙ ap (take k) (drop-drop at from s ∙ ap (λ p. drop p s) e))
