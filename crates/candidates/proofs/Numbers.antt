-- Whole numbers that are compared, and numbers that are stored one after another.
use Prim.Native.Nat.{ℕ, zero, suc, ◌+◌, ◌<◌, ◌≤◌}
use native.Mathlib.Omega.{arith}
use mathlib.Core.Path.{◌≡◌, refl, ap, ap₂, ◌∙◌}
use mathlib.Core.List.{List, [], ◌∷◌}
use lib.ListN.{length, get_or, set, length-set}
use lib.Seq.{sets, get_or-set_same, get_or-set_other}
use lib.IntN.{ℤ, pos}
use lib.Signed.{lt_z}
use mir.Syntax.{w64}
use mir.Val.{to_z, of_z, SFits}
use mir.ValLaws.{to_z-of_z}

-- two numbers that fit are compared
pub compared : (a b : ℤ) → SFits w64 a → SFits w64 b → lt_z (to_z w64 (of_z w64 a)) (to_z w64 (of_z w64 b)) ≡ lt_z a b
compared a b f g = ap₂ lt_z (to_z-of_z w64 a f) (to_z-of_z w64 b g)

-- what stands before the numbers stored stays
pub stored_before : (vs l : List ℤ) (i k : ℕ) → k < i → get_or (sets l i vs) k (pos 0) ≡ get_or l k (pos 0)
stored_before [] l i k h = refl
stored_before (v ∷ vs) l i k h = let d : k ≡ i → ⊥ = λ e. omega arith in
    stored_before vs (set l i v) (suc i) k (omega arith) ∙ get_or-set_other l i k v (pos 0) d

-- and each stands at its place
pub stored_at : (vs l : List ℤ) (i k : ℕ) → i + length vs ≤ length l → k < length vs → get_or (sets l i vs) (i + k) (pos 0) ≡ get_or vs k (pos 0)
stored_at [] l i k room low = absurd (omega arith)
stored_at (v ∷ vs) l i zero room low =
    let here : i + 0 ≡ i = omega arith in
    ap (λ n. get_or (sets (set l i v) (suc i) vs) n (pos 0)) here ∙ stored_before vs (set l i v) (suc i) i (omega arith) ∙ get_or-set_same l i v (pos 0) (omega arith)
stored_at (v ∷ vs) l i (suc k) room low =
    let on : i + suc k ≡ suc i + k = omega arith in
    ap (λ n. get_or (sets (set l i v) (suc i) vs) n (pos 0)) on ∙ stored_at vs (set l i v) (suc i) k (omega (arith, length-set l i v)) (omega arith)
