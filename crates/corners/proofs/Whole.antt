-- Whole numbers of tables, read as bits and back.
use Prim.Native.Nat.{ℕ, ◌<◌, ◌^◌}
use mathlib.Core.Path.{◌≡◌, ap, ap₂, ◌∙◌}
use mathlib.Core.List.{List}
use lib.ListN.{get_or}
use lib.IntN.{ℤ, pos}
use lib.Signed.{mag, lt_z}
use mir.Syntax.{w64}
use mir.Val.{to_z, of_z}
use mir.ValLaws.{to_z-of_z}

-- an entry that is read
pub entry_read : (zs : List ℤ) (w n : ℕ) → mag (get_or zs w (pos 0)) < 2 ^ 63 → w ≡ n → to_z w64 (of_z w64 (get_or zs w (pos 0))) ≡ get_or zs n (pos 0)
entry_read zs w n fits e = to_z-of_z w64 (get_or zs w (pos 0)) (record { sfits = fits }) ∙ ap (λ k. get_or zs k (pos 0)) e

-- two that are compared
pub entries_compared : (zs : List ℤ) (v w m n : ℕ) → mag (get_or zs v (pos 0)) < 2 ^ 63 → mag (get_or zs w (pos 0)) < 2 ^ 63 → v ≡ m → w ≡ n
    → lt_z (to_z w64 (of_z w64 (get_or zs v (pos 0)))) (to_z w64 (of_z w64 (get_or zs w (pos 0)))) ≡ lt_z (get_or zs m (pos 0)) (get_or zs n (pos 0))
entries_compared zs v w m n a b e f = ap₂ lt_z (entry_read zs v m a e) (entry_read zs w n b f)
