-- Lists written over the front of another.
use Prim.Native.Nat.{ℕ, suc, ◌+◌, ◌<◌}
use native.Mathlib.Omega.{arith}
use mathlib.Core.Path.{◌≡◌, sym, ap, ◌∙◌}
use mathlib.Core.List.{List, [], ◌∷◌, ◌++◌, append_assoc}
use lib.ListN.{length, get_or, set, drop, replicate, length-append, length-replicate, replicate-append-replicate}
use lib.Seq.{drop-cons, set-append_seam}
use Rattle.lists.specs.Lists.{over}

-- one entry more
pub over-set : (xs out : List ℕ) (a : ℕ) → length xs < length out → set (over xs out) (length xs) a ≡ over (xs ++ (a ∷ [])) out
over-set xs out a h =
    let n : length (xs ++ (a ∷ [])) ≡ suc (length xs) = omega (arith, length-append xs (a ∷ [])) in
    ap (λ r. set (xs ++ r) (length xs) a) (drop-cons out (length xs) 0 h)
    ∙ set-append_seam xs (get_or out (length xs) 0) (drop (suc (length xs)) out) a
    ∙ sym (append_assoc xs (a ∷ []) (drop (suc (length xs)) out))
    ∙ ap (λ k. (xs ++ (a ∷ [])) ++ drop k out) (sym n)

-- one zero more
pub over_zeros : (i : ℕ) (out : List ℕ) → i < length out → set (over (replicate i 0) out) i 0 ≡ over (replicate (i + 1) 0) out
over_zeros i out h =
    let n : length (replicate {A = ℕ} i 0) ≡ i = length-replicate {A = ℕ} i 0 in
    ap (λ k. set (over (replicate i 0) out) k 0) (sym n)
    ∙ over-set (replicate i 0) out 0 (omega arith)
    ∙ ap (λ r. over r out) (replicate-append-replicate i 1 0)
