-- Entries of lists, and lists written over the front of another.
use Prim.Native.Nat.{suc, ◌+◌, ◌<◌, ◌≤◌}
use native.Mathlib.Omega.{arith}
use mathlib.Core.Path.{◌≡◌, sym, ap, ◌∙◌}
use mathlib.Core.List.{List, [], ◌∷◌, ◌++◌, append_assoc, append-nil}
use lib.ListN.{length, get_or, set, drop, length-append, length-drop}
use lib.Seq.{drop-cons, set-append_seam, sets}
use Rattle.lists.specs.Lists.{over}

module _ {A : Type 0} where
  -- the lent list keeps its length
  pub length_over : (xs out : List A) → length xs ≤ length out → length (over xs out) ≡ length out
  length_over xs out h = omega (arith, length-append xs (drop (length xs) out), length-drop (length xs) out)

  -- one entry more
  pub over-set : (d : A) (xs out : List A) (a : A) → length xs < length out → set (over xs out) (length xs) a ≡ over (xs ++ (a ∷ [])) out
  over-set d xs out a h =
      let n : length (xs ++ (a ∷ [])) ≡ suc (length xs) = omega (arith, length-append xs (a ∷ [])) in
      ap (λ r. set (xs ++ r) (length xs) a) (drop-cons out (length xs) d h)
      ∙ set-append_seam xs (get_or out (length xs) d) (drop (suc (length xs)) out) a
      ∙ sym (append_assoc xs (a ∷ []) (drop (suc (length xs)) out))
      ∙ ap (λ k. (xs ++ (a ∷ [])) ++ drop k out) (sym n)

  -- a list more
  pub over_sets : (d : A) (xs ys out : List A) → length xs + length ys ≤ length out → sets (over xs out) (length xs) ys ≡ over (xs ++ ys) out
  over_sets d xs [] out h = ap (λ l. over l out) (sym (append-nil xs))
  over_sets d xs (y ∷ ys) out h =
      let n : suc (length xs) ≡ length (xs ++ (y ∷ [])) = omega (arith, length-append xs (y ∷ [])) in
      ap (λ l. sets l (suc (length xs)) ys) (over-set d xs out y (omega arith))
      ∙ ap (λ k. sets (over (xs ++ (y ∷ [])) out) k ys) n
      ∙ over_sets d (xs ++ (y ∷ [])) ys out (omega arith)
      ∙ ap (λ l. over l out) (append_assoc xs (y ∷ []) ys)
