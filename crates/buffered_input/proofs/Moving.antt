-- Bytes of a list moved to its front, one after another.
use Prim.Native.Nat.{ℕ, suc, ◌+◌, ◌<◌, ◌≤◌}
use native.Mathlib.Omega.{arith}
use native.Mathlib.Numerals.{add-one}
use mathlib.Core.Path.{◌≡◌, sym, ap, ◌∙◌}
use mathlib.Core.List.{List, [], ◌∷◌, ◌++◌}
use lib.ListN.{length, get_or, set, take, drop, length-drop, length-append}
use lib.Seq.{take-suc, drop-cons, take_at, drop_at, set_at, get_or-append-add, get_or-drop, append_snoc, length-take-le}
use Rattle.buffered_input.specs.Reads.{Fronted}

-- after i bytes: those stand in front, and the rest is as it was
abbrev pub moved : ℕ → ℕ → List ℕ → List ℕ
moved from i l = take i (drop from l) ++ drop i l

module _ (from n : ℕ) (l : List ℕ) (room : from + n ≤ length l) where
  -- as many are in front
  fronts : (i : ℕ) → i ≤ n → length (take i (drop from l)) ≡ i
  fronts i h = length-take-le i (drop from l) (omega (arith, length-drop from l))

  -- the byte that is moved next has not been written over
  next_byte : (i : ℕ) → i < n → get_or (moved from i l) (from + i) 0 ≡ get_or l (from + i) 0
  next_byte i h =
      let p = take i (drop from l) in
      let z : from + i ≡ length p + from = omega (arith, fronts i (omega arith)) in
      let y : i + from ≡ from + i = omega arith in
      ap (λ j. get_or (moved from i l) j 0) z
      ∙ get_or-append-add p (drop i l) from 0
      ∙ get_or-drop i l from 0
      ∙ ap (λ j. get_or l j 0) y

  -- one byte more
  pub move_one : (i : ℕ) → i < n → set (moved from i l) i (get_or (moved from i l) (from + i) 0) ≡ moved from (i + 1) l
  move_one i h =
      let p = take i (drop from l) in
      let x = get_or l (from + i) 0 in
      let one : take (suc i) (drop from l) ≡ p ++ (x ∷ []) =
      take-suc (drop from l) i 0 (omega (arith, length-drop from l)) ∙ ap (λ y. p ++ (y ∷ [])) (get_or-drop from l i 0) in
      ap (set (moved from i l) i) (next_byte i h)
      ∙ ap (λ q. set (p ++ q) i x) (drop-cons l i 0 (omega arith))
      ∙ set_at p (get_or l i 0) (drop (suc i) l) x i (fronts i (omega arith))
      ∙ sym (append_snoc p x (drop (suc i) l))
      ∙ ap (λ q. q ++ drop (suc i) l) (sym one)
      ∙ ap (λ j. moved from j l) (sym (add-one i))

  -- all are moved
  pub move_all : Fronted from n l (moved from n l)
  move_all = record {
    front = take_at (take n (drop from l)) (drop n l) n (fronts n (omega arith));
    rest = drop_at (take n (drop from l)) (drop n l) n (fronts n (omega arith));
  }

  -- the list is as long as before
  pub moved_length : (i : ℕ) → i ≤ n → length (moved from i l) ≡ length l
  moved_length i h = omega (arith, length-append (take i (drop from l)) (drop i l), fronts i h, length-drop i l)
