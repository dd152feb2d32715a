-- A part of a list built from its last entry on, and what is picked of it.
use Prim.Native.Nat.{ℕ, suc, ◌<◌, ◌≤◌}
use native.Mathlib.Omega.{arith}
use native.Mathlib.Numerals.{add-one}
use mathlib.Core.Path.{◌≡◌, ap, ◌∙◌}
use mathlib.Core.Bool.{Bool, true, false}
use mathlib.Core.List.{List, ◌∷◌}
use lib.ListN.{length, get_or}
use Rattle.lists.specs.Lists.{pick}
use Rattle.stars.specs.Groups.{part, PartWithin}
use Rattle.stars.proofs.Groups.{part-cons, part_in}

-- the entry before a part, and the part
pub part-before : (i j to : ℕ) (l : List ℕ) → suc i ≡ j → j ≤ to → to ≤ length l → part i to l ≡ get_or l i 0 ∷ part j to l
part-before i j to l s h k = part-cons i to l (omega arith) k ∙ ap (λ n. get_or l i 0 ∷ part n to l) (add-one i ∙ s)

-- an entry of a part within the list is below the count
pub part_low : (n from to i : ℕ) (l : List ℕ) → PartWithin n from to l → from ≤ i → i < to → get_or l i 0 < n
part_low n from to i l w a b = w.low _ (part_in from to i l a b w.ends)

module _ (p : ℕ → Bool) (i j to : ℕ) (l : List ℕ) (s : suc i ≡ j) (h : j ≤ to) (k : to ≤ length l) where
  -- an entry that passes is picked
  pub before_yes : p (get_or l i 0) ≡ true → pick p (part i to l) ≡ get_or l i 0 ∷ pick p (part j to l)
  before_yes e = ap (pick p) (part-before i j to l s h k) ∙ rw e

  -- one that does not is passed over
  pub before_no : p (get_or l i 0) ≡ false → pick p (part i to l) ≡ pick p (part j to l)
  before_no e = ap (pick p) (part-before i j to l s h k) ∙ rw e
