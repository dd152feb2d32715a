-- The list that a loop fills from its start.
use Prim.Native.Nat.{ℕ, zero, suc, ◌+◌, ◌<◌, ◌≤◌}
use native.Mathlib.Nat.{not-suc-le-zero, le_of_suc-le-suc}
use native.Mathlib.Numerals.{add-one}
use mathlib.Core.Path.{◌≡◌, refl, sym, ◌∙◌, ap}
use mathlib.Core.List.{List, [], ◌∷◌, ◌++◌, map, map-append}
use lib.ListN.{length, length-map, get_or, set, take, drop}
use lib.Seq.{length-take-le}
use Rattle.lists.specs.Lists.{over}
use Rattle.holes.specs.Filled.{filled}

-- one more entry is written
step : {A : Type 0} (new old : List A) (i : ℕ) (d : A) → i < length new → i < length old → set (filled new i old) i (get_or new i d) ≡ filled new (suc i) old
step [] old i d h k = absurd (not-suc-le-zero h)
step (x ∷ xs) [] i d h k = absurd (not-suc-le-zero k)
step (x ∷ xs) (y ∷ ys) zero d h k = refl
step {A} (x ∷ xs) (y ∷ ys) (suc i) d h k = ap {B = List A} (λ l. x ∷ l) (step xs ys i d (le_of_suc-le-suc h) (le_of_suc-le-suc k))

-- as the code counts
pub filled-step : {A : Type 0} (new old : List A) (i : ℕ) (d : A) → i < length new → i < length old → set (filled new i old) i (get_or new i d) ≡ filled new (i + 1) old
filled-step new old i d h k = step new old i d h k ∙ ap (λ n. filled new n old) (sym (add-one i))

map-drop : {A B : Type 0} (f : A → B) (n : ℕ) (l : List A) → drop n (map f l) ≡ map f (drop n l)
map-drop f zero l = refl
map-drop f (suc n) [] = refl
map-drop f (suc n) (x ∷ l) = map-drop f n l

-- what is read off its entries is written over what was read off them before
pub map-filled : {A B : Type 0} (f : A → B) (new : List A) (n : ℕ) (old : List A) → n ≤ length new → map f (filled new n old) ≡ over (map f (take n new)) (map f old)
map-filled f new n old h =
    let long : length (map f (take n new)) ≡ n = length-map (take n new) f ∙ length-take-le n new h in
    map-append f (take n new) (drop n old) ∙ ap (λ l. map f (take n new) ++ l) (sym (map-drop f n old) ∙ ap (λ k. drop k (map f old)) (sym long))
