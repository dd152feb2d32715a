-- The views in which candidates are boxed.
use Rattle.std.specs.Prelude.{ℕ, zero, suc, ◌<◌, ◌≡◌, List, ℤ, pos, negsuc, ◌+ℤ◌, ◌*ℤ◌, get_or}

-- a point's place in a slanted view: it moves along its level by a factor times its height
abbrev pub leaned : ℤ → ℤ → ℤ → ℤ
leaned k x y = x +ℤ k *ℤ y

-- the views in which candidates are boxed, by number: as it is, and slanted one way and the other
abbrev pub slope_of : ℕ → ℤ
slope_of zero = pos 0
slope_of (suc zero) = pos 1
slope_of (suc (suc n)) = negsuc 0

-- how far a point lies to the right in one of them
abbrev pub along_of_lem : ℕ → ℤ → ℤ → ℤ
along_of_lem slope = leaned (slope_of slope)

-- a table has that of the first so many nodes
abbrev pub Slanted : ℕ → List ℤ → List ℤ → ℕ → List ℤ → Type 0
Slanted slope xs ys count along = (n : ℕ) → n < count → get_or along n (pos 0) ≡ along_of_lem slope (get_or xs n (pos 0)) (get_or ys n (pos 0))
