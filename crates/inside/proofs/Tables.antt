-- Tables of coordinates as integers, after they were written.
use Rattle.std.proofs.Common.{◌≡◌, ℕ, ◌<◌, ◌≤◌, T, List, map, length, get_or, take, ℤ, pos, nat_abs, sym, ◌∙◌, subst, arith, length-take-le, get_or-take}
use lib.Ieee.{Float, nan}
use lib.ListN.{length-map, get_or-append, get_or-map}
use Rattle.lists.specs.Lists.{over}
use Rattle.geometry.specs.Coordinate.{coordinate, value}
use Rattle.geometry.proofs.Exact.{coordinate_bound_lem}
use Rattle.inside.specs.Spots.{Within}

-- an entry of the values is the value of the entry
pub value-at : (floats : List Float) (n : ℕ) → get_or (map value floats) n (pos 0) ≡ value (get_or floats n nan)
unfolding value
value-at floats n = get_or-map value floats n nan

module _ (floats : List Float) (out : List ℤ) (count : ℕ) (long : count ≤ length floats) where
  -- the table after the first entries were written
  abbrev written : List ℤ
  written = over (take count (map value floats)) out

  -- each of these is the float's value
  pub written_at : (n : ℕ) → n < count → get_or written n (pos 0) ≡ value (get_or floats n nan)
  written_at n h =
      let l : length (take count (map value floats)) ≡ count = length-take-le count (map value floats) (omega (arith, length-map floats value)) in
      get_or-append (take count (map value floats)) _ (pos 0) n (omega arith)
      ∙ get_or-take count (map value floats) n (pos 0) h
      ∙ value-at floats n

  -- within the bound of the coordinates
  pub written-within : (bound : ℕ) → ((n : ℕ) → n < count → T (coordinate bound (get_or floats n nan))) → Within bound written count
  written-within bound near n h = subst (λ (z : ℤ). nat_abs z ≤ bound) (sym (written_at n h)) (coordinate_bound_lem bound (get_or floats n nan) (near n h))
