-- The rings of P4 in lists: they can be numbered, and their face numbers are 1 and 0.
use mathlib.Core.Path.{◌≡◌, refl}
use mathlib.Core.List.{List, [], ◌∷◌}
use Prim.Native.Nat.{ℕ, zero, suc, ◌+◌, ◌<◌, ◌≤◌}
use native.Mathlib.Omega.{arith}
use lib.Dec.{lit≤}
use lib.ListN.{length, get_or}
use lib.IntN.{pos, negsuc}
use lib.Ieee.{Float, nan, binary64, of_int}
use Rattle.geometry.specs.Coordinate.{value}
use Rattle.rules.specs.Face.{doubled_area_lem, ring_of, face_number_lem}
use Rattle.rules.specs.Keys.{key_of}
use Rattle.rules.specs.Limits.{limits}
use Rattle.ring_tally.specs.Keys.{bits_from}
use Rattle.ring_keys.specs.Listed.{half_of, HalfOf}
use Rattle.faces.specs.Numbers.{ring_at, rings_at, face_numbers, Numberable}

-- half-edges of (0,0)-(4,0), (4,0)-(0,3), (0,3)-(0,0), ring by ring
abbrev half_edges_lem : List ℕ
half_edges_lem = 0 ∷ 2 ∷ 4 ∷ 1 ∷ 5 ∷ 3 ∷ []

-- where the rings begin
abbrev firsts : List ℕ
firsts = 0 ∷ 3 ∷ []

-- how long they are
abbrev lengths : List ℕ
lengths = 3 ∷ 3 ∷ []

-- where half-edges start
abbrev source : List ℕ
source = 0 ∷ 1 ∷ 1 ∷ 2 ∷ 2 ∷ 0 ∷ []

-- the nodes' x
abbrev xs : List Float
xs = of_int binary64 (pos 0) ∷ of_int binary64 (pos 4) ∷ of_int binary64 (pos 0) ∷ []

-- their y
abbrev ys : List Float
ys = of_int binary64 (pos 0) ∷ of_int binary64 (pos 0) ∷ of_int binary64 (pos 3) ∷ []

-- the bits of x of the node where each half-edge starts, 4.0 or 0.0
abbrev keys_x : List ℕ
keys_x = 0 ∷ 4616189618054758400 ∷ 0 ∷ 4616189618054758400 ∷ 0 ∷ 0 ∷ []

-- those of y, 3.0 or 0.0
abbrev keys_y : List ℕ
keys_y = 0 ∷ 0 ∷ 4613937818241073152 ∷ 0 ∷ 0 ∷ 4613937818241073152 ∷ []

-- the rings' areas, 6 and -6
abbrev areas : List Float
areas = half_of (pos 12) ∷ half_of (negsuc 11) ∷ []

-- below 2
two : (P : ℕ → Type 0) → P 0 → P 1 → (i : ℕ) → i < 2 → P i
two P a b zero h = a
two P a b (suc zero) h = b
two P a b (suc (suc i)) h = absurd (omega arith)

-- the lists are as numbering asks
pub worked_numberable : Numberable limits half_edges_lem keys_x keys_y firsts lengths 2 source xs ys areas
unfolding ring_at ring_of doubled_area_lem value of_int bits_from
worked_numberable = record {
  few = omega arith;
  first_room = omega arith;
  length_room = omega arith;
  area_room = omega arith;
  bits_x = refl;
  bits_y = refl;
  some = two (λ i. 0 < get_or lengths i 0) (omega arith) (omega arith);
  within = two (λ i. get_or firsts i 0 + get_or lengths i 0 ≤ length half_edges_lem) (omega arith) (omega arith);
  halves = two (λ i. HalfOf (get_or areas i nan) (ring_at half_edges_lem firsts lengths source xs ys i).doubled)
      (record { small = lit≤ tt; is = refl }) (record { small = lit≤ tt; is = refl });
  apart = λ i j li lj. two (λ i. get_or half_edges_lem (get_or firsts i 0) 0 ≡ get_or half_edges_lem (get_or firsts j 0) 0 → i ≡ j)
      (two (λ j. 0 ≡ get_or half_edges_lem (get_or firsts j 0) 0 → 0 ≡ j) (λ e. refl) (λ e. absurd (omega arith)) j lj)
      (two (λ j. 1 ≡ get_or half_edges_lem (get_or firsts j 0) 0 → 1 ≡ j) (λ e. absurd (omega arith)) (λ e. refl) j lj) i li;
}

-- the enclosed ring has number 1, the open one 0
pub worked-numbers : face_numbers (rings_at half_edges_lem firsts lengths 2 source xs ys) ≡ 1 ∷ 0 ∷ []
unfolding ring_at ring_of face_number_lem key_of value of_int
worked-numbers = refl
