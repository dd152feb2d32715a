-- The test for a coordinate by a sum: from 2 to the power 52 to 2 to the power 53 floats have no place for a fraction, so x comes back from a sum in there
-- exactly where it is whole.
use Rattle.std.proofs.Common.{◌≡◌, ℕ, zero, suc, ◌*◌, ◌%◌, ◌^◌, ◌<◌, ◌≤◌, Bool, true, false, ◌&&◌, ◌||◌, T, eqb, ltb, leb, ℤ, pos, negsuc, ◌+ℤ◌, ◌-ℤ◌, nat_abs, sym, refl, ap, ◌∙◌, subst, ⊎_elim, pow-suc, le_of_mul-le-mul_right, arith, ltb→lt, ltb-true, eqb-true}
use mathlib.Core.Bool.{beq}
use lib.IntN.{+ℤ-neg_ℤ_cancel}
use lib.Ieee.{Float, nan, inf, fin, binary64, up, down, level, lt, le, eq, add, sub, fits, low, emax}
use lib.Ieee.Fits.{down_pos, add-fits, and_l, and_r}
use lib.Signed.{le_z}
use Rattle.lists.proofs.Counts.{by_test, by_lt, true_is_false}
use Rattle.lists.proofs.Tests.{both}
use Rattle.geometry.specs.Coordinate.{coordinate_bound, signed, coordinate, value, eq_z, Whole}
use Rattle.geometry.proofs.Integers.{one-part, nat_abs_parts, nat_abs_add, add_parts, sub_parts_of, le_le_z, eq_z_refl}
use Rattle.geometry.proofs.Exact.{size_of, eq_at, whole_add, whole_sub, le_whole, eq_whole, coordinate_whole, coordinate_bound_lem, whole_coordinate}

-- the bound is this power of two, which is how its float is held
abbrev pub power : ℕ
power = 20

-- where floats begin and cease to be whole and no more, and the number in between
abbrev pub from : Float
from = fin false 1 (pos 52)

abbrev pub to : Float
to = fin false 1 (pos 53)

abbrev pub between : Float
between = fin false 3 (pos 51)

-- such a float is the number that it says
literal : (s : Bool) (m e : ℕ) → Whole (fin s m (pos e)) (signed s (m * 2 ^ e))
literal s m e = record { sign = s; size = m * 2 ^ e; holds = (refl, refl); is = refl }

-- ---- what the tests say of sizes

-- `<=` of two sizes
at_most : (a b : ℕ) (t : Bool) → (ltb a b || (eqb a b && t)) ≡ true → a ≤ b
at_most a b t e = by_lt a b (λ h. omega arith) (λ h. by_test (ltb a b)
    (λ q. omega (arith, ltb-true a b q))
    (λ q. omega (arith, eqb-true a b (both (eqb a b) t (sym (ap (λ u. u || (eqb a b && t)) q) ∙ e)).0)))

-- of two where the first may be larger only where the second says so
other_way : (a b : ℕ) (t : Bool) → (ltb b a || (eqb a b && t)) ≡ true → b ≤ a
other_way a b t e = by_test (ltb b a)
    (λ q. omega (arith, ltb-true b a q))
    (λ q. omega (arith, eqb-true a b (both (eqb a b) t (sym (ap (λ u. u || (eqb a b && t)) q) ∙ e)).0))

-- x is finite and within the bound
within : (s : Bool) (m : ℕ) (e : ℤ) → le (fin true 1 (pos power)) (fin s m e) ≡ true → le (fin s m e) (fin false 1 (pos power)) ≡ true → m * up e ≤ coordinate_bound * down e
unfolding le lt eq
within true m e p q = omega (arith, other_way (1 * 2 ^ power * down e) (m * up e * 1) (beq true true || eqb (1 * 2 ^ power * down e) 0) p)
within false m e p q = omega (arith, at_most (m * up e * 1) (1 * 2 ^ power * down e) (beq false false || eqb (m * up e * 1) 0) q)

-- ---- a float in there is whole

pub record Large (y : Float) : Type 0 where
  pub size : ℕ
  pub whole : Whole y (pos size)
  pub low : size ≤ 2 ^ 53

large : (y : Float) → T (fits binary64 y) → le from y ≡ true → le y to ≡ true → Large y
unfolding le lt eq fits
large nan f p q = absurd (true_is_false (sym p))
large (inf true) f p q = absurd (true_is_false (sym p))
large (inf false) f p q = absurd (true_is_false (sym q))
large (fin true m e) f p q =
    let zero-size : 1 * 2 ^ 52 * down e ≡ 0 = eqb-true (1 * 2 ^ 52 * down e) 0 (both (eqb (1 * 2 ^ 52 * down e) (m * up e * 1)) (eqb (1 * 2 ^ 52 * down e) 0) p).1 in
    absurd (omega (arith, zero-size, down_pos e))
large (fin false zero e) f p q =
    absurd (omega (arith, at_most (1 * 2 ^ 52 * down e) (0 * up e * 1) (beq false false || eqb (1 * 2 ^ 52 * down e) 0) p, down_pos e))
large (fin false (suc m) (pos k)) f p q = record {
  size = suc m * 2 ^ k;
  whole = literal false (suc m) k;
  low = omega (arith, at_most (suc m * 2 ^ k * 1) (1 * 2 ^ 53 * 1) (beq false false || eqb (suc m * 2 ^ k * 1) 0) q);
}
large (fin false (suc m) (negsuc k)) f p q =
    let a = eqb (suc m % 2) 1 in
    let b = ltb (suc m) (2 ^ 53) in
    let c = leb (2 ^ suc k) (2 ^ low binary64) in
    let d = ltb (suc m * 1) (2 ^ suc (emax binary64) * 2 ^ suc k) in
    let small : suc m < 2 ^ 53 = ltb→lt (suc m) (2 ^ 53) (and_r a b (and_l (a && b) c (and_l (a && b && c) d f))) in
    absurd (omega (arith, at_most (1 * 2 ^ 52 * 2 ^ suc k) (suc m * 1 * 1) (beq false false || eqb (1 * 2 ^ 52 * 2 ^ suc k) 0) p, small, pow-suc 2 k, down_pos (negsuc k)))

-- ---- there and back

-- x with the size of a whole float that it equals is whole, within the bound
same_size : (t : Float) (n : ℤ) (s : Bool) (m : ℕ) (e : ℤ) → Whole t n → eq t (fin s m e) ≡ true → m * up e ≤ coordinate_bound * down e → T (coordinate coordinate_bound (fin s m e))
same_size t n s m e w q h =
    let a = w.size in
    let l : level w.sign (a * down e) s (m * up e) ≡ true = sym (eq_at t w.sign a s m e w.holds) ∙ q in
    let same : a * down e ≡ m * up e = eqb-true (a * down e) (m * up e) (both (eqb (a * down e) (m * up e)) (beq w.sign s || eqb (a * down e) 0) l).0 in
    let low : a ≤ coordinate_bound = le_of_mul-le-mul_right (omega (arith, same)) (down_pos e) in
    let x : Whole (fin s m e) (signed s a) = record { sign = s; size = a; holds = (refl, omega (arith, same)); is = refl } in
    whole_coordinate coordinate_bound x (omega (arith, size_of s a))

-- of two sizes within a limit the difference is
apart-small : (a b c : ℕ) → a ≤ c → b ≤ c → nat_abs (pos a -ℤ pos b) ≤ c
apart-small a b c h k =
    let z = pos a -ℤ pos b in
    let parts = sub_parts_of (pos a) (pos b) in
    ⊎_elim (λ p. omega (arith, p, nat_abs_parts z, parts)) (λ p. omega (arith, p, nat_abs_parts z, parts)) (one-part z)

-- x within the bound that equals a whole float is a coordinate
comes_back : (x : Float) → le (fin true 1 (pos power)) x ≡ true → le x (fin false 1 (pos power)) ≡ true → (t : Float) (n : ℤ) → Whole t n → eq t x ≡ true → T (coordinate coordinate_bound x)
unfolding le lt eq
comes_back nan p q t n w e = absurd (true_is_false (sym p))
comes_back (inf true) p q t n w e = absurd (true_is_false (sym p))
comes_back (inf false) p q t n w e = absurd (true_is_false (sym q))
comes_back (fin s m k) p q t n w e = same_size t n s m k w e (within s m k p q)

-- the five tests
abbrev pub tests : Float → Bool
tests x =
    le (fin true 1 (pos power)) x && le x (fin false 1 (pos power)) && le from (add binary64 x between) && le (add binary64 x between) to
    && eq (sub binary64 (add binary64 x between) between) x

-- all pass for a coordinate
all_pass : (x : Float) → coordinate coordinate_bound x ≡ true → tests x ≡ true
all_pass x c =
    let t : T (coordinate coordinate_bound x) = subst T (sym c) tt in
    let z = value x in
    let p = coordinate_whole coordinate_bound x t in
    let h = coordinate_bound_lem coordinate_bound x t in
    let M : ℤ = pos (3 * 2 ^ 51) in
    let size = nat_abs_parts z in
    let low : le_z (signed true (1 * 2 ^ power)) z ≡ true = le_le_z (signed true (1 * 2 ^ power)) z (omega (arith, h, size)) in
    let high : le_z z (signed false (1 * 2 ^ power)) ≡ true = le_le_z z (signed false (1 * 2 ^ power)) (omega (arith, h, size)) in
    let y = whole_add p (literal false 3 51) (omega (arith, nat_abs_add z M, h)) in
    let above : le_z (pos (1 * 2 ^ 52)) (z +ℤ M) ≡ true = le_le_z (pos (1 * 2 ^ 52)) (z +ℤ M) (omega (arith, add_parts z M, h, size)) in
    let below : le_z (z +ℤ M) (pos (1 * 2 ^ 53)) ≡ true = le_le_z (z +ℤ M) (pos (1 * 2 ^ 53)) (omega (arith, add_parts z M, h, size)) in
    let back : z +ℤ M -ℤ M ≡ z = +ℤ-neg_ℤ_cancel z M in
    let small : nat_abs (z +ℤ M -ℤ M) ≤ 2 ^ 53 = omega (arith, ap nat_abs back, h) in
    let again : eq_z (z +ℤ M -ℤ M) z ≡ true = ap (λ w. eq_z w z) back ∙ eq_z_refl z in
    λ i. (le_whole (literal true 1 power) p ∙ low) i && (le_whole p (literal false 1 power) ∙ high) i && (le_whole (literal false 1 52) y ∙ above) i && (le_whole y (literal false 1 53) ∙ below) i
    && (eq_whole (whole_sub y (literal false 3 51) small) p ∙ again) i

-- what passes all is one
passes : (x : Float) → tests x ≡ true → T (coordinate coordinate_bound x)
passes x e =
    let a = le (fin true 1 (pos power)) x in
    let b = le x (fin false 1 (pos power)) in
    let y = add binary64 x between in
    let c = le from y in
    let d = le y to in
    let back = sub binary64 y between in
    let five = both (a && b && c && d) (eq back x) e in
    let four = both (a && b && c) d five.0 in
    let three = both (a && b) c four.0 in
    let two = both a b three.0 in
    let l = large y (add-fits binary64 x between) three.1 four.1 in
    let n = l.size in
    let M = 3 * 2 ^ 51 in
    let w = whole_sub l.whole (literal false 3 51) (apart-small n M (2 ^ 53) l.low (omega arith)) in
    comes_back x two.0 two.1 back (pos n -ℤ pos M) w five.1

-- so the tests are the rule of number 1
pub tests_are : (x : Float) → tests x ≡ coordinate coordinate_bound x
tests_are x = by_test (coordinate coordinate_bound x)
    (λ c. all_pass x c ∙ sym c)
    (λ c. by_test (tests x) (λ t. absurd (subst T c (passes x t))) (λ t. t ∙ sym c))
