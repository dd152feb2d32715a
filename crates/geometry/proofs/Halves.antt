-- Floats that are fractions with one small denominator, as half a whole number is. Half of an integer up to 2 ^ 53 is exact, its double gives the integer back, and its order and its sign are the integer's.
--
use Rattle.std.proofs.Common.{◌≡◌, ℕ, suc, ◌+◌, ◌*◌, ◌^◌, ◌<◌, ◌≤◌, Bool, true, false, ◌||◌, ◌⊎◌, ℤ, pos, negsuc, nat_abs, sym, refl, ap, ◌∙◌, subst, inl, inr, lt_of_lt_of_le, zero-lt-suc, mul_assoc, mul_comm, eq-or-lt_of_le, mul-pos, mul_right_comm, arith, lit<, lit≤, shl_lt}
use lib.Signed.{lt_z, le_z}
use lib.Ieee.{Float, nan, inf, fin, binary64, unlike, up, down, below, level, round, sum, add, mul, lt, eq, le, of_int}
use lib.Ieee.Fits.{down_pos}
use lib.Ieee.Exact.{HasValue, round_exact}
use lib.Ieee.Back.{round_whole}
use lib.Ieee.Scale.{round_same}
use Rattle.geometry.specs.Coordinate.{eq_z, signed, Whole, Part}
use Rattle.geometry.proofs.Exact.{below_scale, level_scale, below_int, level_int, lt_or_eq, size_of, whole_of_int}

-- 0.5 and 2.0
abbrev pub half : Float
half = fin false 1 (negsuc 0)

abbrev pub two : Float
two = fin false 1 (pos 1)

-- ---- two fractions with one denominator compare as their numerators

module _ (c : ℕ) (C : 0 < c) (s : Bool) (a : ℕ) (t : Bool) (b : ℕ) where
  ends : (m : ℕ) (e : ℤ) (n : ℕ) (d : ℤ) → m * up e * c ≡ a * down e → n * up d * c ≡ b * down d
      → (m * up e * down d * c ≡ a * (down e * down d)) × (n * up d * down e * c ≡ b * (down e * down d))
  ends m e n d p q = (
    mul_right_comm (m * up e) (down d) c ∙ ap (λ (x : ℕ). x * down d) p ∙ mul_assoc a (down e) (down d),
    mul_right_comm (n * up d) (down e) c ∙ ap (λ (x : ℕ). x * down e) q ∙ mul_assoc b (down d) (down e) ∙ ap (λ (x : ℕ). b * x) (mul_comm (down d) (down e)),
  )

  lt_common : (x y : Float) → HasValue x s a c → HasValue y t b c → lt x y ≡ below s a t b
  unfolding lt
  lt_common nan y p q = absurd p
  lt_common (inf u) y p q = absurd p
  lt_common (fin u m e) nan p q = absurd q
  lt_common (fin u m e) (inf v) p q = absurd q
  lt_common (fin u m e) (fin v n d) p q =
      let k = ends m e n d p.1 q.1 in
      sym (below_scale u (m * up e * down d) v (n * up d * down e) c C)
      ∙ (λ i. below (p.0 i) (k.0 i) (q.0 i) (k.1 i)) ∙ below_scale s a t b (down e * down d) (mul-pos (down_pos e) (down_pos d))

  eq_common : (x y : Float) → HasValue x s a c → HasValue y t b c → eq x y ≡ level s a t b
  unfolding eq
  eq_common nan y p q = absurd p
  eq_common (inf u) y p q = absurd p
  eq_common (fin u m e) nan p q = absurd q
  eq_common (fin u m e) (inf v) p q = absurd q
  eq_common (fin u m e) (fin v n d) p q =
      let k = ends m e n d p.1 q.1 in
      sym (level_scale u (m * up e * down d) v (n * up d * down e) c C)
      ∙ (λ i. level (p.0 i) (k.0 i) (q.0 i) (k.1 i)) ∙ level_scale s a t b (down e * down d) (mul-pos (down_pos e) (down_pos d))

module _ {x y : Float} {a b : ℤ} {c : ℕ} (C : 0 < c) (p : Part x a c) (q : Part y b c) where
  pub lt_part : lt x y ≡ lt_z a b
  lt_part =
      lt_common c C p.sign p.size q.sign q.size x y p.holds q.holds
      ∙ below_int p.sign p.size q.sign q.size ∙ sym (λ i. lt_z (p.is i) (q.is i))

  pub eq_part : eq x y ≡ eq_z a b
  eq_part =
      eq_common c C p.sign p.size q.sign q.size x y p.holds q.holds
      ∙ level_int p.sign p.size q.sign q.size ∙ sym (λ i. eq_z (p.is i) (q.is i))

  pub le_part : le x y ≡ le_z a b
  unfolding le
  le_part = (λ i. lt_part i || eq_part i) ∙ lt_or_eq a b

-- +0 is 0 / c
pub zero-part : (c : ℕ) → Part (fin false 0 (pos 0)) (pos 0) c
zero-part c = record { sign = false; size = 0; holds = (refl, omega arith); is = refl }

-- ---- half

plus_sign : (u : Bool) → unlike u false ≡ u
plus_sign true = refl
plus_sign false = refl

half_round : (s : Bool) (a : ℕ) → a ≤ 2 ^ 53 → HasValue (round binary64 s a 2) s a 2
half_round s a h = go (eq-or-lt_of_le h)
  where
    go : (a ≡ 2 ^ 53) ⊎ (a < 2 ^ 53) → HasValue (round binary64 s a 2) s a 2
    go (inl e) = subst (λ (k : ℕ). HasValue (round binary64 s k 2) s k 2) (sym e) (round_exact binary64 s (2 ^ 53) 2 1 1126 (zero-lt-suc 1) (lit< tt) (lit< tt) refl)
    go (inr l) = round_exact binary64 s a 2 a 1073 (zero-lt-suc 1) l (lt_of_lt_of_le (shl_lt 53 1073 l) (lit≤ tt)) (sym (mul_assoc a (2 ^ 1073) 2))

half_is : (x : Float) (s : Bool) (a : ℕ) → HasValue x s a 1 → mul binary64 x half ≡ round binary64 s a 2
unfolding mul
half_is nan s a p = absurd p
half_is (inf u) s a p = absurd p
half_is (fin u m e) s a p =
    ap (λ (v : Bool). round binary64 v (m * up e * 1) (down e * 2)) (plus_sign u ∙ p.0)
    ∙ round_same binary64 s (m * up e * 1) (down e * 2) a 2 (mul-pos (down_pos e) (zero-lt-suc 1)) (zero-lt-suc 1) (ap (λ (k : ℕ). k * 2) p.1 ∙ mul_assoc a (down e) 2)

pub half-part : {x : Float} {z : ℤ} → Whole x z → nat_abs z ≤ 2 ^ 53 → Part (mul binary64 x half) z 2
half-part {x} {z} p h = record {
  sign = p.sign;
  size = p.size;
  holds = subst (λ (y : Float). HasValue y p.sign p.size 2) (sym (half_is x p.sign p.size p.holds))
      (half_round p.sign p.size (subst (λ (k : ℕ). k ≤ 2 ^ 53) (ap nat_abs p.is ∙ size_of p.sign p.size) h));
  is = p.is;
}

-- ---- and back

add_self : (f : Bool) (m : ℕ) (e : ℤ) → add binary64 (fin f m e) (fin f m e) ≡ round binary64 f (m * up e * down e + m * up e * down e) (down e * down e)
unfolding add sum
add_self true m e = refl
add_self false m e = refl

double_half : (x : Float) (s : Bool) (a : ℕ) → HasValue x s a 2 → add binary64 x x ≡ round binary64 s a 1
double_half nan s a p = absurd p
double_half (inf u) s a p = absurd p
double_half (fin u m e) s a p =
    add_self u m e
    ∙ ap (λ (v : Bool). round binary64 v (m * up e * down e + m * up e * down e) (down e * down e)) p.0
    ∙ round_same binary64 s (m * up e * down e + m * up e * down e) (down e * down e) a 1 (mul-pos (down_pos e) (down_pos e)) (zero-lt-suc 0)
    (omega (arith, ap (λ (k : ℕ). k * down e) p.1))

two_half : (x : Float) (s : Bool) (a : ℕ) → HasValue x s a 2 → mul binary64 x two ≡ round binary64 s a 1
unfolding mul
two_half nan s a p = absurd p
two_half (inf u) s a p = absurd p
two_half (fin u m e) s a p =
    ap (λ (v : Bool). round binary64 v (m * up e * 2) (down e * 1)) (plus_sign u ∙ p.0)
    ∙ round_same binary64 s (m * up e * 2) (down e * 1) a 1 (mul-pos (down_pos e) (zero-lt-suc 0)) (zero-lt-suc 0) (omega (arith, p.1))

rounded : (z : ℤ) → (s : Bool) × (a : ℕ) × (of_int binary64 z ≡ round binary64 s a 1) × (z ≡ signed s a)
unfolding of_int
rounded (pos n) = (false, n, refl, refl)
rounded (negsuc n) = (true, suc n, refl, refl)

-- an integer's float times 0.5, for an integer up to 2 ^ 53 in size
module _ (z : ℤ) (h : nat_abs z ≤ 2 ^ 53) where
  abbrev pub half_of : Float
  half_of = mul binary64 (of_int binary64 z) half

  pub half_of_lem : Part half_of z 2
  half_of_lem = half-part (whole_of_int z h) h

  own : (let r = rounded z in HasValue half_of r.0 r.1 2)
  own =
      let r = rounded z in
      let l : r.1 ≤ 2 ^ 53 = subst (λ (k : ℕ). k ≤ 2 ^ 53) (ap nat_abs r.3 ∙ size_of r.0 r.1) h in
      let w : HasValue (of_int binary64 z) r.0 r.1 1 = subst (λ (y : Float). HasValue y r.0 r.1 1) (sym r.2) (round_whole binary64 r.0 r.1 l) in
      subst (λ (y : Float). HasValue y r.0 r.1 2) (sym (half_is (of_int binary64 z) r.0 r.1 w)) (half_round r.0 r.1 l)

  pub half_plus_half : add binary64 half_of half_of ≡ of_int binary64 z
  half_plus_half = double_half half_of (rounded z).0 (rounded z).1 own ∙ sym (rounded z).2

  pub half-times_two : mul binary64 half_of two ≡ of_int binary64 z
  half-times_two = two_half half_of (rounded z).0 (rounded z).1 own ∙ sym (rounded z).2

  pub half_above : lt (fin false 0 (pos 0)) half_of ≡ lt_z (pos 0) z
  half_above = lt_part (zero-lt-suc 1) (zero-part 2) half_of_lem

  pub half-below : lt half_of (fin false 0 (pos 0)) ≡ lt_z z (pos 0)
  half-below = lt_part (zero-lt-suc 1) half_of_lem (zero-part 2)

  pub half-zero : eq half_of (fin false 0 (pos 0)) ≡ eq_z z (pos 0)
  half-zero = eq_part (zero-lt-suc 1) half_of_lem (zero-part 2)
