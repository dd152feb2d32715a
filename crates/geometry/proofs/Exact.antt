-- Exact arithmetic on floats that hold whole numbers. `Whole x z` (specs/Coordinate.antt) says that the float x is the integer z; both zeros are 0.
-- The sum, the difference and the product of two such floats are whole again where the integer result is at most 2 ^ 53 in size; the comparisons are those of the integers at any size.
use Rattle.std.proofs.Common.{◌≡◌, ℕ, zero, suc, ◌+◌, ◌-◌, ◌*◌, ◌/◌, ◌%◌, ◌^◌, ◌<◌, ◌≤◌, min, Bool, true, false, cond, not, ◌&&◌, ◌||◌, T, eqb, ltb, leb, ◌⊎◌, List, [], ◌∷◌, ℤ, pos, negsuc, ◌+ℤ◌, ◌-ℤ◌, ◌*ℤ◌, neg_ℤ, nat_abs, sym, refl, ap, ◌∙◌, subst, inl, inr, le_refl, le_of_lt, lt_irrefl, mul-le-mul_right, zero-lt-suc, mul_assoc, mul_comm, add-mul, eq-or-lt_of_le, mul-lt-mul_of_pos_right, mul-pos, mul-zero, ne_of_gt, div-add-mod', zero-add, zero-mul, mul-one, mul_right_comm, mul-div_cancel, arith, le→leb, eqb→eq, leb→le, ltb-false, ltb-true, le-ltb, lt-ltb, eq-eqb, ne_eqb, eqb-true, leb-false, leb-true}
use mathlib.Core.Bool.{beq, and-true, and-false, and_self, or-true}
use native.Mathlib.Nat.{mul-sub, mul-mul-mul_comm, eq_of_mul-eq-mul_right, mul-mod_left}
use lib.Dec.{leb-suc-suc, eqb-suc-suc, eqb-zero-suc, eqb-suc-zero}
use lib.IntN.{neg_ℤ-+ℤ, neg_ℤ-neg_ℤ, +ℤ_comm}
use lib.Signed.{lt_z, le_z}
use lib.Ieee.{Float, nan, inf, fin, Format, binary64, unlike, up, down, round, neg, sum, add, sub, mul, below, level, lt, eq, le, of_int, to_signed, fits}
use lib.Ieee.Fits.{up_pos, down_pos, round-fits, and_i, and_l, and_r, eq→eqb}
use lib.Ieee.Exact.{HasValue}
use lib.Ieee.Back.{round_whole, whole_unique}
use lib.Ieee.Scale.{round_same}
use borrow.Author.Tests.{eqb-false}
use Rattle.geometry.specs.Coordinate.{eq_z, signed, Whole, coordinate, value}
use Rattle.geometry.proofs.Integers.{add_parts, neg_plus, neg_minus, eq_of_parts, nat_abs_add}

-- ---- tests and rounding do not see a common factor

ltb_scale : (a b d : ℕ) → 0 < d → ltb (a * d) (b * d) ≡ ltb a b
ltb_scale a b d h = go (ltb a b) refl
  where
    go : (t : Bool) → ltb a b ≡ t → ltb (a * d) (b * d) ≡ t
    go true e = lt-ltb (a * d) (b * d) (mul-lt-mul_of_pos_right (ltb-true a b e) h)
    go false e = le-ltb (a * d) (b * d) (mul-le-mul_right d (ltb-false a b e))

eqb_scale : (a b d : ℕ) → 0 < d → eqb (a * d) (b * d) ≡ eqb a b
eqb_scale a b d h = go (eqb a b) refl
  where
    go : (t : Bool) → eqb a b ≡ t → eqb (a * d) (b * d) ≡ t
    go true e = eq-eqb (a * d) (b * d) (ap (λ (x : ℕ). x * d) (eqb-true a b e))
    go false e = ne_eqb (a * d) (b * d) (λ q. eqb-false a b e (eq_of_mul-eq-mul_right d h a b q))

sub_scale : (a b d : ℕ) → a * d - b * d ≡ (a - b) * d
sub_scale a b d = sym (mul_comm (a - b) d ∙ mul-sub d a b ∙ (λ i. mul_comm d a i - mul_comm d b i))

pub round_scale : (f : Format) (s : Bool) (k d : ℕ) → 0 < d → round f s (k * d) d ≡ round f s k 1
round_scale f s k d h = round_same f s (k * d) d k 1 h (zero-lt-suc 0) (mul-one (k * d))

pub sum_scale : (f : Format) (s : Bool) (a : ℕ) (t : Bool) (b d : ℕ) → 0 < d → sum f s (a * d) t (b * d) d ≡ sum f s a t b 1
unfolding sum
sum_scale f s a t b d h =
    let both : round f s (a * d + b * d) d ≡ round f s (a + b) 1 = ap (λ (x : ℕ). round f s x d) (sym (add-mul a b d)) ∙ round_scale f s (a + b) d h in
    let less : round f t (b * d - a * d) d ≡ round f t (b - a) 1 = ap (λ (x : ℕ). round f t x d) (sub_scale b a d) ∙ round_scale f t (b - a) d h in
    let more : round f (s && ltb (b * d) (a * d)) (a * d - b * d) d ≡ round f (s && ltb b a) (a - b) 1 =
    (λ i. round f (s && ltb_scale b a d h i) (sub_scale a b d i) d) ∙ round_scale f (s && ltb b a) (a - b) d h in
    λ i. cond (beq s t) (both i) (cond (ltb_scale a b d h i) (less i) (more i))

pub below_scale : (s : Bool) (a : ℕ) (t : Bool) (b d : ℕ) → 0 < d → below s (a * d) t (b * d) ≡ below s a t b
below_scale false a false b d h = ltb_scale a b d h
below_scale false a true b d h = refl
below_scale true a false b d h = ap (λ (x : ℕ). ltb 0 x) (sym (add-mul a b d)) ∙ sym (ap (λ (x : ℕ). ltb x ((a + b) * d)) (zero-mul d)) ∙ ltb_scale 0 (a + b) d h
below_scale true a true b d h = ltb_scale b a d h

pub level_scale : (s : Bool) (a : ℕ) (t : Bool) (b d : ℕ) → 0 < d → level s (a * d) t (b * d) ≡ level s a t b
level_scale s a t b d h =
    let none : eqb (a * d) 0 ≡ eqb a 0 = sym (ap (λ (x : ℕ). eqb (a * d) x) (zero-mul d)) ∙ eqb_scale a 0 d h in
    λ i. eqb_scale a b d h i && (beq s t || none i)

-- ---- the operations at two whole numbers, each given by its sign and its size

flat : (m : ℕ) (e : ℤ) (a : ℕ) → m * up e * 1 ≡ a * down e → m * up e ≡ a * down e
flat m e a v = sym (mul-one (m * up e)) ∙ v

module _ (a b : ℕ) where
  ends : (m : ℕ) (e : ℤ) (n : ℕ) (d : ℤ) → m * up e ≡ a * down e → n * up d ≡ b * down d
      → (m * up e * down d ≡ a * (down e * down d)) × (n * up d * down e ≡ b * (down e * down d))
  ends m e n d p q = (
    ap (λ (x : ℕ). x * down d) p ∙ mul_assoc a (down e) (down d),
    ap (λ (x : ℕ). x * down e) q ∙ mul_assoc b (down d) (down e) ∙ ap (λ (x : ℕ). b * x) (mul_comm (down d) (down e)),
  )

module _ (s : Bool) (a : ℕ) (t : Bool) (b : ℕ) where
  pub add_is : (f : Format) (x y : Float) → HasValue x s a 1 → HasValue y t b 1 → add f x y ≡ sum f s a t b 1
  unfolding add
  add_is f nan y p q = absurd p
  add_is f (inf u) y p q = absurd p
  add_is f (fin u m e) nan p q = absurd q
  add_is f (fin u m e) (inf v) p q = absurd q
  add_is f (fin u m e) (fin v n d) p q =
      let k = ends a b m e n d (flat m e a p.1) (flat n d b q.1) in
      (λ i. sum f (p.0 i) (k.0 i) (q.0 i) (k.1 i) (down e * down d)) ∙ sum_scale f s a t b (down e * down d) (mul-pos (down_pos e) (down_pos d))

  pub mul_is : (f : Format) (x y : Float) → HasValue x s a 1 → HasValue y t b 1 → mul f x y ≡ round f (unlike s t) (a * b) 1
  unfolding mul
  mul_is f nan y p q = absurd p
  mul_is f (inf u) y p q = absurd p
  mul_is f (fin u m e) nan p q = absurd q
  mul_is f (fin u m e) (inf v) p q = absurd q
  mul_is f (fin u m e) (fin v n d) p q =
      (λ i. round f (unlike (p.0 i) (q.0 i)) (flat m e a p.1 i * flat n d b q.1 i) (down e * down d))
      ∙ ap (λ (x : ℕ). round f (unlike s t) x (down e * down d)) (mul-mul-mul_comm a (down e) b (down d))
      ∙ round_scale f (unlike s t) (a * b) (down e * down d) (mul-pos (down_pos e) (down_pos d))

  pub lt_is : (x y : Float) → HasValue x s a 1 → HasValue y t b 1 → lt x y ≡ below s a t b
  unfolding lt
  lt_is nan y p q = absurd p
  lt_is (inf u) y p q = absurd p
  lt_is (fin u m e) nan p q = absurd q
  lt_is (fin u m e) (inf v) p q = absurd q
  lt_is (fin u m e) (fin v n d) p q =
      let k = ends a b m e n d (flat m e a p.1) (flat n d b q.1) in
      (λ i. below (p.0 i) (k.0 i) (q.0 i) (k.1 i)) ∙ below_scale s a t b (down e * down d) (mul-pos (down_pos e) (down_pos d))

  pub eq_is : (x y : Float) → HasValue x s a 1 → HasValue y t b 1 → eq x y ≡ level s a t b
  unfolding eq
  eq_is nan y p q = absurd p
  eq_is (inf u) y p q = absurd p
  eq_is (fin u m e) nan p q = absurd q
  eq_is (fin u m e) (inf v) p q = absurd q
  eq_is (fin u m e) (fin v n d) p q =
      let k = ends a b m e n d (flat m e a p.1) (flat n d b q.1) in
      (λ i. level (p.0 i) (k.0 i) (q.0 i) (k.1 i)) ∙ level_scale s a t b (down e * down d) (mul-pos (down_pos e) (down_pos d))

-- a whole number against any finite float
pub eq_at : (f : Float) (t : Bool) (a : ℕ) (s : Bool) (m : ℕ) (e : ℤ) → HasValue f t a 1 → eq f (fin s m e) ≡ level t (a * down e) s (m * up e)
unfolding eq
eq_at nan t a s m e p = absurd p
eq_at (inf u) t a s m e p = absurd p
eq_at (fin u n d) t a s m e p =
    let k : n * up d * down e ≡ a * down e * down d = ap (λ (x : ℕ). x * down e) (flat n d a p.1) ∙ mul_right_comm a (down d) (down e) in
    (λ i. level (p.0 i) (k i) s (m * up e * down d)) ∙ level_scale t (a * down e) s (m * up e) (down d) (down_pos d)

neg_is : (s : Bool) (a : ℕ) (x : Float) → HasValue x s a 1 → HasValue (neg x) (not s) a 1
unfolding neg
neg_is s a nan p = p
neg_is s a (inf u) p = p
neg_is s a (fin u m e) p = (ap not p.0, p.1)

-- ---- the same in integers

pub below_int : (s : Bool) (a : ℕ) (t : Bool) (b : ℕ) → below s a t b ≡ lt_z (signed s a) (signed t b)
below_int false a false b = refl
below_int false a true zero = sym (le-ltb a 0 (omega arith))
below_int false a true (suc b) = refl
below_int true zero false b = ap (λ (x : ℕ). ltb 0 x) (zero-add b)
below_int true (suc a) false b = lt-ltb 0 (suc a + b) (omega arith)
below_int true zero true zero = refl
below_int true zero true (suc b) = le-ltb (suc b) 0 (omega arith)
below_int true (suc a) true zero = lt-ltb 0 (suc a) (omega arith)
below_int true (suc a) true (suc b) = leb-suc-suc (suc b) a

pub ltb_or_eqb : (a b : ℕ) → (ltb a b || eqb a b) ≡ leb a b
ltb_or_eqb a b = go (leb a b) refl
  where
    go : (t : Bool) → leb a b ≡ t → (ltb a b || eqb a b) ≡ t
    go true e = elim (eq-or-lt_of_le (leb-true a b e)) [ inl q ↦ ap (λ (t : Bool). ltb a b || t) (eq-eqb a b q) ∙ or-true (ltb a b) | inr l ↦ ap (λ (t : Bool). t || eqb a b) (lt-ltb a b l) ]
    go false e = λ i. le-ltb a b (le_of_lt (leb-false a b e)) i || ne_eqb a b (ne_of_gt (leb-false a b e)) i

pub level_int : (s : Bool) (a : ℕ) (t : Bool) (b : ℕ) → level s a t b ≡ eq_z (signed s a) (signed t b)
level_int false a false b = and-true (eqb a b)
level_int false zero true zero = refl
level_int false (suc a) true zero = and_self (eqb (suc a) 0)
level_int false zero true (suc b) = ap (λ (t : Bool). t && (false || eqb 0 0)) (eqb-zero-suc b)
level_int false (suc a) true (suc b) = ap (λ (t : Bool). eqb (suc a) (suc b) && t) (eqb-suc-zero a) ∙ and-false (eqb (suc a) (suc b))
level_int true zero false b = and-true (eqb 0 b)
level_int true (suc a) false b = ap (λ (t : Bool). eqb (suc a) b && t) (eqb-suc-zero a) ∙ and-false (eqb (suc a) b)
level_int true zero true zero = refl
level_int true zero true (suc b) = ap (λ (t : Bool). t && true) (eqb-zero-suc b)
level_int true (suc a) true zero = ap (λ (t : Bool). t && true) (eqb-suc-zero a)
level_int true (suc a) true (suc b) = and-true (eqb (suc a) (suc b)) ∙ eqb-suc-suc a b

eqb_comm : (a b : ℕ) → eqb a b ≡ eqb b a
eqb_comm a b = go (eqb b a) refl
  where
    go : (t : Bool) → eqb b a ≡ t → eqb a b ≡ t
    go true e = eq-eqb a b (sym (eqb-true b a e))
    go false e = ne_eqb a b (λ q. eqb-false b a e (sym q))

pub lt_or_eq : (a b : ℤ) → (lt_z a b || eq_z a b) ≡ le_z a b
lt_or_eq (pos a) (pos b) = ltb_or_eqb a b
lt_or_eq (pos a) (negsuc b) = refl
lt_or_eq (negsuc a) (pos b) = refl
lt_or_eq (negsuc a) (negsuc b) = ap (λ (t : Bool). ltb b a || t) (eqb_comm a b) ∙ ltb_or_eqb b a

-- ---- whole floats

pub size_of : (s : Bool) (n : ℕ) → nat_abs (signed s n) ≡ n
size_of false n = refl
size_of true zero = refl
size_of true (suc n) = refl

-- an integer, rounded, is that integer, where it is at most 2 ^ 53 in size
pub of_round : (s : Bool) (n : ℕ) (z : ℤ) → z ≡ signed s n → nat_abs z ≤ 2 ^ 53 → Whole (round binary64 s n 1) z
of_round s n z e h = record {
  sign = s;
  size = n;
  holds = round_whole binary64 s n (subst (λ (k : ℕ). k ≤ 2 ^ 53) (ap nat_abs e ∙ size_of s n) h);
  is = e;
}

pub whole_of_int : (z : ℤ) → nat_abs z ≤ 2 ^ 53 → Whole (of_int binary64 z) z
unfolding of_int
whole_of_int (pos n) h = of_round false n (pos n) refl h
whole_of_int (negsuc n) h = of_round true (suc n) (negsuc n) refl h

diff_under : (a b : ℕ) → a < b → pos a +ℤ neg_ℤ (pos b) ≡ neg_ℤ (pos (b - a))
diff_under a b h =
    eq_of_parts (pos a +ℤ neg_ℤ (pos b)) (neg_ℤ (pos (b - a)))
    (omega (arith, add_parts (pos a) (neg_ℤ (pos b)), neg_plus (pos b), neg_minus (pos b), neg_plus (pos (b - a)), neg_minus (pos (b - a))))

diff_over : (a b : ℕ) → b ≤ a → pos a +ℤ neg_ℤ (pos b) ≡ pos (a - b)
diff_over a b h =
    eq_of_parts (pos a +ℤ neg_ℤ (pos b)) (pos (a - b))
    (omega (arith, add_parts (pos a) (neg_ℤ (pos b)), neg_plus (pos b), neg_minus (pos b)))

gap : (a b : ℕ) → a < b → 0 < b - a
gap a b h = omega arith

alike : (a b : ℕ) → b ≤ a → a ≤ b → a - b ≡ 0
alike a b h k = omega arith

sum_whole : (s : Bool) (a : ℕ) (t : Bool) (b : ℕ) (z : ℤ) → z ≡ signed s a +ℤ signed t b → nat_abs z ≤ 2 ^ 53 → Whole (sum binary64 s a t b 1) z
unfolding sum
sum_whole false a false b z e h = of_round false (a + b) z e h
sum_whole true a true b z e h = of_round true (a + b) z (e ∙ sym (neg_ℤ-+ℤ (pos a) (pos b))) h
sum_whole false a true b z e h = go (ltb a b) refl
  where
    go : (u : Bool) → ltb a b ≡ u → Whole (cond u (round binary64 true (b - a) 1) (round binary64 false (a - b) 1)) z
    go true l = of_round true (b - a) z (e ∙ diff_under a b (ltb-true a b l)) h
    go false l = of_round false (a - b) z (e ∙ diff_over a b (ltb-false a b l)) h
sum_whole true a false b z e h = go (ltb a b) refl (ltb b a) refl
  where
    e2 : z ≡ pos b +ℤ neg_ℤ (pos a)
    e2 = e ∙ +ℤ_comm (neg_ℤ (pos a)) (pos b)

    go : (u : Bool) → ltb a b ≡ u → (v : Bool) → ltb b a ≡ v → Whole (cond u (round binary64 false (b - a) 1) (round binary64 v (a - b) 1)) z
    go true l v k = of_round false (b - a) z (e2 ∙ diff_over b a (le_of_lt (ltb-true a b l))) h
    go false l true k = of_round true (a - b) z (e2 ∙ diff_under b a (ltb-true b a k)) h
    go false l false k =
        of_round false (a - b) z
        (e2 ∙ diff_over b a (ltb-false b a k) ∙ ap pos (alike b a (ltb-false b a k) (ltb-false a b l) ∙ sym (alike a b (ltb-false a b l) (ltb-false b a k)))) h

neg_signed : (t : Bool) (b : ℕ) → neg_ℤ (signed t b) ≡ signed (not t) b
neg_signed false b = refl
neg_signed true b = neg_ℤ-neg_ℤ (pos b)

no_neg : (k : ℕ) → k ≡ 0 → pos k ≡ neg_ℤ (pos k)
no_neg k e = ap pos e ∙ sym (ap (λ (n : ℕ). neg_ℤ (pos n)) e)

pub mul-signed : (s : Bool) (a : ℕ) (t : Bool) (b : ℕ) → signed s a *ℤ signed t b ≡ signed (unlike s t) (a * b)
mul-signed false a false b = refl
mul-signed false a true zero = no_neg (a * 0) (mul-zero a)
mul-signed false a true (suc b) = refl
mul-signed true zero false b = no_neg (0 * b) (zero-mul b)
mul-signed true (suc a) false b = refl
mul-signed true zero true zero = refl
mul-signed true zero true (suc b) = sym (no_neg (0 * suc b) (zero-mul (suc b)))
mul-signed true (suc a) true zero = sym (no_neg (suc a * 0) (mul-zero (suc a)))
mul-signed true (suc a) true (suc b) = refl

module _ {x y : Float} {a b : ℤ} (p : Whole x a) (q : Whole y b) where
  pub whole_add : nat_abs (a +ℤ b) ≤ 2 ^ 53 → Whole (add binary64 x y) (a +ℤ b)
  whole_add h =
      subst (λ (r : Float). Whole r (a +ℤ b)) (sym (add_is p.sign p.size q.sign q.size binary64 x y p.holds q.holds))
      (sum_whole p.sign p.size q.sign q.size (a +ℤ b) (λ i. p.is i +ℤ q.is i) h)

  pub whole_sub : nat_abs (a -ℤ b) ≤ 2 ^ 53 → Whole (sub binary64 x y) (a -ℤ b)
  unfolding sub
  whole_sub h =
      subst (λ (r : Float). Whole r (a -ℤ b)) (sym (add_is p.sign p.size (not q.sign) q.size binary64 x (neg y) p.holds (neg_is q.sign q.size y q.holds)))
      (sum_whole p.sign p.size (not q.sign) q.size (a -ℤ b) (λ i. p.is i +ℤ (ap neg_ℤ q.is ∙ neg_signed q.sign q.size) i) h)

  pub whole_mul : nat_abs (a *ℤ b) ≤ 2 ^ 53 → Whole (mul binary64 x y) (a *ℤ b)
  whole_mul h =
      subst (λ (r : Float). Whole r (a *ℤ b)) (sym (mul_is p.sign p.size q.sign q.size binary64 x y p.holds q.holds))
      (of_round (unlike p.sign q.sign) (p.size * q.size) (a *ℤ b) ((λ i. p.is i *ℤ q.is i) ∙ mul-signed p.sign p.size q.sign q.size) h)

  pub lt_whole : lt x y ≡ lt_z a b
  lt_whole =
      lt_is p.sign p.size q.sign q.size x y p.holds q.holds
      ∙ below_int p.sign p.size q.sign q.size ∙ sym (λ i. lt_z (p.is i) (q.is i))

  pub eq_whole : eq x y ≡ eq_z a b
  eq_whole =
      eq_is p.sign p.size q.sign q.size x y p.holds q.holds
      ∙ level_int p.sign p.size q.sign q.size ∙ sym (λ i. eq_z (p.is i) (q.is i))

  pub le_whole : le x y ≡ le_z a b
  unfolding le
  le_whole = (λ i. lt_whole i || eq_whole i) ∙ lt_or_eq a b

-- ---- coordinates

cut : (x d : ℕ) → x % d ≡ 0 → x * 1 ≡ x / d * d
cut x d h = omega (arith, div-add-mod' x d)

pub coordinate_whole : (b : ℕ) (x : Float) → T (coordinate b x) → Whole x (value x)
unfolding coordinate value
coordinate_whole b nan t = absurd t
coordinate_whole b (inf s) t = absurd t
coordinate_whole b (fin s m e) t = record {
  sign = s;
  size = m * up e / down e;
  holds = (refl, cut (m * up e) (down e) (eqb→eq (m * up e % down e) 0 (and_l (eqb (m * up e % down e) 0) (leb (m * up e / down e) b) t)));
  is = refl;
}

pub coordinate_bound_lem : (b : ℕ) (x : Float) → T (coordinate b x) → nat_abs (value x) ≤ b
unfolding coordinate value
coordinate_bound_lem b nan t = absurd t
coordinate_bound_lem b (inf s) t = absurd t
coordinate_bound_lem b (fin s m e) t =
    subst (λ (k : ℕ). k ≤ b) (sym (size_of s (m * up e / down e)))
    (leb→le (m * up e / down e) b (and_r (eqb (m * up e % down e) 0) (leb (m * up e / down e) b) t))

-- ---- which zero: a sum whose first operand is not -0 is not -0 either, so it is `of_int` of the integer sum, exactly

abbrev pub minus_zero : Float → Bool
minus_zero nan = false
minus_zero (inf s) = false
minus_zero (fin false m e) = false
minus_zero (fin true zero e) = true
minus_zero (fin true (suc m) e) = false

-- of a float that is not -0: its sign is plus, or its size is not 0
pub plain-sign : (x : Float) (s : Bool) (a : ℕ) → HasValue x s a 1 → minus_zero x ≡ false → (s ≡ false) ⊎ (0 < a)
plain-sign nan s a p h = absurd p
plain-sign (inf t) s a p h = absurd p
plain-sign (fin false m e) s a p h = inl (sym p.0)
plain-sign (fin true zero e) s a p h = absurd (subst T h tt)
plain-sign (fin true (suc m) e) s zero p h = absurd (lt_irrefl 0 (subst (λ (k : ℕ). 0 < k) (flat (suc m) e 0 p.1 ∙ zero-mul (down e)) (mul-pos (zero-lt-suc m) (up_pos e))))
plain-sign (fin true (suc m) e) s (suc a) p h = inr (zero-lt-suc a)

round_pos : (f : Format) (n : ℕ) → round f false n 1 ≡ of_int f (pos n)
unfolding of_int
round_pos f n = refl

round_neg : (f : Format) (n : ℕ) → 0 < n → round f true n 1 ≡ of_int f (neg_ℤ (pos n))
unfolding of_int
round_neg f zero h = absurd (lt_irrefl 0 h)
round_neg f (suc n) h = refl

pub round_signed : (f : Format) (s : Bool) (a : ℕ) → (s ≡ false) ⊎ (0 < a) → round f s a 1 ≡ of_int f (signed s a)
round_signed f false a h = round_pos f a
round_signed f true a (inl e) = absurd (subst T e tt)
round_signed f true a (inr h) = round_neg f a h

-- the only sum that is -0 is that of two: each other is `of_int` of the integer sum, at any size
sum_of_int : (f : Format) (s : Bool) (a : ℕ) (t : Bool) (b : ℕ) → (s ≡ false) ⊎ (0 < a) → sum f s a t b 1 ≡ of_int f (signed s a +ℤ signed t b)
unfolding sum
sum_of_int f false a false b h = round_pos f (a + b)
sum_of_int f true a true b (inl e) = absurd (subst T e tt)
sum_of_int f true a true b (inr h) = round_neg f (a + b) (omega arith) ∙ ap (of_int f) (neg_ℤ-+ℤ (pos a) (pos b))
sum_of_int f false a true b h = go (ltb a b) refl
  where
    go : (u : Bool) → ltb a b ≡ u → cond u (round f true (b - a) 1) (round f false (a - b) 1) ≡ of_int f (pos a +ℤ neg_ℤ (pos b))
    go true l = round_neg f (b - a) (gap a b (ltb-true a b l)) ∙ ap (of_int f) (sym (diff_under a b (ltb-true a b l)))
    go false l = round_pos f (a - b) ∙ ap (of_int f) (sym (diff_over a b (ltb-false a b l)))
sum_of_int f true a false b h = go (ltb a b) refl (ltb b a) refl ∙ ap (of_int f) (+ℤ_comm (pos b) (neg_ℤ (pos a)))
  where
    go : (u : Bool) → ltb a b ≡ u → (v : Bool) → ltb b a ≡ v → cond u (round f false (b - a) 1) (round f v (a - b) 1) ≡ of_int f (pos b +ℤ neg_ℤ (pos a))
    go true l v k = round_pos f (b - a) ∙ ap (of_int f) (sym (diff_over b a (le_of_lt (ltb-true a b l))))
    go false l true k = round_neg f (a - b) (gap b a (ltb-true b a k)) ∙ ap (of_int f) (sym (diff_under b a (ltb-true b a k)))
    go false l false k =
        round_pos f (a - b)
        ∙ ap (λ (n : ℕ). of_int f (pos n)) (alike a b (ltb-false a b l) (ltb-false b a k) ∙ sym (alike b a (ltb-false b a k) (ltb-false a b l)))
        ∙ ap (of_int f) (sym (diff_over b a (ltb-false b a k)))

module _ {x y : Float} {a b : ℤ} (p : Whole x a) (q : Whole y b) (plain : minus_zero x ≡ false) where
  pub add-plain : add binary64 x y ≡ of_int binary64 (a +ℤ b)
  add-plain =
      add_is p.sign p.size q.sign q.size binary64 x y p.holds q.holds
      ∙ sum_of_int binary64 p.sign p.size q.sign q.size (plain-sign x p.sign p.size p.holds plain)
      ∙ sym (λ i. of_int binary64 (p.is i +ℤ q.is i))

  pub sub-plain : sub binary64 x y ≡ of_int binary64 (a -ℤ b)
  unfolding sub
  sub-plain =
      add_is p.sign p.size (not q.sign) q.size binary64 x (neg y) p.holds (neg_is q.sign q.size y q.holds)
      ∙ sum_of_int binary64 p.sign p.size (not q.sign) q.size (plain-sign x p.sign p.size p.holds plain)
      ∙ sym (λ i. of_int binary64 (p.is i +ℤ (ap neg_ℤ q.is ∙ neg_signed q.sign q.size) i))

-- no integer is -0
value-plain : (x : Float) (s : Bool) (a : ℕ) → HasValue x s a 1 → (s ≡ false) ⊎ (0 < a) → minus_zero x ≡ false
value-plain nan s a p h = refl
value-plain (inf t) s a p h = refl
value-plain (fin false m e) s a p h = refl
value-plain (fin true zero e) s a p (inl h) = absurd (subst T (p.0 ∙ h) tt)
value-plain (fin true zero e) s a p (inr h) = absurd (lt_irrefl 0 (subst (λ (k : ℕ). 0 < k) (sym (flat 0 e a p.1) ∙ zero-mul (up e)) (mul-pos h (down_pos e))))
value-plain (fin true (suc m) e) s a p h = refl

pub of_int_plain : (z : ℤ) → nat_abs z ≤ 2 ^ 53 → minus_zero (of_int binary64 z) ≡ false
unfolding of_int
of_int_plain (pos n) h = value-plain (round binary64 false n 1) false n (round_whole binary64 false n h) (inl refl)
of_int_plain (negsuc n) h = value-plain (round binary64 true (suc n) 1) true (suc n) (round_whole binary64 true (suc n) h) (inr (zero-lt-suc n))

-- a whole float that is not -0, of a value that the type holds, is `of_int` of its integer
pub plain-is_of_int : {x : Float} {z : ℤ} → Whole x z → T (fits binary64 x) → nat_abs z ≤ 2 ^ 53 → minus_zero x ≡ false → x ≡ of_int binary64 z
plain-is_of_int {x} {z} p t h plain =
    let s = p.sign in
    let a = p.size in
    whole_unique binary64 x (round binary64 s a 1) s a t (round-fits binary64 s a 1) p.holds (round_whole binary64 s a (subst (λ (k : ℕ). k ≤ 2 ^ 53) (ap nat_abs p.is ∙ size_of s a) h))
    ∙ round_signed binary64 s a (plain-sign x s a p.holds plain) ∙ ap (of_int binary64) (sym p.is)

-- the step of a fold: the sum so far is `of_int` of an integer, and stays so
pub add_of_int : (a : ℤ) {y : Float} {b : ℤ} → nat_abs a ≤ 2 ^ 53 → Whole y b → add binary64 (of_int binary64 a) y ≡ of_int binary64 (a +ℤ b)
add_of_int a h q = add-plain (whole_of_int a h) q (of_int_plain a h)

-- and of one that takes away
pub sub_of_int : (a : ℤ) {y : Float} {b : ℤ} → nat_abs a ≤ 2 ^ 53 → Whole y b → sub binary64 (of_int binary64 a) y ≡ of_int binary64 (a -ℤ b)
sub_of_int a h q = sub-plain (whole_of_int a h) q (of_int_plain a h)

-- a fold from +0: exact, while the sizes of the terms add up to at most 2 ^ 53
pub fold_add : Float → List Float → Float
fold_add acc [] = acc
fold_add acc (x ∷ xs) = fold_add (add binary64 acc x) xs

pub sum_z : ℤ → List ℤ → ℤ
sum_z acc [] = acc
sum_z acc (z ∷ zs) = sum_z (acc +ℤ z) zs

pub sizes : List ℤ → ℕ
sizes [] = 0
sizes (z ∷ zs) = nat_abs z + sizes zs

pub data AllWhole : List Float → List ℤ → Type 0 where
  none : AllWhole [] []
  more : {x : Float} {z : ℤ} {xs : List Float} {zs : List ℤ} → Whole x z → AllWhole xs zs → AllWhole (x ∷ xs) (z ∷ zs)

pub fold_exact : {xs : List Float} {zs : List ℤ} → AllWhole xs zs → (a : ℤ) → nat_abs a + sizes zs ≤ 2 ^ 53 → fold_add (of_int binary64 a) xs ≡ of_int binary64 (sum_z a zs)
unfolding fold_add sum_z sizes
fold_exact none a h = refl
fold_exact (more {x = x} {z = z} {xs = xs} {zs = zs} p ps) a h =
    ap (λ (y : Float). fold_add y xs) (add_of_int a (omega arith) p) ∙ fold_exact ps (a +ℤ z) (omega (arith, nat_abs_add a z))

-- ---- more of `Whole`

pub zero_whole : Whole (fin false 0 (pos 0)) (pos 0)
zero_whole = record { sign = false; size = 0; holds = (refl, refl); is = refl }

pub whole_neg : {x : Float} {z : ℤ} → Whole x z → Whole (neg x) (neg_ℤ z)
whole_neg {x} {z} p = record {
  sign = not p.sign;
  size = p.size;
  holds = neg_is p.sign p.size x p.holds;
  is = ap neg_ℤ p.is ∙ neg_signed p.sign p.size;
}

one_value : (x : Float) (s : Bool) (a : ℕ) (t : Bool) (b : ℕ) → HasValue x s a 1 → HasValue x t b 1 → (s ≡ t) × (a ≡ b)
one_value nan s a t b p q = absurd p
one_value (inf u) s a t b p q = absurd p
one_value (fin u m e) s a t b p q = (sym p.0 ∙ q.0, eq_of_mul-eq-mul_right (down e) (down_pos e) a b (sym p.1 ∙ q.1))

-- a float is one integer at most
pub whole_one : {x : Float} {y z : ℤ} → Whole x y → Whole x z → y ≡ z
whole_one {x} p q =
    let k = one_value x p.sign p.size q.sign q.size p.holds q.holds in
    p.is ∙ (λ i. signed (k.0 i) (k.1 i)) ∙ sym q.is

size_is : (x : Float) (s : Bool) (a b : ℕ) → HasValue x s a 1 → a ≤ b → T (coordinate b x)
unfolding coordinate
size_is nan s a b p h = p
size_is (inf u) s a b p h = p
size_is (fin u m e) s a b p h =
    let k : m * up e ≡ a * down e = flat m e a p.1 in
    and_i (eqb (m * up e % down e) 0) (leb (m * up e / down e) b)
    (eq→eqb (ap (λ (n : ℕ). n % down e) k ∙ mul-mod_left a (down e)))
    (le→leb (m * up e / down e) b (subst (λ (n : ℕ). n ≤ b) (sym (ap (λ (n : ℕ). n / down e) k ∙ mul-div_cancel a (down_pos e))) h))

-- what is whole and small enough is a coordinate, of that value
pub whole_coordinate : {x : Float} {z : ℤ} (b : ℕ) → Whole x z → nat_abs z ≤ b → T (coordinate b x)
whole_coordinate {x} b p h = size_is x p.sign p.size b p.holds (subst (λ (k : ℕ). k ≤ b) (ap nat_abs p.is ∙ size_of p.sign p.size) h)

pub whole_value : {x : Float} {z : ℤ} → Whole x z → value x ≡ z
whole_value {x} {z} p = whole_one (coordinate_whole (nat_abs z) x (whole_coordinate (nat_abs z) p (le_refl (nat_abs z)))) p

capped : (q b k : ℕ) → q ≤ b → b ≤ k → min q k ≡ q
capped q b k h l = omega arith

-- a coordinate cast to an integer, as `std::num::truncating_f64_to_i64` does, is its value
pub coordinate_to_signed : (b : ℕ) (x : Float) → T (coordinate b x) → b < 2 ^ 63 → to_signed 63 x ≡ value x
unfolding coordinate value to_signed
coordinate_to_signed b nan t h = absurd t
coordinate_to_signed b (inf s) t h = absurd t
coordinate_to_signed b (fin true m e) t h =
    ap (λ (k : ℕ). neg_ℤ (pos k)) (capped (m * up e / down e) b (2 ^ 63) (leb→le (m * up e / down e) b (and_r (eqb (m * up e % down e) 0) (leb (m * up e / down e) b) t)) (omega arith))
coordinate_to_signed b (fin false m e) t h =
    ap pos (capped (m * up e / down e) b (2 ^ 63 - 1) (leb→le (m * up e / down e) b (and_r (eqb (m * up e % down e) 0) (leb (m * up e / down e) b) t)) (omega arith))
