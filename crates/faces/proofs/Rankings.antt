-- The order of rings, by keys, then areas, then starting half-edges, as an order of the rules; no two rings that begin differently stand level.
use mathlib.Core.Path.{◌≡◌, refl, sym, ap, ◌∙◌}
use mathlib.Core.Bool.{Bool, true, false, cond, ◌&&◌, ◌||◌, not}
use Prim.Native.Nat.{ℕ}
use native.Mathlib.Omega.{arith}
use lib.Dec.{ltb}
use lib.ListN.{get_or}
use lib.Signed.{lt_z}
use borrow.Author.Tests.{ltb-false, lt-ltb}
use Rattle.lists.proofs.Counts.{by_test, true_is_false}
use Rattle.rotation.specs.Rotation.{keys_before}
use Rattle.rotation.proofs.Keys.{keys_transitive}
use Rattle.rules.specs.Face.{Ring, face_before_lem}
use Rattle.rules.specs.Pieces.{then_by}
use Rattle.rules.proofs.Orders.{Order, order_nat, order_int, order_by, order_then}
use Rattle.ring_keys.proofs.KeyLists.{keys_asymmetric, keys_level}

-- lists of keys stand in an order
order-keys : Order keys_before
order-keys = record {
  one_way = keys_asymmetric;
  goes_on_lem = λ a b c e f. by_test (keys_before a c) (λ g. by_test (keys_before b a)
      (λ h. absurd (true_is_false (sym (keys_transitive b a c h g) ∙ f)))
      (λ h. absurd (true_is_false (sym g ∙ ap (λ w. keys_before w c) (keys_level a b e h) ∙ f)))) (λ g. g);
}

-- the half-edge with which a ring begins
abbrev pub start_of : Ring → ℕ
start_of r = get_or r.half_edges_lem 0 0

-- by key
abbrev by_key : Ring → Ring → Bool
by_key a b = keys_before a.key b.key

-- by area
abbrev by_area : Ring → Ring → Bool
by_area a b = lt_z a.doubled b.doubled

-- by starting half-edge
abbrev by_start : Ring → Ring → Bool
by_start a b = ltb (start_of a) (start_of b)

-- two ways to say that the one test does not decide and the other does
undecided : (b c : Bool) → cond b false c ≡ (not b && c)
undecided true c = refl
undecided false c = refl

-- rings come by key, then area, then starting half-edge
faces_are : (a b : Ring) → face_before_lem a b ≡ then_by by_key (then_by by_area by_start) a b
unfolding face_before_lem
faces_are a b =
    ap (λ t. by_key a b || t) (undecided (by_key b a) (by_area a b || cond (by_area b a) false (by_start a b))
    ∙ ap (λ t. not (by_key b a) && (by_area a b || t)) (undecided (by_area b a) (by_start a b)))

-- that is an order
order-rings : Order (then_by by_key (then_by by_area by_start))
order-rings =
    order_then by_key (then_by by_area by_start) (order_by (λ (r : Ring). r.key) keys_before order-keys)
    (order_then by_area by_start (order_by (λ (r : Ring). r.doubled) lt_z order_int) (order_by start_of ltb order_nat))

-- not both ways
pub faces-one_way : (a b : Ring) → face_before_lem a b ≡ true → face_before_lem b a ≡ false
faces-one_way a b e = faces_are b a ∙ order-rings.one_way a b (sym (faces_are a b) ∙ e)

-- what precedes z precedes y, or y precedes z
pub faces-between : (x y z : Ring) → face_before_lem x z ≡ true → face_before_lem y z ≡ false → face_before_lem x y ≡ true
faces-between x y z a b = by_test (face_before_lem x y) (λ e. e)
    (λ e. absurd (true_is_false (sym a ∙ faces_are x z ∙ order-rings.goes_on_lem x y z (sym (faces_are x y) ∙ e) (sym (faces_are y z) ∙ b))))

-- what a failed test by one, then another, says
then_false : (a b c : Bool) → (a || cond b false c) ≡ false → (a ≡ false) × (b ≡ false → c ≡ false)
then_false true b c e = absurd (true_is_false e)
then_false false true c e = (refl, λ f. absurd (true_is_false f))
then_false false false c e = (refl, λ f. e)

-- of two rings that begin with different half-edges one comes before the other
pub faces-total : (a b : Ring) → (start_of a ≡ start_of b → ⊥) → face_before_lem a b ≡ false → face_before_lem b a ≡ true
unfolding face_before_lem
faces-total a b d e =
    let r = then_false (by_key a b) (by_key b a) (by_area a b || cond (by_area b a) false (by_start a b)) e in
    by_test (by_key b a) (λ f. rw f) (λ f.
    let s = then_false (by_area a b) (by_area b a) (by_start a b) (r.1 f) in
    by_test (by_area b a) (λ g. rw (f, r.0, g)) (λ g.
    let h : by_start b a ≡ true = lt-ltb (start_of b) (start_of a) (omega (arith, ltb-false (start_of a) (start_of b) (s.1 g))) in
    rw (f, r.0, g, s.0) h))
