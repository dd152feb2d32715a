-- Holders are enclosed rings, and the first of those that hold.
use Prim.Native.Nat.{ℕ, ◌<◌}
use native.Mathlib.Omega.{arith}
use mathlib.Core.Path.{◌≡◌, refl, sym, ap, ◌∙◌, subst}
use mathlib.Core.Logic.{⊎_elim}
use mathlib.Core.Bool.{Bool, false, ◌&&◌}
use mathlib.Core.List.{List, [], ◌∷◌, map, map-map}
use lib.ListN.{length}
use lib.Dec.{ltb}
use lib.Signed.{lt_z}
use Rattle.lists.specs.Lists.{below, In}
use Rattle.lists.proofs.Counts.{in_head, in_tail, in_cons}
use Rattle.lists.proofs.Members.{below_in, in_below}
use Rattle.lists.proofs.Tests.{both}
use Rattle.geometry.specs.Angle.{Point}
use Rattle.rules.specs.Cycles.{Arrangement}
use Rattle.rules.specs.Face.{Ring, face_number_lem}
use Rattle.rules.specs.Pieces.{foremost}
use Rattle.rules.specs.Holes.{holds, enclosed, is_open_lem, ring_at, outside, foremost_of, holds_first, holder_of_lem, holes_of, Holder, HoleRules}
use Rattle.rules.proofs.Orders.{Order, order_nat, decides_nat, order_int, then_false, order_by, order_then, foremost_default, foremost-first, foremost_in}

-- holders are in order
pub holds_first-order : (rs : List Ring) → Order (holds_first rs)
holds_first-order rs = order_then _ _ (order_by (λ i. (ring_at rs i).doubled) lt_z order_int) (order_by (λ i. face_number_lem rs (ring_at rs i)) ltb order_nat)

module _ (before : ℕ → ℕ → Bool) (o : Order before) where
  -- the foremost of some is one of them
  pub foremost_of_in : (d : ℕ) (l : List ℕ) (w : ℕ) → In w l → In (foremost_of before d l) l
  foremost_of_in d [] w m = absurd (omega arith)
  foremost_of_in d (x ∷ l) w m = ⊎_elim (λ e. in_head (foremost before x l) x l e) (λ k. in_tail (foremost before x l) x l k) (foremost_in before o x l)

  -- and none comes before it
  pub foremost_of-first : (d : ℕ) (l : List ℕ) (w : ℕ) → In w l → before w (foremost_of before d l) ≡ false
  foremost_of-first d [] w m = absurd (omega arith)
  foremost_of-first d (x ∷ l) w m =
      ⊎_elim (λ e. subst (λ z. before z (foremost before x l) ≡ false) (sym e) (foremost_default before o x l)) (λ k. foremost-first before o x l w k) (in_cons w x l m)

  -- of none it is the default
  pub foremost_of-none : (d : ℕ) (l : List ℕ) → ((w : ℕ) → In w l → ⊥) → foremost_of before d l ≡ d
  foremost_of-none d [] f = refl
  foremost_of-none d (x ∷ l) f = absurd (f x (in_head x x l refl))

module _ (at : ℕ → Point) (g : Arrangement) (rs : List Ring) where
  -- the rings that hold o
  abbrev holding : Ring → List ℕ
  holding o = below (λ i. enclosed (ring_at rs i) && holds at g (ring_at rs i) o) (length rs)

  -- the holder is the foremost of these
  holder-is : (o : Ring) → holder_of_lem at g rs o ≡ foremost_of (holds_first rs) outside (holding o)
  unfolding holder_of_lem
  holder-is o = refl

  -- what stands among them holds
  is-holder : (o : Ring) (i : ℕ) → In i (holding o) → Holder at g rs o i
  is-holder o i m =
      let u = below_in (λ i. enclosed (ring_at rs i) && holds at g (ring_at rs i) o) (length rs) i m in
      let v = both (enclosed (ring_at rs i)) (holds at g (ring_at rs i) o) u.1 in
      record { low = u.0; encloses = v.0; around = v.1 }

  -- and what holds stands among them
  holder_in : (o : Ring) (i : ℕ) → Holder at g rs o i → In i (holding o)
  holder_in o i k = in_below (λ i. enclosed (ring_at rs i) && holds at g (ring_at rs i) o) (length rs) i k.low (rw (k.encloses, k.around) refl)

  -- the hole list
  pub hole_rules : HoleRules at g rs
  unfolding holes_of
  hole_rules = record {
    order = map-map _ _ opens ∙ same opens;
    areas = map-map _ _ opens;
    holders = map-map _ _ opens;
    unheld = λ o f. holder-is o ∙ foremost_of-none (holds_first rs) order outside (holding o) (λ w m. f w (is-holder o w m));
    held = λ o i k. subst (λ w. Holder at g rs o w) (sym (holder-is o)) (is-holder o _ (foremost_of_in (holds_first rs) order outside (holding o) i (holder_in o i k)));
    first = λ o i k. subst (λ w. holds_first rs i w ≡ false) (sym (holder-is o)) (foremost_of-first (holds_first rs) order outside (holding o) i (holder_in o i k));
  }
    where
      order : Order (holds_first rs)
      order = holds_first-order rs

      opens : List ℕ
      opens = below (λ i. is_open_lem (ring_at rs i)) (length rs)

      same : (l : List ℕ) → map (λ i. i) l ≡ l
      same [] = refl
      same (x ∷ l) = ap (λ m. x ∷ m) (same l)

  -- the only ring that holds o and before which no other comes that does, where no two rings have one face number
  pub the_holder : ((i j : ℕ) → i < length rs → j < length rs → face_number_lem rs (ring_at rs i) ≡ face_number_lem rs (ring_at rs j) → i ≡ j)
      → (o : Ring) (b : ℕ) → Holder at g rs o b → ((i : ℕ) → Holder at g rs o i → holds_first rs i b ≡ false) → holder_of_lem at g rs o ≡ b
  the_holder apart o b k before =
      let h = holder_of_lem at g rs o in
      let held = hole_rules.held o b k in
      let u = then_false (lt_z (ring_at rs h).doubled (ring_at rs b).doubled) (lt_z (ring_at rs b).doubled (ring_at rs h).doubled) _ (before h held) in
      let v = then_false (lt_z (ring_at rs b).doubled (ring_at rs h).doubled) (lt_z (ring_at rs h).doubled (ring_at rs b).doubled) _ (hole_rules.first o b k) in
      apart h b held.low k.low (decides_nat (face_number_lem rs (ring_at rs h)) (face_number_lem rs (ring_at rs b)) (u.1 v.0) (v.1 u.0))
