-- The leftmost of the nodes without a ring's stamp lies where the test point of the rules does.
use Prim.Native.Nat.{ℕ, ◌<◌}
use native.Mathlib.Omega.{arith}
use mathlib.Core.Path.{◌≡◌, refl, sym, ap, ap₂, ◌∙◌}
use mathlib.Core.Bool.{true, false, cond, not, ◌&&◌}
use mathlib.Core.List.{List, [], ◌∷◌}
use lib.ListN.{length, get_or}
use lib.Dec.{eqb}
use lib.IntN.{ℤ}
use lib.Signed.{lt_z}
use borrow.Author.Tests.{eq-eqb, ne_eqb, lt-ltb, ltb-true}
use Rattle.lists.specs.Lists.{In, last_of, member, count_of}
use Rattle.lists.proofs.Counts.{by_test, in_head, true_is_false}
use Rattle.lists.proofs.Members.{in_pick, pick_in}
use Rattle.lists.proofs.Passing.{pick_agree}
use Rattle.geometry.specs.Angle.{Point}
use Rattle.rules.specs.Euler.{some_of_lem}
use Rattle.std.specs.declared.option.Option.TheVariants.{None, Some}
use Rattle.rules.specs.Holes.{left_of, foremost_of}
use Rattle.rules.proofs.Orders.{then_false, decides_int}
use Rattle.rules.proofs.HoleLaws.{foremost_of_in, foremost_of-first}
use Rattle.corners.specs.Nodes.{Stamped, unstamped, Leftmost}
use Rattle.corners.proofs.Lefts.{left-order}
use Rattle.holding.specs.Holding.{free, inside_by, holds_by_lem, Corner}
use Rattle.inside.specs.Spots.{spot_in, NodesWithin}
use Rattle.inside.specs.Standing.{stands_from, is_inside}
use Rattle.inside.specs.declared.rings.Stands.{Stands}
use Rattle.inside.specs.declared.rings.Stands.TheVariants.{OnRing}
use Rattle.inside.proofs.Standing.{walk_on}

module _ (at : ℕ → Point) where
  -- two nodes of which neither lies to the left of the other lie at one place
  pub level : (m n : ℕ) → left_of at m n ≡ false → left_of at n m ≡ false → at m ≡ at n
  level m n e f =
      let u = then_false (lt_z (at m).x (at n).x) (lt_z (at n).x (at m).x) (lt_z (at m).y (at n).y) e in
      let v = then_false (lt_z (at n).x (at m).x) (lt_z (at m).x (at n).x) (lt_z (at n).y (at m).y) f in
      let x = decides_int (at m).x (at n).x u.0 v.0 in
      let y = decides_int (at m).y (at n).y (u.1 v.0) (v.1 u.0) in
      λ i. record { x = x i; y = y i }

  -- a member makes a list some
  some_in : (l : List ℕ) (w : ℕ) → In w l → some_of_lem l ≡ true
  some_in [] w m = absurd (omega arith)
  some_in (x ∷ l) w m = refl

  -- no member makes it none
  none_in : (l : List ℕ) → ((w : ℕ) → In w l → ⊥) → some_of_lem l ≡ false
  none_in [] f = refl
  none_in (x ∷ l) f = absurd (f x (in_head x x l refl))

  -- a ring that passes all nodes of another leaves none free, and does not hold it
  pub none_free : (passed inner : List ℕ) → ((n : ℕ) → In n inner → In n passed) → holds_by_lem at passed inner ≡ false
  none_free passed inner all =
      let none = none_in (free passed inner) (λ w m.
      let k = pick_in (λ n. not (member n passed)) w inner m in
      true_is_false (sym k.1 ∙ ap not (lt-ltb 0 (count_of w passed) (all w k.0)))) in
      ap (λ s. s && inside_by at passed (at (foremost_of (left_of at) 0 (free passed inner)))) none

  -- where there is no leftmost, there is no test point
  pub no_point_lem : (l : List ℕ) → Leftmost at l None → some_of_lem l ≡ false
  no_point_lem l empty = none_in l empty

  module _ (l : List ℕ) (n : ℕ) (left : Leftmost at l (Some n)) where
    -- where there is one, it lies where the foremost does
    pub some-point : some_of_lem l ≡ true
    some-point = some_in l n left.0

    pub same_point : at n ≡ at (foremost_of (left_of at) 0 l)
    same_point =
        level n (foremost_of (left_of at) 0 l) (foremost_of-first (left_of at) (left-order at) 0 l n left.0) (left.1 (foremost_of (left_of at) 0 l) (foremost_of_in (left_of at) (left-order at) 0 l n left.0))

-- ---- the corner, where the ring does not pass it

module _ (xs ys : List ℤ) (passed inner : List ℕ) (p : ℕ) (corner : Corner xs ys inner p) where
  abbrev spots : ℕ → Point
  spots = spot_in xs ys

  -- then it is one of those among which the test point is looked for, and lies where that does
  pub corner_decides : member p passed ≡ false → holds_by_lem spots passed inner ≡ inside_by spots passed (spots p)
  corner_decides e =
      let l = free passed inner in
      let t = foremost_of (left_of spots) 0 l in
      let m : In p l = in_pick (λ n. not (member n passed)) p inner corner.one (ap not e) in
      let k = foremost_of_in (left_of spots) (left-order spots) 0 l p m in
      let same : spots t ≡ spots p =
      level spots t p (corner.first t (pick_in (λ n. not (member n passed)) t inner k).0) (foremost_of-first (left_of spots) (left-order spots) 0 l p m) in
      ap₂ (λ s q. s && inside_by spots passed q) (some_in spots l p m) same

  -- so the way that the corner stands to the ring decides, unless it is on it
  pub corner_stands : (r : Stands) → stands_from spots (spots p) false (last_of 0 passed) passed ≡ r → (r ≡ OnRing → ⊥) → holds_by_lem spots passed inner ≡ is_inside r
  corner_stands r e off = by_test (member p passed)
      (λ t. absurd (off (sym e ∙ walk_on spots (spots p) false (last_of 0 passed) passed p (ltb-true 0 _ t) refl)))
      (λ f. corner_decides f ∙ ap is_inside e)

-- after a ring's nodes got its stamp, those without it are those that the ring does not pass
pub unstamped-free : (outer inner : List ℕ) (stamp : ℕ) (before after : List ℕ) → Stamped outer stamp before after → ((n : ℕ) → get_or before n 0 ≡ stamp → In n outer)
    → NodesWithin inner (length before) → unstamped stamp after inner ≡ free outer inner
unstamped-free outer inner stamp before after s fresh within = pick_agree _ _ inner (λ n m. ap not (test n (within n m)))
  where
    test : (n : ℕ) → n < length before → eqb (get_or after n 0) stamp ≡ member n outer
    test n low = by_test (member n outer)
        (λ e. eq-eqb (get_or after n 0) stamp (s.each n low ∙ ap (λ b. cond b stamp (get_or before n 0)) e) ∙ sym e)
        (λ e. ne_eqb (get_or after n 0) stamp (λ f.
        let old : get_or before n 0 ≡ stamp = sym (s.each n low ∙ ap (λ b. cond b stamp (get_or before n 0)) e) ∙ f in
        true_is_false (sym (lt-ltb 0 (count_of n outer) (fresh n old)) ∙ e)) ∙ sym e)
