-- Which of two nodes lies to the left, by x, then by y; and the leftmost of a list that grows.
use Prim.Native.Nat.{ℕ}
use native.Mathlib.Omega.{arith}
use mathlib.Core.Path.{◌≡◌, refl, sym, ◌∙◌, subst}
use mathlib.Core.Logic.{⊎_elim}
use mathlib.Core.Bool.{true, false}
use mathlib.Core.List.{List, [], ◌∷◌, ◌++◌}
use lib.Signed.{lt_z}
use Rattle.lists.specs.Lists.{In}
use Rattle.lists.proofs.Counts.{by_test}
use Rattle.geometry.specs.Angle.{Point}
use Rattle.std.specs.declared.option.Option.TheVariants.{None, Some}
use Rattle.rules.specs.Holes.{left_of}
use Rattle.rules.proofs.Orders.{Order, order_int, order_by, order_then}
use Rattle.corners.specs.Nodes.{FirstOf, Leftmost}
use Rattle.corners.proofs.Fronts.{in_more, in_old, in_new}

module _ (at : ℕ → Point) where
  -- that is an order
  pub left-order : Order (left_of at)
  left-order = order_then _ _ (order_by (λ n. (at n).x) lt_z order_int) (order_by (λ n. (at n).y) lt_z order_int)

  -- nothing lies to the left of itself
  pub left_self : (n : ℕ) → left_of at n n ≡ false
  left_self n = by_test (left_of at n n) (λ e. left-order.one_way n n e) (λ e. e)

  -- a lower x decides
  pub left_by_x : (m n : ℕ) → lt_z (at m).x (at n).x ≡ true → left_of at m n ≡ true
  left_by_x m n e = rw e refl

  -- so does a higher one
  pub right_by_x : (m n : ℕ) → lt_z (at n).x (at m).x ≡ true → left_of at m n ≡ false
  right_by_x m n e = rw (order_int.one_way (at n).x (at m).x e, e) refl

  -- where neither is lower, y decides
  pub by_y : (m n : ℕ) → lt_z (at m).x (at n).x ≡ false → lt_z (at n).x (at m).x ≡ false → left_of at m n ≡ lt_z (at m).y (at n).y
  by_y m n e f = rw (e, f) refl

  -- ---- the leftmost of a list with one node more

  -- no node is the leftmost of none
  pub leftmost-none : Leftmost at [] None
  leftmost-none w m = absurd (omega arith)

  module _ (l : List ℕ) (x : ℕ) where
    -- the first node is
    pub leftmost-first : Leftmost at l None → Leftmost at (l ++ (x ∷ [])) (Some x)
    leftmost-first empty = (
      in_new x l,
      λ w m. ⊎_elim (λ k. absurd (empty w k)) (λ f. subst (λ v. left_of at v x ≡ false) (sym f) (left_self x)) (in_more w x l m),
    )

    -- otherwise the one of the two to whose left neither lies
    pub leftmost_of_two : (n r : ℕ) → Leftmost at l (Some n) → FirstOf (left_of at) n x r → Leftmost at (l ++ (x ∷ [])) (Some r)
    leftmost_of_two n r left f = (
      ⊎_elim (λ g. subst (λ v. In v (l ++ (x ∷ []))) (sym g) (in_old n x l left.0)) (λ g. subst (λ v. In v (l ++ (x ∷ []))) (sym g) (in_new x l)) f.one,
      λ w m. ⊎_elim (λ k. left-order.goes_on_lem w n r (left.1 w k) f.left) (λ g. subst (λ v. left_of at v r ≡ false) (sym g) f.right) (in_more w x l m),
    )
