-- The sides of a list of nodes that grows.
use Prim.Native.Nat.{ℕ}
use native.Mathlib.Omega.{arith}
use mathlib.Core.Path.{sym, subst}
use mathlib.Core.Logic.{⊎_elim}
use mathlib.Core.Bool.{Bool}
use mathlib.Core.List.{List, [], ◌∷◌, ◌++◌}
use lib.IntN.{ℤ}
use Rattle.lists.specs.Lists.{In}
use Rattle.rules.specs.Holes.{left_of}
use Rattle.inside.specs.Spots.{spot_in, NodesWithin}
use Rattle.corners.specs.Nodes.{FirstOf}
use Rattle.corners.specs.Boxes.{lower, higher, SidesWithin, Bounds, Widened, Outermost}
use Rattle.corners.specs.declared.boxes.Sides.{Sides}
use Rattle.corners.proofs.Fronts.{in_more, in_old, in_new}
use Rattle.corners.proofs.Firsts.{before_self, lower-order, higher-order}
use Rattle.corners.proofs.Lefts.{left-order}

-- the first of a member and a new one is a member of both
first_in : {before : ℕ → ℕ → Bool} (l : List ℕ) (a x r : ℕ) → FirstOf before a x r → In a l → In r (l ++ (x ∷ []))
first_in l a x r f m = ⊎_elim (λ e. subst (λ v. In v (l ++ (x ∷ []))) (sym e) (in_old a x l m)) (λ e. subst (λ v. In v (l ++ (x ∷ []))) (sym e) (in_new x l)) f.one

module _ (xs ys : List ℤ) where
  -- one node is its own box
  pub outermost_one : (x : ℕ) → Outermost xs ys (x ∷ []) (record { left = x; right = x; low = x; high = x })
  outermost_one x = record {
    left = in_new x [];
    right = in_new x [];
    low = in_new x [];
    high = in_new x [];
    bounds = λ n m. ⊎_elim (λ k. absurd (nothing n k)) (λ e. subst (λ v. Bounds xs ys (record { left = x; right = x; low = x; high = x }) v) (sym e) own) (in_more n x [] m);
  }
    where
      nothing : (n : ℕ) → In n [] → ⊥
      nothing n m = absurd (omega arith)

      own : Bounds xs ys (record { left = x; right = x; low = x; high = x }) x
      own = record {
        left = before_self (left_of (spot_in xs ys)) (left-order (spot_in xs ys)) x x x;
        right = before_self (higher xs) (higher-order xs) x x x;
        low = before_self (lower ys) (lower-order ys) x x x;
        high = before_self (higher ys) (higher-order ys) x x x;
      }

  module _ (l : List ℕ) (x : ℕ) (s t : Sides) (box : Outermost xs ys l s) (wider : Widened xs ys s x t) where
    -- what lay within still does
    within : (n : ℕ) → In n l → Bounds xs ys t n
    within n m = let b = box.bounds n m in record {
      left = (left-order (spot_in xs ys)).goes_on_lem n s.left t.left b.left wider.left.left;
      right = (higher-order xs).goes_on_lem n s.right t.right b.right wider.right.left;
      low = (lower-order ys).goes_on_lem n s.low t.low b.low wider.low.left;
      high = (higher-order ys).goes_on_lem n s.high t.high b.high wider.high.left;
    }

    -- and so does the new node
    new : Bounds xs ys t x
    new = record { left = wider.left.right; right = wider.right.right; low = wider.low.right; high = wider.high.right }

    -- the box of one node more
    pub outermost_more : Outermost xs ys (l ++ (x ∷ [])) t
    outermost_more = record {
      left = first_in l s.left x t.left wider.left box.left;
      right = first_in l s.right x t.right wider.right box.right;
      low = first_in l s.low x t.low wider.low box.low;
      high = first_in l s.high x t.high wider.high box.high;
      bounds = λ n m. ⊎_elim (within n) (λ e. subst (λ v. Bounds xs ys t v) (sym e) new) (in_more n x l m);
    }

  -- the sides are nodes
  pub sides-within : (l : List ℕ) (s : Sides) (m n : ℕ) → Outermost xs ys l s → NodesWithin l m → NodesWithin l n → SidesWithin s m n
  sides-within l s m n box a b = record {
    left = (a s.left box.left, b s.left box.left);
    right = a s.right box.right;
    low = b s.low box.low;
    high = b s.high box.high;
  }
