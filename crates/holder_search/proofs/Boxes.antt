-- A ring that holds an open one has the open one's leftmost node in its box, whichever way it is slanted.
use Prim.Native.Nat.{ℕ, ◌<◌}
use native.Mathlib.Omega.{arith}
use mathlib.Core.Path.{◌≡◌, refl, sym, ap, ◌∙◌}
use mathlib.Core.Bool.{true, false}
use mathlib.Core.Logic.{⊎_elim}
use mathlib.Core.List.{List}
use lib.ListN.{get_or}
use lib.IntN.{ℤ, pos}
use lib.Signed.{lt_z, le_z}
use Rattle.lists.specs.Lists.{In, member}
use Rattle.lists.proofs.Counts.{by_test, true_is_false}
use Rattle.geometry.specs.Angle.{Point}
use Rattle.geometry.proofs.Integers.{le_le_z, le_z_true, lt_z_true, lt_z_false}
use borrow.Author.Tests.{ltb-true}
use Rattle.rules.specs.Cycles.{Arrangement}
use Rattle.rules.specs.Claim.{Joined}
use Rattle.rules.specs.Holes.{ring_nodes}
use Rattle.rules.proofs.Values.{in_map}
use Rattle.inside.specs.Spots.{spot_in, NodesWithin}
use Rattle.inside.proofs.Standing.{walk_inside}
use Rattle.candidates.specs.Candidates.{number_at, in_box_lem, Bounds, Boxed}
use Rattle.holding.specs.Holding.{inside_by, holds_by_lem, Corner}
use Rattle.views.specs.Views.{slope_of, Slanted}
use Rattle.views.proofs.Beside as boxes
use Rattle.views.proofs.Beside.{closed-ends}
use Rattle.views.proofs.Slants.{slant, inside-slanted}
use Rattle.holding.proofs.TestPoints.{corner_decides, none_free}

-- not below is above or level
at_least : (a b : ℤ) → lt_z a b ≡ false → le_z b a ≡ true
at_least a b e = le_le_z b a (omega (arith, lt_z_false a b e))

-- and the other way
not_less : (a b : ℤ) → le_z b a ≡ true → lt_z a b ≡ false
not_less a b e = by_test (lt_z a b) (λ f. absurd (omega (arith, le_z_true b a e, lt_z_true a b f))) (λ f. f)

module _ (slope : ℕ) (xs ys along numbers : List ℤ) (j bound : ℕ) (slanted : Slanted slope xs ys bound along) where
  abbrev at : ℕ → Point
  at = spot_in xs ys

  -- the box of candidate j, as the rules say it
  abbrev Box : Point → Type 0
  Box = boxes.Boxed (number_at numbers j 0) (number_at numbers j 1) (number_at numbers j 2) (number_at numbers j 3)

  -- a node of the ring lies in it, in the slanted view
  node_in : (nodes : List ℕ) → Bounds along ys numbers j nodes → (n : ℕ) → In n nodes → n < bound → Box (slant (slope_of slope) (at n))
  node_in nodes b n m low = record {
    left = at_least (slant (slope_of slope) (at n)).x (number_at numbers j 0) (ap (λ z. lt_z z (number_at numbers j 0)) (sym (slanted n low)) ∙ b.low_x n m);
    right = at_least (number_at numbers j 1) (slant (slope_of slope) (at n)).x (ap (lt_z (number_at numbers j 1)) (sym (slanted n low)) ∙ b.high_x n m);
    low = at_least (get_or ys n (pos 0)) (number_at numbers j 2) (b.low_y n m);
    high = at_least (number_at numbers j 3) (get_or ys n (pos 0)) (b.high_y n m);
  }

  -- what lies in it passes the test
  passes : (q : Point) → Box q → in_box_lem numbers j q.x q.y ≡ true
  passes q b = rw (not_less q.x (number_at numbers j 0) b.left, not_less (number_at numbers j 1) q.x b.right, not_less q.y (number_at numbers j 2) b.low, not_less (number_at numbers j 3) q.y b.high) refl

  module _ (g : Arrangement) (ring inner : List ℕ) (joined : Joined g (get_or ring 0 0) ring) (within : NodesWithin (ring_nodes g ring) bound) (p : ℕ) (corner : Corner xs ys inner p) where
    module _ (box : Bounds along ys numbers j (ring_nodes g ring)) where
      -- the ring's own corners are in its box
      ends : boxes.Ends at g ring (λ q. Box (slant (slope_of slope) q))
      ends = closed-ends at g ring (λ q. Box (slant (slope_of slope) q)) joined
          (λ h m. let k = in_map (λ i. g.origin i) ring h m in node_in (ring_nodes g ring) box (g.origin h) k (within (g.origin h) k))

      held_in-bounds : holds_by_lem at (ring_nodes g ring) inner ≡ true → in_box_lem numbers j (slant (slope_of slope) (at p)).x (at p).y ≡ true
      held_in-bounds h = by_test (member p (ring_nodes g ring))
          (λ e. let m = ltb-true 0 _ e in passes (slant (slope_of slope) (at p)) (node_in (ring_nodes g ring) box p m (within p m)))
          (λ e.
          let held : inside_by at (ring_nodes g ring) (at p) ≡ true = sym (corner_decides xs ys (ring_nodes g ring) inner p corner e) ∙ h in
          passes (slant (slope_of slope) (at p)) (inside-slanted (slope_of slope) at g ring (at p) _ _ _ _ joined ends (sym (walk_inside at (at p) g ring joined) ∙ held)))

    -- a ring that passes every node leaves no node of the open one free
    pub held_in-box : (d : ℤ) → Boxed along ys bound numbers j (ring_nodes g ring) d → NodesWithin inner bound
        → holds_by_lem at (ring_nodes g ring) inner ≡ true → in_box_lem numbers j (slant (slope_of slope) (at p)).x (at p).y ≡ true
    held_in-box d b low h = ⊎_elim (λ all. absurd (true_is_false (sym h ∙ none_free at (ring_nodes g ring) inner (λ n m. all n (low n m))))) (λ k. held_in-bounds k h) b.box
