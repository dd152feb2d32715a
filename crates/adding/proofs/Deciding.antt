-- What an addition comes to, from the tests that the code makes.
use Prim.Native.Nat.{ℕ, ◌*◌, ◌/◌, ◌<◌, ◌≤◌, min}
use native.Mathlib.Omega.{arith}
use mathlib.Core.Path.{◌≡◌, refl, sym, ap, ◌∙◌}
use mathlib.Core.Bool.{Bool, true, false}
use lib.Dec.{ltb}
use Rattle.geometry.specs.declared.Line3D.{Line3D}
use Rattle.rules.specs.Keys.{key_of}
use borrow.Author.Tests.{ltb-true, lt-ltb, le-ltb}
use Rattle.geometry.specs.Angle.{planar}
use Rattle.lists.proofs.Counts.{by_test, by_lt}
use Rattle.rotation.specs.Rotation.{key_same}
use Rattle.rules.specs.HalfEdge.{edge_of}
use Rattle.rules.specs.Limits.{Limits}
use Rattle.tables.specs.declared.Refusal.TheVariants.{NotWhole, SameNode}
use Rattle.std.specs.Prelude.{Err}
use Rattle.adding.specs.Decisions.{Decided, id_decision, room_decision, decision_by, ends_by}

module _ (l : Limits) (g : Line3D) (nodes edges u w h : ℕ) (known : Bool) (free : ℕ) where
  -- what the addition comes to
  abbrev decision : Decided
  decision = decision_by l g nodes edges u w h known free

  -- the test of number 2
  abbrev same : Bool
  same = key_same (key_of g.start.x g.start.y) (key_of g.end.x g.end.y)

  -- the start is no coordinate
  pub bad_start : planar l.bound g.start ≡ false → Err NotWhole ≡ decision
  unfolding decision_by
  bad_start e = rw e

  -- the end is none
  pub bad_end : planar l.bound g.start ≡ true → planar l.bound g.end ≡ false → Err NotWhole ≡ decision
  unfolding decision_by
  bad_end p e = rw (p, e)

  module _ (p : planar l.bound g.start ≡ true) (q : planar l.bound g.end ≡ true) where
    -- the ends have one key
    pub one-node : same ≡ true → Err SameNode ≡ decision
    unfolding decision_by
    one-node e = rw (p, q, e)

    -- an edge joins the ends
    pub joined : same ≡ false → h < 2 * edges → id_decision l (record { 0 = h / 2 }) known free ≡ decision
    unfolding decision_by edge_of
    joined e b = rw (p, q, e, lt-ltb h (2 * edges) b)

    -- none does
    pub apart : same ≡ false → 2 * edges ≤ h → room_decision l nodes edges free (ends_by nodes u w) ≡ decision
    unfolding decision_by
    apart e b = rw (p, q, e, le-ltb h (2 * edges) b)

-- ---- what a decision turns on

-- a place is in the table or not, also where it is told no higher than the table ends
min-below : (x n : ℕ) → ltb (min x n) n ≡ ltb x n
min-below x n = by_lt x n
    (λ h. lt-ltb (min x n) n (omega arith) ∙ sym (lt-ltb x n h))
    (λ h. le-ltb (min x n) n (omega arith) ∙ sym (le-ltb x n h))

module _ (l : Limits) (g : Line3D) (nodes edges u w h free : ℕ) where
  -- whether the id is known, only where an edge was found
  pub known-there : (a b : Bool) → (h < 2 * edges → a ≡ b) → decision_by l g nodes edges u w h a free ≡ decision_by l g nodes edges u w h b free
  unfolding decision_by
  known-there a b same = by_test (ltb h (2 * edges))
      (λ e. ap (λ z. decision_by l g nodes edges u w h z free) (same (ltb-true h (2 * edges) e)))
      (λ e. rw e refl)

  -- the free place, only where it is in the table
  pub free-within : (known : Bool) → decision_by l g nodes edges u w h known (min free l.pairs) ≡ decision_by l g nodes edges u w h known free
  unfolding decision_by
  free-within known = rw (min-below free l.pairs) refl
