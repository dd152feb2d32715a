-- An addition to a graph that passes 6, 7 and 5, by a segment that passes 1 and 2, comes to what the search and the tests behind it say.
use Prim.Native.Nat.{ℕ, ◌+◌, ◌*◌}
use mathlib.Core.Path.{◌≡◌, ◌∙◌}
use mathlib.Core.Bool.{Bool, true, cond, ◌&&◌, ◌||◌, not}
use lib.Dec.{eqb, ltb, leb}
use borrow.Author.Tests.{eq-eqb, not-true}
use Rattle.geometry.specs.Angle.{planar}
use Rattle.geometry.specs.declared.Line3D.{Line3D}
use Rattle.lists.proofs.Tests.{both}
use Rattle.rotation.specs.Rotation.{key_same}
use Rattle.rules.specs.Limits.{Limits}
use Rattle.rules.specs.LineIds.{lowest_free}
use Rattle.rules.specs.State.{State, roomy, sound}
use Rattle.rules.specs.Adding.{Outcome, demand, Added, Nothing, add}
use Rattle.rules.proofs.AddCases.{start_key, end_key, nu, nv, half, used, known, Tested, found, made}
use Rattle.rules.proofs.NodeSound.{Steady}
use Rattle.rules.proofs.AddingSound.{steady_tests}
use Rattle.rules.proofs.Going.{demand-is}
use Rattle.older_station.specs.Drawing.{sound_segment}

module _ (g : Line3D) (s : State) where
  -- the edge is found
  abbrev pub there : Bool
  there = ltb (half g s) (2 * s.edges)

  -- how many nodes there are with the new ends
  abbrev pub nodes_with : ℕ
  nodes_with = s.nodes + (cond (nu g s) 1 0 + cond (nv g s) 1 0)

module _ (l : Limits) (g : Line3D) (s : State) where
  -- a pair is free
  abbrev pub free : Bool
  free = ltb (lowest_free (used l g s)) l.pairs

  -- an edge that is found gets the id, after 12 where it lacks it
  abbrev pub on_found : Outcome Added Nothing
  on_found = demand (known l g s || free) 12 s (record {}) (found l g s)

  -- a new one is made after 12
  abbrev pub on_new : Outcome Added Nothing
  on_new = demand free 12 s (record {}) (made l g s)

-- either of them, the new one after 3 and 4
abbrev pub either : State → Outcome Added Nothing → Outcome Added Nothing → Bool → Bool → Bool → Outcome Added Nothing
either s old new there nodes edges = cond there old (demand nodes 3 s (record {}) (demand edges 4 s (record {}) new))

module _ (l : Limits) (g : Line3D) (s : State) (t : Steady l s) (h : sound_segment l.bound g ≡ true) where
  -- the tests of an addition up to 2 pass
  pub tested : Tested l g s
  tested =
      let p = both (planar l.bound g.start && planar l.bound g.end) (not (key_same (start_key g s) (end_key g s))) h in
      let w = both (planar l.bound g.start) (planar l.bound g.end) p.0 in
      record { room = t.room; ok = t.sense; young = t.young; whole_start = w.0; whole_end = w.1; differ = not-true _ p.1 }

  -- so it comes to the rest
  pub add_searched : add l g s ≡ either s (on_found l g s) (on_new l g s) (there g s) (leb (nodes_with g s) l.nodes) (ltb s.edges l.edges)
  unfolding add
  add_searched =
      let none : Nothing = record {} in
      let q = steady_tests l s t in
      let p = both (planar l.bound g.start && planar l.bound g.end) (not (key_same (start_key g s) (end_key g s))) h in
      demand-is (roomy l s) 6 s none _ q.0
      ∙ demand-is (sound l s) 7 s none _ q.1
      ∙ demand-is (eqb s.stage 0) 5 s none _ (eq-eqb s.stage 0 q.2)
      ∙ demand-is (planar l.bound g.start && planar l.bound g.end) 1 s none _ p.0
      ∙ demand-is (not (key_same (start_key g s) (end_key g s))) 2 s none _ p.1
