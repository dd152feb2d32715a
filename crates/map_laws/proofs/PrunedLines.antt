-- What pruning leaves of a sketch does not depend on the order.
use Prim.Native.Nat.{ℕ, ◌+◌, ◌*◌, ◌<◌, ◌≤◌}
use native.Mathlib.Omega.{arith}
use native.Mathlib.Nat.{zero-add}
use mathlib.Core.Path.{◌≡◌, refl, sym, ap, ◌∙◌}
use mathlib.Core.Bool.{Bool, true, false, not}
use mathlib.Core.List.{List, map}
use lib.ListN.{length, get_or}
use Rattle.lists.specs.Lists.{upto}
use Rattle.rules.specs.HalfEdge.{twin}
use Rattle.rules.specs.Counted.{unmarked, Stars, Counted}
use Rattle.map_laws.specs.AnyOrder.{touching, edges_of, PrunedAnyhow}
use Rattle.rules.specs.Limits.{Limits}
use Rattle.rules.specs.State.{State}
use Rattle.rules.specs.Sketch.{Sketch, no_line, line_of, origin_of, sketch_star, sketched, sketch_degree, sketch_prune}
use Rattle.rules.specs.Claim.{World}
use Rattle.lists.proofs.Counts.{true_is_false}
use Rattle.lists.proofs.Passing.{pick_agree}
use Rattle.rules.proofs.Twin.{twin-below, edge-first, edge-twin}
use Rattle.rules.proofs.Soundness.{Sound}
use Rattle.rules.proofs.Sketches.{Good, origin-first, origin-second, good-sane}
use Rattle.rules.proofs.Simple.{Simple}
use Rattle.rules.proofs.Following.{Tracks, remark-marked}
use Rattle.rules.proofs.FollowingPrune.{map-upto-at, map-upto-length, degree-is, sketch_pruning, sketch_prune-is}
use Rattle.rules.proofs.PrunedTables.{unmarked_any}
use Rattle.rules.proofs.Histories.{Together}
use Rattle.map_laws.proofs.AnyOrder.{same_any_order}
use Rattle.map_laws.proofs.PruneOrder.{touches_nodes, prune_any_order}

-- every point has a mark, and a marked one has no unmarked line
pub record Idle (k : Sketch) : Type 0 where
  pub room : length k.points ≤ length k.point_marks
  pub bare : (i : ℕ) → i < length k.points → get_or k.point_marks i false ≡ true → sketch_degree k i ≡ 0

-- a sketch that sound tables follow in stage 0 or 1 has nothing marked
pub tracks_idle : (l : Limits) (s : State) (k : Sketch) → Sound l s → s.stage ≤ 1 → Tracks s k → Idle k
tracks_idle l s k ok young t = record {
  room = omega (arith, t.nodes, t.room);
  bare = λ i q z.
      let low : i < s.nodes = omega (arith, t.nodes) in
      absurd (true_is_false (sym z ∙ sym (t.node_marks i low) ∙ unmarked_any s.node_mark i ((ok.new young).unmarked i low)));
}

-- the active half-edges of a sketch
active-is : (k : Sketch) (h : ℕ) → (sketched k).active h ≡ not (line_of k h).marked
unfolding sketched
active-is k h = refl

module _ (k : Sketch) (good : Good k) (simple : Simple k) (idle : Idle k) where
  -- how many points and lines there are, and the marks of half-edges as a table
  abbrev n : ℕ
  n = length k.points

  abbrev e : ℕ
  e = length k.lines

  abbrev marks : List Bool
  marks = map (λ h. (line_of k h).marked) (upto (2 * e))

  -- an entry of it
  marks-at : (h : ℕ) → h < 2 * e → get_or marks h true ≡ (line_of k h).marked
  marks-at h l = map-upto-at (λ i. (line_of k i).marked) (2 * e) h true l

  -- the stars of a sketch
  sketch-stars : Stars n e (sketch_star k) (origin_of k)
  unfolding sketched
  sketch-stars = let sane = good-sane k good in record { begins = sane.begins; has = sane.has; only = sane.only; once = sane.once }

  -- its tables count right
  sketch-counted : Counted n e (sketch_star k) (map (sketch_degree k) (upto n)) k.point_marks marks
  sketch-counted = record {
    degree_room = omega (arith, map-upto-length (sketch_degree k) n);
    node_room = idle.room;
    half_room = omega (arith, map-upto-length (λ h. (line_of k h).marked) (2 * e));
    counts = λ i l. map-upto-at (sketch_degree k) n i 0 l ∙ degree-is k i
        ∙ ap length (pick_agree (λ h. not (line_of k h).marked) (unmarked marks) (sketch_star k i) (λ h m. ap not (sym (marks-at h (sketch-stars.only i h l m).0))));
    idle = λ i l z. map-upto-at (sketch_degree k) n i 0 l ∙ idle.bare i l z;
    twins = λ h l. marks-at (twin h) (twin-below e h l) ∙ ap (λ i. (get_or k.lines i no_line).marked) (edge-twin h) ∙ sym (marks-at h l);
  }

  -- no line ends where it starts
  loopless : (i : ℕ) → i < e → origin_of k (2 * i) ≡ origin_of k (2 * i + 1) → ⊥
  loopless i l q = simple.loopless i l (sym (origin-first k i) ∙ q ∙ origin-second k i)

  -- the lines unmarked after pruning
  after_is : (i : ℕ) → i < e → edges_of (sketched (sketch_prune k)).active i ≡ edges_of (unmarked (sketch_pruning k).half_marks) i
  after_is i l =
      let m : ℕ → Bool = λ j. get_or (sketch_pruning k).half_marks (2 * j) true in
      active-is (sketch_prune k) (2 * i)
      ∙ ap not (ap (λ j. (get_or (sketch_prune k).lines j no_line).marked) (edge-first i)
      ∙ ap (λ r. (get_or r.lines i no_line).marked) (sketch_prune-is k)
      ∙ remark-marked m 0 k.lines i l ∙ ap m (zero-add i))

  -- pruning a sketch leaves what every order leaves
  pub sketch_any_order : PrunedAnyhow (sketched k) (sketched (sketch_prune k))
  unfolding sketched
  sketch_any_order = same_any_order e (touching (origin_of k)) n (touches_nodes n e (sketch_star k) (origin_of k) sketch-stars loopless)
      (edges_of (unmarked marks)) (edges_of (unmarked (sketch_pruning k).half_marks)) (edges_of (sketched k).active) (edges_of (sketched (sketch_prune k)).active)
      (λ i l. ap not (sym (marks-at (2 * i) (omega arith)))) (λ i l. sym (after_is i l))
      (prune_any_order n e (sketch_star k) (origin_of k) sketch-stars loopless (map (sketch_degree k) (upto n)) k.point_marks marks sketch-counted)

-- so it is with every sketch that calls make beside tables that are to be pruned
pub together_any_order : (l : Limits) (w : World) → Together w → Sound l w.state → w.state.stage ≤ 1
    → PrunedAnyhow (sketched w.sketch) (sketched (sketch_prune w.sketch))
together_any_order l w r ok young = sketch_any_order w.sketch r.good r.simple (tracks_idle l w.state w.sketch ok young r.tracks)
