-- An addition: the tables and the sketch find the same ends and the same edge, and grow alike.
use Prim.Native.Nat.{ℕ, suc, ◌+◌, ◌<◌, ◌≤◌, ◌^◌}
use native.Mathlib.Omega.{arith}
use mathlib.Core.Path.{◌≡◌, refl, sym, ap, ap₂, subst, ◌∙◌}
use mathlib.Core.Logic.{inl, inr}
use mathlib.Core.Bool.{Bool, true, false, cond, ◌&&◌}
use lib.Dec.{eqb}
use lib.ListN.{length, get_or, length-set}
use lib.Ieee.{Float, nan}
use borrow.Author.Tests.{eqb-true, ne_eqb}
use Rattle.lists.specs.Lists.{upto, first_where}
use Rattle.geometry.specs.Coordinate.{coordinate}
use Rattle.rules.specs.Keys.{key_of}
use Rattle.rotation.specs.Rotation.{key_same}
use Rattle.geometry.specs.Angle.{Point, planar, point_of_coord}
use Rattle.rules.specs.Limits.{Limits}
use Rattle.rules.specs.State.{State, star_of, point_of, node_key, sound_coordinates}
use Rattle.geometry.specs.declared.Coord3D.{Coord3D}
use Rattle.geometry.specs.declared.Line3D.{Line3D}
use Rattle.rules.specs.Adding.{Outcome, demand, find_node_lem, with_node, with_edge, with_id}
use Rattle.rules.specs.Sketch.{Sketch, no_line, point_at_lem, Call, same_point_lem, find_point, with_point, have_point, joins, with_line, sketch_add, feed}
use Rattle.rules.specs.Claim.{is_refused}
use Rattle.lists.proofs.Counts.{by_test, true_is_false}
use Rattle.lists.proofs.Tests.{both}
use Rattle.rules.proofs.Soundness.{Sound}
use Rattle.rules.proofs.Sketches.{Good}
use Rattle.rules.proofs.SketchCalls.{upto-below, find_is, Has, has_find, has_more, has_had, have_is}
use Rattle.rules.proofs.AddCases.{u, w, nu, nv, v, s₂, Tested, New}
use Rattle.rules.proofs.Following.{Tracks}
use Rattle.rules.proofs.Finding.{first-same, find_hit}
use Rattle.rules.proofs.Growing.{tracks_node, tracks_edge}
use Rattle.rules.proofs.Joining.{ends_of, Between, joins-line, simple_point, simple_line}
use Rattle.rules.proofs.Simple.{Simple}
use Rattle.rules.proofs.PointLaws.{same_point_self, same_point}
use Rattle.rules.specs.Keys.{Is64}
use Rattle.rules.specs.Claim.{Given64}
use Rattle.rules.proofs.PointLaws.{keys_name}

-- the state after a call, and the sketch fed with it, go on together
pub record Fits {A L : Type 0} (c : Call) (k : Sketch) (o : Outcome A L) : Type 0 where
  pub tracks : Tracks o.state (feed (is_refused o.reply) c k)
  pub simple : Simple (feed (is_refused o.reply) c k)

-- a refusal changes neither
pub demand-fits : {A L : Type 0} (c : Call) (k : Sketch) (b : Bool) (n : ℕ) (s : State) (lists : L) (o : Outcome A L) → Tracks s k → Simple k
    → (b ≡ true → Fits c k o) → Fits c k (demand b n s lists o)
unfolding feed
demand-fits c k true n s lists o t simple h = h refl
demand-fits c k false n s lists o t simple h = record { tracks = t; simple = simple }

-- ---- finding the ends

-- the search of the nodes
find_node-is : (s : State) (x y : Float) → find_node_lem s (key_of x y) ≡ first_where (λ n. key_same (node_key s n) (key_of x y)) s.nodes (upto s.nodes)
unfolding find_node_lem
find_node-is s x y = refl

-- both stored coordinates are whole numbers within the bound
pub coordinates_both : (l : Limits) (s : State) (n : ℕ) → sound_coordinates l s n ≡ true
    → (coordinate l.bound (get_or s.node_x n nan) ≡ true) × (coordinate l.bound (get_or s.node_y n nan) ≡ true)
unfolding sound_coordinates
coordinates_both l s n e = both (coordinate l.bound (get_or s.node_x n nan)) (coordinate l.bound (get_or s.node_y n nan)) e

module _ (l : Limits) (fine : l.bound ≤ 2 ^ 53) where
  -- a key is a node's where the point is
  key-point : (s : State) → Sound l s → (c : Coord3D) → Is64 c.x × Is64 c.y → planar l.bound c ≡ true → (n : ℕ) → n < s.nodes → Is64 (get_or s.node_x n nan) × Is64 (get_or s.node_y n nan)
      → key_same (node_key s n) (key_of c.x c.y) ≡ same_point_lem (point_of s n) (point_of_coord c)
  unfolding node_key point_of point_of_coord planar
  key-point s ok c real whole n q stored =
      let m = coordinates_both l s n (ok.coordinates n q) in
      let w = both (coordinate l.bound c.x) (coordinate l.bound c.y) whole in
      keys_name l.bound fine (get_or s.node_x n nan) (get_or s.node_y n nan) c.x c.y stored.0 stored.1 real.0 real.1 m.0 m.1 w.0 w.1

  -- the tables and the sketch find the same node
  find-node : (s : State) (k : Sketch) → Sound l s → Tracks s k → (c : Coord3D) → Is64 c.x × Is64 c.y → planar l.bound c ≡ true → find_node_lem s (key_of c.x c.y) ≡ find_point k (point_of_coord c)
  find-node s k ok t c real whole =
      find_node-is s c.x c.y
      ∙ first-same _ (λ n. same_point_lem (point_at_lem k n) (point_of_coord c)) s.nodes (upto s.nodes) (λ n m.
      let q = upto-below s.nodes n m in
      key-point s ok c real whole n q (t.stored n q) ∙ ap (λ z. same_point_lem z (point_of_coord c)) (t.points n q))
      ∙ ap (λ m. first_where (λ n. same_point_lem (point_at_lem k n) (point_of_coord c)) m (upto m)) t.nodes
      ∙ sym (find_is k (point_of_coord c))

  -- different keys, different points
  ends-differ : (a b : Coord3D) → Is64 a.x × Is64 a.y → Is64 b.x × Is64 b.y → planar l.bound a ≡ true → planar l.bound b ≡ true → key_same (key_of a.x a.y) (key_of b.x b.y) ≡ false
      → same_point_lem (point_of_coord a) (point_of_coord b) ≡ false
  unfolding point_of_coord planar
  ends-differ a b ra rb wa wb e =
      let p = both (coordinate l.bound a.x) (coordinate l.bound a.y) wa in
      let q = both (coordinate l.bound b.x) (coordinate l.bound b.y) wb in
      sym (keys_name l.bound fine a.x a.y b.x b.y ra.0 ra.1 rb.0 rb.1 p.0 p.1 q.0 q.1) ∙ e

-- ---- up to two nodes more

module _ (s : State) (k : Sketch) (a b : Coord3D) (t : Tracks s k) (ra : Is64 a.x × Is64 a.y) (rb : Is64 b.x × Is64 b.y) (young : s.stage ≡ 0) where
  -- the tables with the nodes that are new
  pub grown : (nu nv : Bool) (u w : ℕ) → (nu ≡ true → u ≡ s.nodes) → (nv ≡ true → w ≡ s.nodes)
      → s.nodes + (cond nu 1 0 + cond nv 1 0) ≤ length s.node_x → s.nodes + (cond nu 1 0 + cond nv 1 0) ≤ length s.node_y → s.nodes + (cond nu 1 0 + cond nv 1 0) ≤ length s.node_mark
      → Tracks (with_node nv (cond (nu && nv) (suc s.nodes) w) b (with_node nu u a s)) (with_point nv (point_of_coord b) (with_point nu (point_of_coord a) k))
  grown true true u w eu ew rx ry rm =
      let s₁ = with_node true s.nodes a s in
      let t₁ = tracks_node s k a t ra young (omega arith) (omega arith) (omega arith) in
      subst (λ z. Tracks (with_node true (suc s.nodes) b (with_node true z a s)) (with_point true (point_of_coord b) (with_point true (point_of_coord a) k))) (sym (eu refl))
      (tracks_node s₁ (with_point true (point_of_coord a) k) b t₁ rb young
      (omega (arith, length-set s.node_x s.nodes a.x)) (omega (arith, length-set s.node_y s.nodes a.y)) (omega (arith, length-set s.node_mark s.nodes false)))
  grown true false u w eu ew rx ry rm =
      subst (λ z. Tracks (with_node true z a s) (with_point true (point_of_coord a) k)) (sym (eu refl)) (tracks_node s k a t ra young (omega arith) (omega arith) (omega arith))
  grown false true u w eu ew rx ry rm =
      subst (λ z. Tracks (with_node true z b s) (with_point true (point_of_coord b) k)) (sym (ew refl)) (tracks_node s k b t rb young (omega arith) (omega arith) (omega arith))
  grown false false u w eu ew rx ry rm = t

-- an id more is nothing that a sketch has
pub tracks_id : (known : Bool) (pairs e i p : ℕ) (s : State) (k : Sketch) → Tracks s k → Tracks (with_id known pairs e i p s) k
unfolding point_of star_of
tracks_id true pairs e i p s k t = t
tracks_id false pairs e i p s k t = record {
  nodes = t.nodes;
  edges = t.edges;
  points = t.points;
  stored = t.stored;
  origins = t.origins;
  marks = t.marks;
  node_marks = t.node_marks;
  room = t.room;
  stars = t.stars;
}

-- what a node more does not touch
kept : (b : Bool) (n : ℕ) (c : Coord3D) (s : State)
    → ((with_node b n c s).stage ≡ s.stage) × ((with_node b n c s).edges ≡ s.edges) × ((with_node b n c s).source ≡ s.source) × ((with_node b n c s).half_mark ≡ s.half_mark)
kept true n c s = (refl, refl, refl, refl)
kept false n c s = (refl, refl, refl, refl)

-- a point more leaves the lines
lines-kept : (b : Bool) (p : Point) (k : Sketch) → (with_point b p k).lines ≡ k.lines
lines-kept true p k = refl
lines-kept false p k = refl

-- looking for a point keeps a sketch simple
simple_have : (p : Point) (k : Sketch) → Simple k → Simple (have_point p k)
simple_have p k simple = rw (have_is p k) (by_test (eqb (find_point k p) (length k.points))
    (λ e. rw e (simple_point k p simple (eqb-true (find_point k p) (length k.points) e)))
    (λ e. rw e simple))

-- ---- the addition

module _ (g : Line3D) (s : State) where
  -- where the ends lie
  abbrev pub P : Point
  P = point_of_coord g.start

  -- and the end
  abbrev pub Q : Point
  Q = point_of_coord g.end

  module _ (l : Limits) (k : Sketch) (fine : l.bound ≤ 2 ^ 53) (real : Given64 g) (good : Good k) (simple : Simple k) (t : Tracks s k) (d : Tested l g s) where
    -- the sketch with both ends
    abbrev pub k₂ : Sketch
    k₂ = with_point (nv g s) Q (with_point (nu g s) P k)

    -- the ends are different points
    apart : same_point_lem P Q ≡ false
    apart = ends-differ l fine g.start g.end real.0 real.1 d.whole_start d.whole_end d.differ

    -- both find the start alike
    found_u : (u g s) ≡ find_point k P
    found_u = find-node l fine s k d.ok t g.start real.0 d.whole_start

    -- and the end
    found_w : (w g s) ≡ find_point k Q
    found_w = find-node l fine s k d.ok t g.end real.1 d.whole_end

    -- where the sketch finds the ends
    both_ends : (have_point Q (have_point P k) ≡ k₂) × (find_point k₂ P ≡ (u g s)) × (find_point k₂ Q ≡ (v g s))
    both_ends =
        let r = ends_of k P Q apart (nu g s) (nv g s) (ap₂ eqb (sym found_u) (sym t.nodes)) (ap₂ eqb (sym found_w) (sym t.nodes)) in
        (r.0, r.1 ∙ sym found_u, r.2 ∙ ap₂ (cond ((nu g s) && (nv g s))) (ap suc (sym t.nodes)) (sym found_w))

    -- the ends leave the lines
    lines_of : k₂.lines ≡ k.lines
    lines_of = lines-kept (nv g s) Q (with_point (nu g s) P k) ∙ lines-kept (nu g s) P k

    -- what the addition does to the sketch
    pub sketch-is : sketch_add g k ≡ with_line (joins (u g s) (v g s) k.lines) (u g s) (v g s) k₂
    unfolding sketch_add
    sketch-is =
        ap (λ z. with_line (joins (find_point z P) (find_point z Q) z.lines) (find_point z P) (find_point z Q) z) both_ends.0
        ∙ ap₂ (λ a b. with_line (joins a b k₂.lines) a b k₂) both_ends.1 both_ends.2
        ∙ ap (λ ls. with_line (joins (u g s) (v g s) ls) (u g s) (v g s) k₂) lines_of

    -- an edge is there: so are its ends, and nothing changes
    old-ends : joins (u g s) (v g s) k.lines ≡ true → ((u g s) < s.nodes) × ((v g s) < s.nodes)
    old-ends j = let r = joins-line (u g s) (v g s) k.lines j in go r.0 r.1 r.2
      where
        go : (i : ℕ) → i < length k.lines → Between (get_or k.lines i no_line) (u g s) (v g s) → ((u g s) < s.nodes) × ((v g s) < s.nodes)
        go i q (inl e) = (omega (arith, good.from i q, t.nodes), omega (arith, good.to i q, t.nodes))
        go i q (inr e) = (omega (arith, good.to i q, t.nodes), omega (arith, good.from i q, t.nodes))

    -- then the sketch stays as it is
    pub old-sketch : joins (u g s) (v g s) k.lines ≡ true → sketch_add g k ≡ k
    old-sketch j =
        let o = old-ends j in
        let a : (nu g s) ≡ false = ne_eqb (u g s) s.nodes (λ e. omega arith) in
        let b : (nv g s) ≡ false = by_test (nv g s)
        (λ e.
        let c : (v g s) ≡ (w g s) = ap (λ z. cond (z && (nv g s)) (suc s.nodes) (w g s)) a in
        absurd (omega (arith, eqb-true (w g s) s.nodes e)))
        (λ e. e) in
        sketch-is ∙ ap (λ z. with_line z (u g s) (v g s) k₂) j ∙ ap₂ (λ x y. with_point y Q (with_point x P k)) a b

    -- the ends are different points
    new-ends : (u g s) ≡ (v g s) → ⊥
    new-ends e =
        let k₁ = have_point P k in
        let hp : Has k₂ P = subst (λ z. Has z P) both_ends.0 (rw (have_is Q k₁) (has_more k₁ (eqb (find_point k₁ Q) (length k₁.points)) P Q (has_had P k))) in
        let hq : Has k₂ Q = subst (λ z. Has z Q) both_ends.0 (has_had Q k₁) in
        let a : point_at_lem k₂ (u g s) ≡ P = ap (point_at_lem k₂) (sym both_ends.1) ∙ same_point (point_at_lem k₂ (find_point k₂ P)) P (find_hit k₂ P (has_find k₂ P hp)) in
        let b : point_at_lem k₂ (v g s) ≡ Q = ap (point_at_lem k₂) (sym both_ends.2) ∙ same_point (point_at_lem k₂ (find_point k₂ Q)) Q (find_hit k₂ Q (has_find k₂ Q hq)) in
        let c : P ≡ Q = sym a ∙ ap (point_at_lem k₂) e ∙ b in
        true_is_false (sym (same_point_self P) ∙ ap (same_point_lem P) c ∙ apart)

    -- a new line leaves the sketch simple
    pub new_simple : joins (u g s) (v g s) k.lines ≡ false → Simple (with_line false (u g s) (v g s) k₂)
    new_simple j =
        simple_line k₂ (u g s) (v g s) (subst Simple both_ends.0 (simple_have Q (have_point P k) (simple_have P k simple))) new-ends (ap (joins (u g s) (v g s)) lines_of ∙ j)

    -- new nodes and a new edge, in tables and sketch
    pub new_tracks : New l g s → (p : ℕ) → Tracks (with_edge (u g s) (v g s) p g (s₂ g s)) (with_line false (u g s) (v g s) k₂)
    new_tracks new p =
        let n = new.nodes in
        let e = new.edges in
        let x = kept (nv g s) (v g s) g.end (with_node (nu g s) (u g s) g.start s) in
        let y = kept (nu g s) (u g s) g.start s in
        let edges : (s₂ g s).edges ≡ s.edges = x.1 ∙ y.1 in
        tracks_edge (s₂ g s) k₂ (u g s) (v g s) p g
        (grown s k g.start g.end t real.0 real.1 d.young (nu g s) (nv g s) (u g s) (w g s) (eqb-true (u g s) s.nodes) (eqb-true (w g s) s.nodes)
        (omega (arith, d.room.node_x)) (omega (arith, d.room.node_y)) (omega (arith, d.room.node_mark)))
        (x.0 ∙ y.0 ∙ d.young)
        (omega (arith, ap length (x.2 ∙ y.2), d.room.source))
        (omega (arith, ap length (x.3 ∙ y.3), d.room.half_mark))
