-- Arrangements that agree, with their nodes at the same points, have the same rings by their keys, and the same holes.
use Prim.Native.Nat.{ℕ, zero, suc, ◌%◌, ◌<◌}
use native.Mathlib.Omega.{arith}
use mathlib.Core.Path.{◌≡◌, refl, ap, ap₂, subst, ◌∙◌}
use mathlib.Core.Bool.{Bool, cond, ◌&&◌, ◌||◌, not}
use mathlib.Core.List.{List, [], ◌∷◌, map}
use lib.Dec.{eqb}
use lib.ListN.{length}
use lib.Signed.{lt_z}
use Rattle.lists.specs.Lists.{below, pick, all, member, In, Each}
use Rattle.lists.proofs.Counts.{by_test, in_head, in_tail, below_agree}
use Rattle.lists.proofs.Members.{below_in, pick_in}
use Rattle.lists.proofs.Passing.{pick_agree}
use Rattle.lists.proofs.Rising.{map_agree}
use Rattle.rotation.specs.Rotation.{Key, rotated, least_rotation_lem}
use Rattle.geometry.specs.Angle.{Point}
use Rattle.rules.specs.HalfEdge.{twin}
use Rattle.rules.specs.Cycles.{Arrangement, halves}
use Rattle.rules.specs.Split.{minimal_rings}
use Rattle.rules.specs.Face.{face_key, Ring, ring_of}
use Rattle.rules.specs.Euler.{some_of_lem}
use Rattle.rules.specs.Pieces.{foremost}
use Rattle.rules.specs.Holes.{on_line_lem, crosses_right, inside, ring_nodes, foremost_of, left_of, holds, enclosed, is_open_lem, ring_at, outside, holds_first, holder_of_lem, holes_of}
use Rattle.rules.specs.Sane.{Sane}
use Rattle.rules.proofs.Twin.{twin-below}
use Rattle.rules.proofs.Values.{map_in}
use Rattle.rules.proofs.Agreement.{Agree, rings_agree, areas_agree}
use Rattle.rules.proofs.Claims.{each_map, map_each, rings-low}

-- ---- tests and orders that agree

-- a test of all members
all_agree : (p q : ℕ → Bool) (l : List ℕ) → ((x : ℕ) → In x l → p x ≡ q x) → all p l ≡ all q l
all_agree p q [] same = refl
all_agree p q (x ∷ l) same = ap₂ (λ a b. a && b) (same x (in_head x x l refl)) (all_agree p q l (λ y m. same y (in_tail y x l m)))

-- the foremost of numbers below n is below n
foremost-low : (before : ℕ → ℕ → Bool) (n d : ℕ) (l : List ℕ) → d < n → ((x : ℕ) → In x l → x < n) → foremost before d l < n
foremost-low before n d [] h low = h
foremost-low before n d (x ∷ l) h low =
    let f = foremost before d l in
    by_test (before x f) (λ e. rw e (low x (in_head x x l refl))) (λ e. rw e (foremost-low before n d l h (λ y m. low y (in_tail y x l m))))

-- orders that agree below n have the same foremost
foremost_agree : (p q : ℕ → ℕ → Bool) (n : ℕ) → ((x y : ℕ) → x < n → y < n → p x y ≡ q x y) → (d : ℕ) (l : List ℕ) → d < n → ((x : ℕ) → In x l → x < n)
    → foremost p d l ≡ foremost q d l
foremost_agree p q n same d [] h low = refl
foremost_agree p q n same d (x ∷ l) h low =
    let rest : (y : ℕ) → In y l → y < n = λ y m. low y (in_tail y x l m) in
    let e = foremost_agree p q n same d l h rest in
    ap₂ (λ b f. cond b x f) (same x (foremost p d l) (low x (in_head x x l refl)) (foremost-low p n d l h rest) ∙ ap (q x) e) e

-- the order of points by x, then y
abbrev left_point : Point → Point → Bool
left_point a b = lt_z a.x b.x || (not (lt_z b.x a.x) && lt_z a.y b.y)

-- the line of half-edge h joins the same nodes in both, and they are below n
pub record SameLine (g k : Arrangement) (n h : ℕ) : Type 0 where
  pub start : g.origin h ≡ k.origin h
  pub finish : g.origin (twin h) ≡ k.origin (twin h)
  pub start_low : g.origin h < n
  pub finish_low : g.origin (twin h) < n

-- so do the lines of a ring
abbrev pub SameLines : Arrangement → Arrangement → ℕ → List ℕ → Type 0
SameLines g k n r = (h : ℕ) → In h r → SameLine g k n h

-- ---- strictly inside

module _ (g k : Arrangement) (count : ℕ) (at points : ℕ → Point) (placed : (n : ℕ) → n < count → at n ≡ points n) where
  -- a half-edge starts at the same point
  starts_agree : (h : ℕ) → SameLine g k count h → at (g.origin h) ≡ points (k.origin h)
  starts_agree h l = placed (g.origin h) l.start_low ∙ ap points l.start

  -- and ends at the same
  ends_agree : (h : ℕ) → SameLine g k count h → at (g.origin (twin h)) ≡ points (k.origin (twin h))
  ends_agree h l = placed (g.origin (twin h)) l.finish_low ∙ ap points l.finish

  -- so the same points are inside a ring
  inside_agree : (r : List ℕ) → SameLines g k count r → (p : Point) → inside at g r p ≡ inside points k r p
  unfolding inside
  inside_agree r same p = ap₂ (λ a l. a && eqb (length l % 2) 1)
      (all_agree _ _ r (λ h m. ap₂ (λ a b. not (on_line_lem a b p)) (starts_agree h (same h m)) (ends_agree h (same h m))))
      (pick_agree _ _ r (λ h m. ap₂ (λ a b. crosses_right a b p) (starts_agree h (same h m)) (ends_agree h (same h m))))

  -- the same nodes are passed
  nodes_agree : (r : List ℕ) → SameLines g k count r → ring_nodes g r ≡ ring_nodes k r
  nodes_agree r same = map_agree g.origin k.origin r (λ h m. (same h m).start)

  -- they are below the count
  nodes-low : (r : List ℕ) → SameLines g k count r → (n : ℕ) → In n (ring_nodes g r) → n < count
  nodes-low r same n m = let q = map_in g.origin r n m in subst (λ z. z < count) q.2 (same q.0 q.1).start_low

  -- ---- holders

  -- the test by least x, then least y
  left_agree : (m n : ℕ) → m < count → n < count → left_of at m n ≡ left_of points m n
  left_agree m n a b = ap₂ left_point (placed m a) (placed n b)

  -- the foremost of some nodes is inside or not
  tested_agree : (r : List ℕ) → SameLines g k count r → (l : List ℕ) → ((n : ℕ) → In n l → n < count)
      → (some_of_lem l && inside at g r (at (foremost_of (left_of at) 0 l))) ≡ (some_of_lem l && inside points k r (points (foremost_of (left_of points) 0 l)))
  tested_agree r same [] nodes = refl
  tested_agree r same (x ∷ l) nodes =
      let first = nodes x (in_head x x l refl) in
      let rest : (n : ℕ) → In n l → n < count = λ n m. nodes n (in_tail n x l m) in
      inside_agree r same (at (foremost (left_of at) x l))
      ∙ ap (inside points k r)
      (placed (foremost (left_of at) x l) (foremost-low (left_of at) count x l first rest)
      ∙ ap points (foremost_agree (left_of at) (left_of points) count left_agree x l first rest))

  -- a ring has the same test point inside
  holds_agree : (e o : Ring) → SameLines g k count e.half_edges_lem → SameLines g k count o.half_edges_lem → holds at g e o ≡ holds points k e o
  unfolding holds
  holds_agree e o same_e same_o =
      let passed = ring_nodes g e.half_edges_lem in
      let free = pick (λ n. not (member n passed)) (ring_nodes g o.half_edges_lem) in
      tested_agree e.half_edges_lem same_e free (λ n m. nodes-low o.half_edges_lem same_o n (pick_in _ n (ring_nodes g o.half_edges_lem) m).0)
      ∙ ap₂ (λ a b. let l = pick (λ n. not (member n a)) b in some_of_lem l && inside points k e.half_edges_lem (points (foremost_of (left_of points) 0 l)))
      (nodes_agree e.half_edges_lem same_e) (nodes_agree o.half_edges_lem same_o)

  module _ (rs : List Ring) (same : (i : ℕ) → i < length rs → SameLines g k count (ring_at rs i).half_edges_lem) where
    -- the same holder
    holder_agree : (i : ℕ) → i < length rs → holder_of_lem at g rs (ring_at rs i) ≡ holder_of_lem points k rs (ring_at rs i)
    unfolding holder_of_lem
    holder_agree i l = ap (foremost_of (holds_first rs) outside) (below_agree _ _ (length rs)
        (λ j q. ap (λ b. enclosed (ring_at rs j) && b) (holds_agree (ring_at rs j) (ring_at rs i) (same j q) (same i l))))

    -- so the same holes of the same rings
    pub holes_agree : holes_of at g rs ≡ holes_of points k rs
    unfolding holes_of
    holes_agree = map_agree _ _ (below (λ i. is_open_lem (ring_at rs i)) (length rs)) (λ i m.
        ap (λ h. record { ring = i; holder = h; doubled = (ring_at rs i).doubled }) (holder_agree i (below_in (λ j. is_open_lem (ring_at rs j)) (length rs) i m).0))

-- ---- rings with their keys

module _ (g k : Arrangement) (sg : Sane g) (sk : Sane k) (same : Agree g k) (at points : ℕ → Point) (placed : (n : ℕ) → n < g.nodes → at n ≡ points n) where
  -- a half-edge's line joins the same nodes
  line_agree : (h : ℕ) → h < halves g → SameLine g k g.nodes h
  line_agree h l =
      let t = twin-below g.edges h l in
      record { start = same.origin h l; finish = same.origin (twin h) t; start_low = sg.begins h l; finish_low = sg.begins (twin h) t }

  module _ (key names : ℕ → Key) (named : (n : ℕ) → n < g.nodes → key n ≡ names n) where
    -- the same key of a ring
    key_agree : (r : List ℕ) → ((h : ℕ) → In h r → h < halves g) → face_key key g r ≡ face_key names k r
    unfolding face_key
    key_agree r low = ap (λ ks. rotated (least_rotation_lem ks) ks)
        (map_agree (λ h. key (g.origin h)) (λ h. names (k.origin h)) r (λ h m. named (g.origin h) (sg.begins h (low h m)) ∙ ap names (same.origin h (low h m))))

    -- the same ring
    ring_agree : (r : List ℕ) → ((h : ℕ) → In h r → h < halves g) → ring_of at key g r ≡ ring_of points names k r
    unfolding ring_of
    ring_agree r low = ap₂ (λ ks z. record { half_edges_lem = r; key = ks; doubled = z }) (key_agree r low) (areas_agree g k sg sk same at points placed r low)

    -- the same rings
    pub keyed_agree : map (ring_of at key g) (minimal_rings g) ≡ map (ring_of points names k) (minimal_rings k)
    keyed_agree =
        map_each _ _ (minimal_rings g) (each_map _ _ (minimal_rings g) ring_agree (rings-low g sg))
        ∙ ap (map (ring_of points names k)) (rings_agree g k sg sk same)

    -- their half-edges are half-edges
    keyed-low : (ls : List (List ℕ)) → Each (λ r. (h : ℕ) → In h r → h < halves g) ls
        → (i : ℕ) → i < length (map (ring_of at key g) ls) → (h : ℕ) → In h (ring_at (map (ring_of at key g) ls) i).half_edges_lem → h < halves g
    unfolding ring_of
    keyed-low [] e i l h m = absurd (omega arith)
    keyed-low (r ∷ ls) e zero l h m = e.0 h m
    keyed-low (r ∷ ls) e (suc i) l h m = keyed-low ls e.1 i (omega arith) h m

    -- the same holes
    pub keyed-holes_agree : holes_of at g (map (ring_of at key g) (minimal_rings g)) ≡ holes_of points k (map (ring_of points names k) (minimal_rings k))
    keyed-holes_agree =
        let low = keyed-low (minimal_rings g) (rings-low g sg) in
        holes_agree g k g.nodes at points placed (map (ring_of at key g) (minimal_rings g)) (λ i l h m. line_agree h (low i l h m)) ∙ ap (holes_of points k) keyed_agree
