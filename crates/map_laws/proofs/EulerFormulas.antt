-- Euler's formula holds of the counts exactly when the verdict is yes: every piece has a cycle of its own.
use Prim.Native.Nat.{ℕ, zero, suc, ◌+◌, ◌-◌, ◌*◌, ◌<◌, ◌≤◌}
use native.Mathlib.Omega.{arith}
use mathlib.Core.Path.{◌≡◌, refl, sym, subst, ◌∙◌}
use mathlib.Core.Bool.{true}
use mathlib.Core.List.{List, [], ◌∷◌, map}
use lib.Dec.{eqb}
use lib.ListN.{length, get_or, length-map}
use borrow.Author.Tests.{eq-eqb, ne_eqb}
use Rattle.lists.specs.Lists.{below, count_of, In}
use Rattle.lists.proofs.Counts.{by_eq, true_is_false, in_head}
use Rattle.lists.proofs.Members.{in_at, below_in}
use Rattle.lists.proofs.Sums.{pigeonhole}
use Rattle.lists.proofs.Rounds.{head_of}
use Rattle.rules.specs.HalfEdge.{twin}
use Rattle.rules.specs.Cycles.{Arrangement, halves, active_star, successor, label, maximal_rings}
use Rattle.rules.specs.Sane.{Live, Sane}
use Rattle.rules.specs.Euler.{some_of_lem, touched, vertex_count, edge_count, piece_count, census}
use Rattle.rules.specs.Paths.{Path}
use Rattle.map_laws.specs.EulerFormula.{EulerRules}
use Rattle.rules.proofs.Walks.{iter, iter_live}
use Rattle.rules.proofs.CycleLaws.{in_cycle}
use Rattle.rules.proofs.Successor.{Leaves, star-leaves, successor-leaves}
use Rattle.rules.proofs.Rings.{successor-permutes}
use Rattle.rules.proofs.Counting.{label_range, label-used, one-ring, edge_count_le}
use Rattle.rules.proofs.Values.{map_in, distinct-map}
use Rattle.rules.proofs.Roots.{path-here, path-step, path_join}
use Rattle.rules.proofs.PieceCounts.{root_nodes, count-is, roots-one}

-- the first of a list that has one
some-head : (l : List ℕ) → some_of_lem l ≡ true → In (head_of 0 l) l
some-head [] e = absurd (true_is_false (sym e))
some-head (x ∷ xs) e = in_head x x xs refl

module _ (g : Arrangement) (sane : Sane g) where
  -- an active half-edge that starts at a node
  abbrev starter : ℕ → ℕ
  starter n = head_of 0 (active_star g n)

  -- it starts there
  starter_leaves : (n : ℕ) → n < g.nodes → touched g n ≡ true → Leaves g n (starter n)
  unfolding touched
  starter_leaves n l t = star-leaves g sane n (starter n) l (some-head (active_star g n) t)

  -- and is active
  starter_live : (n : ℕ) → n < g.nodes → touched g n ≡ true → Live (halves g) g.active (starter n)
  starter_live n l t = let s = starter_leaves n l t in (s.below, s.active)

  -- a path leads along a cycle
  along : (k h : ℕ) → Live (halves g) g.active h → Path g (g.origin h) (g.origin (iter (successor g) k h))
  along zero h a = path-here g (g.origin h)
  along (suc k) h a =
      let x = iter (successor g) k h in
      let b = iter_live (successor g) (halves g) g.active (successor-permutes g sane) k h a in
      path_join g (g.origin h) (g.origin x) (g.origin (successor g x)) (along k h a)
      (path-step g (g.origin x) x (g.origin (successor g x)) (record { below = b.0; active = b.1; origin = refl })
      (subst (Path g (g.origin (twin x))) (sym (successor-leaves g sane x b.0 b.1).origin) (path-here g (g.origin (twin x)))))

  -- half-edges of one cycle lie in one piece
  within : (h i : ℕ) → Live (halves g) g.active h → Live (halves g) g.active i → label g h ≡ label g i → Path g (g.origin h) (g.origin i)
  within h i a b e =
      let r = in_cycle (successor g) (halves g) g.active (successor-permutes g sane) h i a (one-ring g sane h i a b (sym e)) in
      subst (λ x. Path g (g.origin h) (g.origin x)) r.1 (along r.0 h a)

  -- ---- no fewer cycles than pieces

  -- a cycle of the piece of n, counted from 0
  abbrev cycle_at : ℕ → ℕ
  cycle_at n = label g (starter n) - 1

  -- what C counts are touched nodes
  root_inside : (r : ℕ) → In r (root_nodes g) → (r < g.nodes) × (touched g r ≡ true)
  root_inside = (roots-one g sane).inside

  -- different pieces, different cycles
  cycles-apart : (q r : ℕ) → In q (root_nodes g) → In r (root_nodes g) → cycle_at q ≡ cycle_at r → q ≡ r
  cycles-apart q r m k e =
      let iq = root_inside q m in
      let ir = root_inside r k in
      let lq = starter_live q iq.0 iq.1 in
      let lr = starter_live r ir.0 ir.1 in
      let same : label g (starter q) ≡ label g (starter r) = omega (arith, label_range g sane (starter q) lq, label_range g sane (starter r) lr) in
      let p = within (starter q) (starter r) lq lr same in
      (roots-one g sane).only q r m k (subst (λ z. Path g z r) (starter_leaves q iq.0 iq.1).origin (subst (Path g (g.origin (starter q))) (starter_leaves r ir.0 ir.1).origin p))

  -- each is one of the cycles
  cycle-low : (v : ℕ) → length (maximal_rings g) ≤ v → count_of v (map cycle_at (root_nodes g)) ≡ 0
  cycle-low v l = by_eq (count_of v (map cycle_at (root_nodes g))) 0 (λ e. e) (λ d.
      let r = map_in cycle_at (root_nodes g) v (omega arith) in
      let i = root_inside r.0 r.1 in
      absurd (omega (arith, r.2, label_range g sane (starter r.0) (starter_live r.0 i.0 i.1))))

  -- so C is at most their number
  pieces-few : piece_count g ≤ length (maximal_rings g)
  pieces-few = omega (
    arith,
    count-is g,
    length-map (root_nodes g) cycle_at,
    pigeonhole (length (maximal_rings g)) (map cycle_at (root_nodes g)) cycle-low (distinct-map cycle_at (root_nodes g) (roots-one g sane).distinct cycles-apart),
  )

-- ---- the formula

-- equations that hold together
equal_together : (a b c d : ℕ) → (a ≡ b → c ≡ d) → (c ≡ d → a ≡ b) → eqb a b ≡ eqb c d
equal_together a b c d f h = by_eq a b (λ e. eq-eqb a b e ∙ sym (eq-eqb c d (f e))) (λ n. ne_eqb a b n ∙ sym (ne_eqb c d (λ e. n (h e))))

-- the counts of every sane arrangement keep the rules
pub euler_rules : (g : Arrangement) → Sane g → EulerRules g
unfolding census
euler_rules g sane =
    let v = vertex_count g in
    let e = edge_count g in
    let c = piece_count g in
    let cycles = length (maximal_rings g) in
    let few : c ≤ cycles = pieces-few g sane in
    record {
      some = λ n l t. (starter g sane n, starter_live g sane n l t, (starter_leaves g sane n l t).origin);
      within = within g sane;
      enough = few;
      formula = equal_together (v + cycles) (2 * c + e) (v + (cycles - c + 1)) (e + c + 1) (λ q. omega arith) (λ q. omega arith);
    }

-- a map without edges: nothing is counted, there is one face, and the verdict is yes
pub empty_yes : (g : Arrangement) → Sane g → g.edges ≡ 0 → census g ≡ record { vertices = 0; edges = 0; cycles = 0; pieces = 0; verdict = true }
unfolding census vertex_count
empty_yes g sane none =
    let f : length (maximal_rings g) ≡ 0 = by_eq (length (maximal_rings g)) 0 (λ e. e) (λ d. absurd (omega (arith, (label-used g sane 0 (omega arith)).1.0))) in
    let c : piece_count g ≡ 0 = omega (arith, pieces-few g sane) in
    let e : edge_count g ≡ 0 = omega (arith, edge_count_le g) in
    let v : vertex_count g ≡ 0 = by_eq (length (below (touched g) g.nodes)) 0 (λ q. q) (λ d.
    let m = in_at (below (touched g) g.nodes) 0 (omega arith) in
    let b = below_in (touched g) g.nodes (get_or (below (touched g) g.nodes) 0 0) m in
    absurd (omega (arith, (starter_live g sane (get_or (below (touched g) g.nodes) 0 0) b.0 b.1).0))) in
    λ i. record { vertices = v i; edges = e i; cycles = f i; pieces = c i; verdict = eqb (v i + f i) (2 * c i + e i) }
