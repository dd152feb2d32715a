-- An addition leaves a state that is roomy, sound and in stage 0 such a state again.
use Prim.Native.Nat.{ℕ, suc, ◌+◌, ◌<◌, ◌≤◌}
use native.Mathlib.Omega.{arith}
use mathlib.Core.Path.{◌≡◌, refl, sym, ap, ap₂, subst, ◌∙◌}
use mathlib.Core.Bool.{Bool, true, false, cond, ◌&&◌, ◌||◌}
use lib.Dec.{eqb, ltb}
use borrow.Author.Tests.{eqb-true, eqb-false, eq-eqb, ltb-true, ltb-false}
use Rattle.geometry.specs.Angle.{planar}
use Rattle.geometry.specs.declared.Coord3D.{Coord3D}
use Rattle.geometry.specs.declared.Line3D.{Line3D}
use Rattle.lists.specs.Lists.{upto, count_of, member}
use Rattle.lists.proofs.Counts.{by_test, true_is_false}
use Rattle.lists.proofs.Tests.{both, both_true}
use Rattle.rotation.specs.Rotation.{Key, key_same}
use Rattle.rules.specs.Limits.{Limits}
use Rattle.rules.specs.State.{State, node_key, roomy, sound}
use Rattle.rules.specs.Adding.{find_node_lem, with_node, with_id, add}
use Rattle.rules.specs.HalfEdge.{edge_of}
use Rattle.rules.specs.LineIds.{list_end, ids_of, used_places, lowest_free}
use Rattle.rules.proofs.Twin.{edge-below}
use Rattle.rules.proofs.Soundness.{is-roomy, is-sound}
use Rattle.rules.proofs.Sounding.{roomy_true, sound_true}
use Rattle.rules.proofs.SketchCalls.{first_passes, upto-below}
use Rattle.rules.proofs.AddCases.{start_key, end_key, u, nu, nv, v, s₂, half, used, known, add_cases}
use Rattle.rules.proofs.FreePlaces.{free-out}
use Rattle.rules.proofs.NodeSound.{Steady, steady_node}
use Rattle.rules.proofs.EdgeSound.{steady_edge, steady_id}

-- ---- an addition

-- how many nodes an end adds
abbrev one : Bool → ℕ
one b = cond b 1 0

-- a node where it is new
steady_with : (l : Limits) (b : Bool) (n : ℕ) (c : Coord3D) (s : State) → Steady l s → (b ≡ true → n ≡ s.nodes) → s.nodes + one b ≤ l.nodes → planar l.bound c ≡ true
    → Steady l (with_node b n c s)
steady_with l true n c s t is space whole = subst (λ i. Steady l (with_node true i c s)) (sym (is refl)) (steady_node l s c t (omega arith) whole)
steady_with l false n c s t is space whole = t

-- the node count with it
with_nodes : (b : Bool) (n : ℕ) (c : Coord3D) (s : State) → (b ≡ true → n ≡ s.nodes) → (with_node b n c s).nodes ≡ s.nodes + one b
with_nodes true n c s is = omega (arith, is refl)
with_nodes false n c s is = omega arith

-- a node leaves the edge count
pub with_edges : (b : Bool) (n : ℕ) (c : Coord3D) (s : State) → (with_node b n c s).edges ≡ s.edges
with_edges true n c s = refl
with_edges false n c s = refl

-- and the ids
pub with_tracings : (b : Bool) (n : ℕ) (c : Coord3D) (s : State) → (with_node b n c s).tracings ≡ s.tracings
with_tracings true n c s = refl
with_tracings false n c s = refl

-- keys that are one node's are the same
keys_meet : (a p q : Key) → key_same a p ≡ true → key_same a q ≡ true → key_same p q ≡ true
keys_meet a p q hp hq =
    let x = both (eqb a.x p.x) (eqb a.y p.y) hp in
    let y = both (eqb a.x q.x) (eqb a.y q.y) hq in
    both_true _ _
    (eq-eqb p.x q.x (sym (eqb-true a.x p.x x.0) ∙ eqb-true a.x q.x y.0))
    (eq-eqb p.y q.y (sym (eqb-true a.y p.y x.1) ∙ eqb-true a.y q.y y.1))

-- what the search of the nodes finds: a node with the key, where it is not the node count
found : (s : State) (k : Key) → (find_node_lem s k ≡ s.nodes → ⊥) → (find_node_lem s k < s.nodes) × (key_same (node_key s (find_node_lem s k)) k ≡ true)
unfolding find_node_lem
found s k d =
    let r = first_passes (λ n. key_same (node_key s n) k) s.nodes (upto s.nodes) d in
    (upto-below s.nodes _ r.0, r.1)

module _ (s : State) (p q : Key) (differ : key_same p q ≡ false) where
  -- the node of the start
  abbrev start : ℕ
  start = find_node_lem s p

  -- the node of the end, as found
  abbrev seen : ℕ
  seen = find_node_lem s q

  -- whether they are new
  abbrev new_start_lem : Bool
  new_start_lem = eqb start s.nodes

  abbrev new_end_lem : Bool
  new_end_lem = eqb seen s.nodes

  -- the node of the end
  abbrev end : ℕ
  end = cond (new_start_lem && new_end_lem) (suc s.nodes) seen

  -- all that is asked of the two
  pub record Places : Type 0 where
    pub first : new_end_lem ≡ true → end ≡ s.nodes + one new_start_lem
    pub start_in : start < s.nodes + (one new_start_lem + one new_end_lem)
    pub end_in : end < s.nodes + (one new_start_lem + one new_end_lem)
    pub apart : start ≡ end → ⊥

  -- the ends are two nodes below the new count
  places : Places
  places = by_test new_start_lem
      (λ a. by_test new_end_lem
      (λ b.
      let u = eqb-true start s.nodes a in
      let v : end ≡ suc s.nodes = ap₂ (λ x y. cond (x && y) (suc s.nodes) seen) a b in
      record {
        first = λ z. omega (arith, ap one a);
        start_in = omega (arith, ap one a);
        end_in = omega (arith, ap one a, ap one b);
        apart = λ z. omega arith;
      })
      (λ b.
      let u = eqb-true start s.nodes a in
      let v : end ≡ seen = ap₂ (λ x y. cond (x && y) (suc s.nodes) seen) a b in
      let w = (found s q (eqb-false seen s.nodes b)).0 in
      record {
        first = λ z. absurd (true_is_false (sym z ∙ b));
        start_in = omega (arith, ap one a);
        end_in = omega arith;
        apart = λ z. omega arith;
      }))
      (λ a.
      let v : end ≡ seen = ap (λ x. cond (x && new_end_lem) (suc s.nodes) seen) a in
      let u = found s p (eqb-false start s.nodes a) in
      by_test new_end_lem
      (λ b.
      let w = eqb-true seen s.nodes b in
      record {
        first = λ z. omega (arith, ap one a);
        start_in = omega (arith, u.0);
        end_in = omega (arith, ap one b);
        apart = λ z. omega (arith, u.0);
      })
      (λ b.
      let w = found s q (eqb-false seen s.nodes b) in
      record {
        first = λ z. absurd (true_is_false (sym z ∙ b));
        start_in = omega (arith, u.0);
        end_in = omega (arith, w.0);
        apart = λ z.
            true_is_false (sym (keys_meet (node_key s start) p q u.1 (subst (λ i. key_same (node_key s i) q ≡ true) (sym (z ∙ v)) w.1)) ∙ differ);
      }))

-- an id where it is not known
steady_known : (l : Limits) (known : Bool) (k i x : ℕ) (s : State) → Steady l s → l.pairs ≤ list_end → k < s.edges → known ≡ member i (ids_of l.pairs s.tracings k)
    → count_of x (used_places l.pairs s.tracings s.edges) ≡ 0 → (known || ltb x l.pairs) ≡ true → Steady l (with_id known l.pairs k i x s)
steady_known l true k i x s t small lk e free space = t
steady_known l false k i x s t small lk e free space =
    steady_id l s k i x t lk small (ltb-true x l.pairs space) free (omega (arith, ltb-false 0 (count_of i (ids_of l.pairs s.tracings k)) (sym e)))

-- a state that passes 6, 7 and 5 is steady
pub tests_steady : (l : Limits) (s : State) → roomy l s ≡ true → sound l s ≡ true → s.stage ≡ 0 → Steady l s
tests_steady l s r e z = record { room = is-roomy l s r; sense = is-sound l s e; young = z }

-- a steady state passes them
pub steady_tests : (l : Limits) (s : State) → Steady l s → (roomy l s ≡ true) × (sound l s ≡ true) × (s.stage ≡ 0)
steady_tests l s t = (roomy_true l s t.room, sound_true l s t.sense, t.young)

module _ (l : Limits) (small : l.pairs ≤ list_end) where
  -- an addition, refused or not, keeps a steady state steady
  pub add_steady : (g : Line3D) (s : State) → Steady l s → Steady l (add l g s).state
  add_steady g s t = add_cases l g s (λ o. Steady l o.state)
      (λ n z. t)
      (λ f. steady_known l (known l g s) (edge_of (half g s)) g.line_id (lowest_free (used l g s)) s t small
      (edge-below s.edges (half g s) (ltb-true _ _ f.there)) refl (free-out (used l g s)) f.space)
      (λ f.
      let d = f.tested in
      let r = places s (start_key g s) (end_key g s) d.differ in
      let is : nu g s ≡ true → u g s ≡ s.nodes = eqb-true (u g s) s.nodes in
      let s₁ = with_node (nu g s) (u g s) g.start s in
      let n₁ = with_nodes (nu g s) (u g s) g.start s is in
      let is₂ : nv g s ≡ true → v g s ≡ s₁.nodes = λ z. r.first z ∙ sym n₁ in
      let n₂ = with_nodes (nv g s) (v g s) g.end s₁ is₂ in
      let k₂ = with_edges (nv g s) (v g s) g.end s₁ ∙ with_edges (nu g s) (u g s) g.start s in
      let t₂ = with_tracings (nv g s) (v g s) g.end s₁ ∙ with_tracings (nu g s) (u g s) g.start s in
      let space = f.nodes in
      let few = f.edges in
      let d₁ = steady_with l (nu g s) (u g s) g.start s t is (omega arith) d.whole_start in
      let d₂ = steady_with l (nv g s) (v g s) g.end s₁ d₁ is₂ (omega (arith, n₁)) d.whole_end in
      steady_edge l (s₂ g s) (u g s) (v g s) (lowest_free (used l g s)) g d₂ (omega (arith, k₂)) (omega (arith, n₁, n₂, r.start_in)) (omega (arith, n₁, n₂, r.end_in)) r.apart
      small f.space (ap₂ (λ z e. count_of (lowest_free (used l g s)) (used_places l.pairs z e)) t₂ k₂ ∙ free-out (used l g s)))

  -- after an addition, refused or not, a state that passed 6, 7 and 5 passes them again
  pub add-keeps : (g : Line3D) (s : State) → roomy l s ≡ true → sound l s ≡ true → s.stage ≡ 0
      → let t = (add l g s).state in (roomy l t ≡ true) × (sound l t ≡ true) × (t.stage ≡ 0)
  add-keeps g s r e z = steady_tests l (add l g s).state (add_steady g s (tests_steady l s r e z))
