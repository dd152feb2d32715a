-- An addition by cases: refused, an edge found, or a new one, each with what the tests before it say.
use Prim.Native.Nat.{ℕ, ◌+◌, ◌*◌, ◌<◌, ◌≤◌}
use mathlib.Core.Path.{◌≡◌, refl, sym, ap, ap₂}
use mathlib.Core.Bool.{Bool, true, false, cond, ◌&&◌, ◌||◌, not}
use mathlib.Core.List.{List}
use lib.Dec.{eqb, ltb, leb}
use borrow.Author.Tests.{eqb-true, ltb-true, leb-true, not-true}
use Rattle.geometry.specs.Angle.{planar}
use Rattle.geometry.specs.Reply.{refused, success}
use Rattle.geometry.specs.declared.Line3D.{Line3D}
use Rattle.lists.proofs.Counts.{true_is_false}
use Rattle.lists.proofs.Tests.{both, neither}
use Rattle.rotation.specs.Rotation.{Key, key_same}
use Rattle.rules.specs.HalfEdge.{edge_of}
use Rattle.rules.specs.Keys.{key_of}
use Rattle.rules.specs.Limits.{Limits}
use Rattle.rules.specs.LineIds.{used_places, lowest_free}
use Rattle.rules.specs.State.{State, roomy, sound}
use Rattle.rules.specs.Adding.{Outcome, demand, find_node_lem, end_node, half_between, known_id, with_node, with_edge, with_id, Added, Nothing, add}
use Rattle.rules.proofs.Soundness.{Roomy, Sound, is-roomy, is-sound}

-- a test, and what it says where it passes
demand_cases : (P : Outcome Added Nothing → Type 0) (b : Bool) (n : ℕ) (s : State) (o : Outcome Added Nothing)
    → (b ≡ false → P (record { reply = refused n; state = s; lists = record {} })) → (b ≡ true → P o) → P (demand b n s (record {}) o)
demand_cases P true n s o r k = k refl
demand_cases P false n s o r k = r refl

-- either way of a test
cond_cases : (P : Outcome Added Nothing → Type 0) (b : Bool) (x y : Outcome Added Nothing) → (b ≡ true → P x) → (b ≡ false → P y) → P (cond b x y)
cond_cases P true x y p q = p refl
cond_cases P false x y p q = q refl

-- ---- what an addition finds

module _ (g : Line3D) (s : State) where
  -- the keys of the ends
  abbrev pub start_key : Key
  start_key = key_of g.start.x g.start.y

  -- that of the end
  abbrev pub end_key : Key
  end_key = key_of g.end.x g.end.y

  -- the node of the start: found, or the next one
  abbrev pub u : ℕ
  u = find_node_lem s start_key

  -- the node of the end, as found
  abbrev pub w : ℕ
  w = find_node_lem s end_key

  -- whether the start is new
  abbrev pub nu : Bool
  nu = eqb u s.nodes

  -- whether the end is
  abbrev pub nv : Bool
  nv = eqb w s.nodes

  -- the node of the end: found, or the next one
  abbrev pub v : ℕ
  v = end_node s start_key end_key

  -- the state with both ends
  abbrev pub s₂ : State
  s₂ = with_node nv v g.end (with_node nu u g.start s)

  -- the half-edge between them
  abbrev pub half : ℕ
  half = half_between s start_key end_key

-- ---- the cases

module _ (l : Limits) (g : Line3D) (s : State) where
  -- the places in use
  abbrev pub used : List ℕ
  used = used_places l.pairs s.tracings s.edges

  -- the edge has the id
  abbrev pub known : Bool
  known = known_id l s g.line_id (half g s)

  -- 6, 7, 5, 1 and 2 pass
  pub record Tested : Type 0 where
    pub room : Roomy l s
    pub ok : Sound l s
    pub young : s.stage ≡ 0
    pub whole_start : planar l.bound g.start ≡ true
    pub whole_end : planar l.bound g.end ≡ true
    pub differ : key_same (start_key g s) (end_key g s) ≡ false

  -- 12 does not, though a pair is needed
  pub record Lacking : Type 0 where
    pub ok : Sound l s
    pub need : not (ltb (half g s) (2 * s.edges) && known) ≡ true
    pub none : ltb (lowest_free used) l.pairs ≡ false

  -- an edge is found, and has the id or there is a place for it
  pub record Found : Type 0 where
    pub tested : Tested
    pub there : ltb (half g s) (2 * s.edges) ≡ true
    pub space : (known || ltb (lowest_free used) l.pairs) ≡ true

  -- none is, and there is space for what is new
  pub record New : Type 0 where
    pub tested : Tested
    pub missing : ltb (half g s) (2 * s.edges) ≡ false
    pub nodes : s.nodes + (cond (nu g s) 1 0 + cond (nv g s) 1 0) ≤ l.nodes
    pub edges : s.edges < l.edges
    pub space : lowest_free used < l.pairs

  -- a refusal
  abbrev pub refusal : ℕ → Outcome Added Nothing
  refusal n = record { reply = refused n; state = s; lists = record {} }

  -- the edge that was found, with the id
  abbrev pub found : Outcome Added Nothing
  found = record {
    reply = success (record { edge = edge_of (half g s); new = false });
    state = with_id known l.pairs (edge_of (half g s)) g.line_id (lowest_free used) s;
    lists = record {};
  }

  -- the new one
  abbrev pub made : Outcome Added Nothing
  made = record {
    reply = success (record { edge = s.edges; new = true });
    state = with_edge (u g s) (v g s) (lowest_free used) g (s₂ g s);
    lists = record {};
  }

  -- what holds of each outcome holds of what an addition answers and leaves
  pub add_cases : (P : Outcome Added Nothing → Type 0) → ((n : ℕ) → (eqb n 12 ≡ true → Lacking) → P (refusal n)) → (Found → P found) → (New → P made) → P (add l g s)
  unfolding add
  add_cases P other old new =
      let p = start_key g s in
      let q = end_key g s in
      let h = half g s in
      let some = ltb (lowest_free used) l.pairs in
      demand_cases P (roomy l s) 6 s _ (λ f. other 6 (λ z. absurd (true_is_false (sym z)))) (λ e6.
      demand_cases P (sound l s) 7 s _ (λ f. other 7 (λ z. absurd (true_is_false (sym z)))) (λ e7.
      demand_cases P (eqb s.stage 0) 5 s _ (λ f. other 5 (λ z. absurd (true_is_false (sym z)))) (λ e5.
      demand_cases P (planar l.bound g.start && planar l.bound g.end) 1 s _ (λ f. other 1 (λ z. absurd (true_is_false (sym z)))) (λ e1.
      demand_cases P (not (key_same p q)) 2 s _ (λ f. other 2 (λ z. absurd (true_is_false (sym z)))) (λ e2.
      let whole = both (planar l.bound g.start) (planar l.bound g.end) e1 in
      let ok = is-sound l s e7 in
      let tested : Tested = record {
        room = is-roomy l s e6;
        ok = ok;
        young = eqb-true s.stage 0 e5;
        whole_start = whole.0;
        whole_end = whole.1;
        differ = not-true (key_same p q) e2;
      } in
      cond_cases P (ltb h (2 * s.edges)) _ _
      (λ t. demand_cases P (known || some) 12 s _
      (λ f. let r = neither known some f in other 12 (λ z. record { ok = ok; need = ap₂ (λ a b. not (a && b)) t r.0; none = r.1 }))
      (λ e12. old (record { tested = tested; there = t; space = e12 })))
      (λ t. demand_cases P (leb (s.nodes + (cond (nu g s) 1 0 + cond (nv g s) 1 0)) l.nodes) 3 s _ (λ f. other 3 (λ z. absurd (true_is_false (sym z)))) (λ e3.
      demand_cases P (ltb s.edges l.edges) 4 s _ (λ f. other 4 (λ z. absurd (true_is_false (sym z)))) (λ e4.
      demand_cases P some 12 s _
      (λ f. other 12 (λ z. record { ok = ok; need = ap (λ a. not (a && known)) t; none = f }))
      (λ e12. new (record { tested = tested; missing = t; nodes = leb-true _ _ e3; edges = ltb-true _ _ e4; space = ltb-true _ _ e12 }))))))))))
