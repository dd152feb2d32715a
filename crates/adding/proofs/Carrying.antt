-- An addition to a state that passed 6, 7 and 5 carries out what it was decided to come to.
use Prim.Native.Nat.{ℕ, suc, ◌+◌, ◌*◌, ◌/◌, ◌%◌, ◌<◌, ◌≤◌, min}
use native.Mathlib.Omega.{arith}
use mathlib.Core.Path.{◌≡◌, refl, sym, ap, ap₂, subst, ◌∙◌}
use mathlib.Core.Bool.{Bool, true, false, cond, ◌&&◌, ◌||◌, not}
use lib.Dec.{eqb, ltb, leb}
use lib.ListN.{length, get_or, take}
use lib.Seq.{get_or-take, length-take-le}
use borrow.Author.Tests.{eqb-true, eqb-false, eq-eqb, leb-true, ltb-true}
use Rattle.geometry.specs.Reply.{refused, success}
use Rattle.geometry.specs.Angle.{planar}
use Rattle.geometry.specs.declared.Line3D.{Line3D}
use Rattle.lists.specs.Lists.{upto, first_where}
use Rattle.lists.proofs.Counts.{by_eq}
use Rattle.lists.proofs.Members.{in_at}
use Rattle.rules.proofs.Going.{demand-is}
use Rattle.rotation.specs.Rotation.{key_same}
use Rattle.rules.specs.Keys.{key_of}
use Rattle.rules.specs.HalfEdge.{edge_of}
use Rattle.rules.specs.Limits.{limits}
use Rattle.rules.specs.State.{State, key_in_lem, roomy, sound}
use Rattle.rules.specs.Adding.{Outcome, demand, known_id, with_node, with_edge, with_id, Nothing, add}
use Rattle.rules.specs.Adding as rules
use Rattle.rules.proofs.Soundness.{Roomy, Sound, is-roomy, is-sound}
use Rattle.rules.proofs.SketchCalls.{first_passes, upto-below}
use Rattle.rules.proofs.AddingSound.{add-keeps}
use Rattle.rules.proofs.PairsTaken.{free_in}
use Rattle.rules.proofs.Tables.{star-length, star-table-only}
use Rattle.tables.specs.Refusals.{refusal_number_lem}
use Rattle.tables.specs.declared.ids.EdgeId.{EdgeId}
use Rattle.tables.specs.declared.Refusal.TheVariants.{NotWhole, SameNode, TooManyNodes, TooManyEdges, TooManyPairs}
use Rattle.adding.specs.declared.Ends.{Ends}
use Rattle.std.specs.Prelude.{Ok, Err}
use Rattle.adding.specs.declared.Decision.TheVariants.{Make, Enter, Keep}
use Rattle.searching.specs.Searches.{Searchable, Found, find_node_in, find_half_in}
use Rattle.adding.specs.Decisions.{Decided, decision_by, decision_in, ends_by}
use Rattle.adding.specs.Written.{Makeable}
use Rattle.adding.specs.Outcomes.{Ready}
use Rattle.adding.proofs.Between.{ends-half}
use Rattle.adding.proofs.Deciding.{known-there, free-within}

-- what a decision answers and leaves; a pair goes to the lowest free place
abbrev pub carried : Decided → Line3D → State → Outcome rules.Added Nothing
carried (Err why) g s = record { reply = refused (refusal_number_lem why); state = s; lists = record {} }
carried (Ok (Keep k)) g s = record { reply = success (record { edge = k.0; new = false }); state = s; lists = record {} }
carried (Ok (Enter k)) g s = record {
  reply = success (record { edge = k.0; new = false });
  state = with_id false limits.pairs k.0 g.line_id (free_in limits s) s;
  lists = record {};
}
carried (Ok (Make e)) g s = record {
  reply = success (record { edge = s.edges; new = true });
  state = with_edge e.start.0 e.end.0 (free_in limits s) g (with_node e.new_end e.end.0 g.end (with_node e.new_start e.start.0 g.start s));
  lists = record {};
}

-- the tests one after the other
carry : (whole same joined known space few pair : Bool) (k : EdgeId) (e : Ends) (g : Line3D) (s : State) (none : Nothing)
    → demand whole 1 s none (demand (not same) 2 s none (cond joined
    (demand (known || pair) 12 s none
    (record { reply = success (record { edge = k.0; new = false }); state = with_id known limits.pairs k.0 g.line_id (free_in limits s) s; lists = none }))
    (demand space 3 s none (demand few 4 s none (demand pair 12 s none (carried (Ok (Make e)) g s))))))
    ≡ carried (cond whole (cond same (Err SameNode) (cond joined
    (cond known (Ok (Keep k)) (cond pair (Ok (Enter k)) (Err TooManyPairs)))
    (cond space (cond few (cond pair (Ok (Make e)) (Err TooManyPairs)) (Err TooManyEdges)) (Err TooManyNodes)))) (Err NotWhole)) g s
carry false b c n d f m k e g s none = refl
carry true true c n d f m k e g s none = refl
carry true false true true d f m k e g s none = refl
carry true false true false d f true k e g s none = refl
carry true false true false d f false k e g s none = refl
carry true false false n false f m k e g s none = refl
carry true false false n true false m k e g s none = refl
carry true false false n true true true k e g s none = refl
carry true false false n true true false k e g s none = refl

-- either way of a test
cases : (P : Decided → Type 0) (b : Bool) (x y : Decided) → (b ≡ true → P x) → (b ≡ false → P y) → P (cond b x y)
cases P true x y p q = p refl
cases P false x y p q = q refl

-- a node that is found is one of the nodes
found_below : (p : ℕ → Bool) (n : ℕ) → eqb (first_where p n (upto n)) n ≡ false → first_where p n (upto n) < n
found_below p n e = upto-below n _ (first_passes p n (upto n) (eqb-false (first_where p n (upto n)) n e)).0

-- how many nodes an end adds
abbrev one : Bool → ℕ
one b = cond b 1 0

-- the node of a new end
new-end : (a b : Bool) (n w : ℕ) → b ≡ true → (b ≡ true → w ≡ n) → cond (a && b) (suc n) w ≡ n + one a
new-end true true n w e h = omega arith
new-end true false n w e h = let z : ◌≡◌ {A = ℕ} 0 1 = cc in absurd (omega arith)
new-end false b n w e h = omega (arith, h e)

-- an end that is found stays
old_end_lem : (a b : Bool) (n w : ℕ) → b ≡ false → cond (a && b) (suc n) w ≡ w
old_end_lem true true n w e = let z : ◌≡◌ {A = ℕ} 0 1 = cc in absurd (omega arith)
old_end_lem true false n w e = refl
old_end_lem false b n w e = refl

module _ (s : State) (ready : Ready limits s) where
  -- the tables are long enough
  room : Roomy limits s
  room = is-roomy limits s ready.room

  -- and sound
  sense : Sound limits s
  sense = is-sound limits s ready.sense

  -- a half-edge joins two nodes
  half-nodes : (h : ℕ) → h < 2 * s.edges → (get_or s.source h 0 < s.nodes) × (get_or s.target h 0 < s.nodes)
  half-nodes h q =
      let k = h / 2 in
      let d : h ≡ 2 * k + h % 2 = omega arith in
      let e = sense.ends k (omega arith) in
      by_eq (h % 2) 0
      (λ z. let x : h ≡ 2 * k = omega arith in (rw x e.from, rw x e.to))
      (λ z. let x : h ≡ 2 * k + 1 = omega arith in (rw (x, e.twin_from) e.to, rw (x, e.twin_to) e.from))

  -- the searches can be made
  pub searchable : Searchable s.nodes s.edges s.node_x s.node_y s.source s.target s.star
  searchable = record {
    few_nodes = sense.nodes;
    few_edges = sense.edges;
    room_x = omega (arith, room.node_x, sense.nodes);
    room_y = omega (arith, room.node_y, sense.nodes);
    room_star = omega (arith, room.star, sense.edges);
    known = λ i q.
        let n = 2 * s.edges in
        let m : n ≤ length s.star = omega (arith, room.star, sense.edges) in
        let h = in_at (take n s.star) i (omega (arith, length-take-le n s.star m)) in
        let b = star-table-only limits s sense (get_or (take n s.star) i 0) h in
        (omega (arith, get_or-take n s.star i 0 q, room.source, sense.edges), omega (arith, get_or-take n s.star i 0 q, room.target, sense.edges));
    within = λ h m. half-nodes h (star-table-only limits s sense h m);
  }

module _ (g : Line3D) (s : State) where
  -- the node found for the start
  abbrev from : ℕ
  from = find_node_in s.nodes s.node_x s.node_y (key_of g.start.x g.start.y)

  -- and for the end
  abbrev to : ℕ
  to = find_node_in s.nodes s.node_x s.node_y (key_of g.end.x g.end.y)

  -- the half-edge found between them
  abbrev pub between : ℕ
  between = find_half_in s.edges s.source s.target s.star from to

  -- the id is new to edge k, which was found, and there is a place for its pair
  pub record Enterable (k : ℕ) : Type 0 where
    pub there : between < 2 * s.edges
    pub edge : edge_of between ≡ k
    pub new : known_id limits s g.line_id between ≡ false
    pub space : free_in limits s < limits.pairs

  -- what was tested before a decision is carried out
  abbrev Holds : Decided → Type 0
  Holds (Err why) = Unit
  Holds (Ok (Keep k)) = Unit
  Holds (Ok (Enter k)) = Enterable k.0
  Holds (Ok (Make e)) = Makeable s.nodes s.edges e s.degree × (free_in limits s < limits.pairs)

module _ (g : Line3D) (s : State) (ready : Ready limits s) where
  -- the decision
  abbrev pub decided : Decided
  decided =
      decision_in limits g s.nodes s.edges s.node_x s.node_y s.source s.target s.star (known_id limits s g.line_id) (free_in limits s)

  -- the addition carries it out
  pub add_carried : add limits g s ≡ carried decided g s
  unfolding add decision_by
  add_carried =
      let none : Nothing = record {} in
      let u = from g s in
      let w = to g s in
      let e = ends_by s.nodes u w in
      let h = find_half_in s.edges s.source s.target s.star e.start.0 e.end.0 in
      demand-is (roomy limits s) 6 s none _ ready.room
      ∙ demand-is (sound limits s) 7 s none _ ready.sense
      ∙ demand-is (eqb s.stage 0) 5 s none _ (eq-eqb s.stage 0 ready.stage)
      ∙ carry (planar limits.bound g.start && planar limits.bound g.end) (key_same (key_of g.start.x g.start.y) (key_of g.end.x g.end.y))
      (ltb h (2 * s.edges)) (known_id limits s g.line_id h) (leb (s.nodes + (one e.new_start + one e.new_end)) limits.nodes)
      (ltb s.edges limits.edges) (ltb (free_in limits s) limits.pairs) (record { 0 = edge_of h }) e g s none
      ∙ ap (λ z. carried (decision_by limits g s.nodes s.edges u w z (known_id limits s g.line_id z) (free_in limits s)) g s)
      (ends-half s.nodes s.edges s.source s.target s.star (searchable s ready).within u w)

  -- what the code decides from what it found
  pub decided_found : (u w h : ℕ) (known : Bool) (free : ℕ)
      → Found g s.nodes s.edges s.node_x s.node_y s.source s.target s.star u w h
      → (h < 2 * s.edges → known ≡ known_id limits s g.line_id h)
      → free ≡ min (free_in limits s) limits.pairs
      → decision_by limits g s.nodes s.edges u w h known free ≡ decided
  decided_found u w h known free f same least =
      let i = g.line_id in
      known-there limits g s.nodes s.edges u w h free known (known_id limits s i h) same
      ∙ ap (decision_by limits g s.nodes s.edges u w h (known_id limits s i h)) least
      ∙ free-within limits g s.nodes s.edges u w h (free_in limits s) (known_id limits s i h)
      ∙ ap (λ z. decision_by limits g s.nodes s.edges u w z (known_id limits s i z) (free_in limits s)) f.half
      ∙ ap₂ (λ a b. let z = find_half_in s.edges s.source s.target s.star a b in
      decision_by limits g s.nodes s.edges a b z (known_id limits s i z) (free_in limits s)) f.start f.end

  -- the tests before it hold
  decided_holds : Holds g s decided
  unfolding decision_by
  decided_holds =
      let u = from g s in
      let w = to g s in
      let h = between g s in
      let P = Holds g s in
      cases P (planar limits.bound g.start && planar limits.bound g.end) _ _ (λ e1.
      cases P (key_same (key_of g.start.x g.start.y) (key_of g.end.x g.end.y)) _ _ (λ e2. tt) (λ e2.
      cases P (ltb h (2 * s.edges)) _ _
      (λ joined. cases P (known_id limits s g.line_id h) _ _ (λ known. tt) (λ new.
      cases P (ltb (free_in limits s) limits.pairs) _ _
      (λ e12. record { there = ltb-true _ _ joined; edge = refl; new = new; space = ltb-true _ _ e12 }) (λ e12. tt)))
      (λ apart. cases P (leb (s.nodes + (one (eqb u s.nodes) + one (eqb w s.nodes))) limits.nodes) _ _ (λ e3.
      cases P (ltb s.edges limits.edges) _ _ (λ e4.
      cases P (ltb (free_in limits s) limits.pairs) _ _ (λ e12. (
        record {
          space = leb-true _ _ e3;
          few = ltb-true _ _ e4;
          new_start_lem = λ a. eqb-true u s.nodes a;
          new_end_lem = λ a. new-end (eqb u s.nodes) (eqb w s.nodes) s.nodes w a (eqb-true w s.nodes);
          old_start = λ a. found_below (λ n. key_same (key_in_lem s.node_x s.node_y n) (key_of g.start.x g.start.y)) s.nodes a;
          old_end = λ a.
              let b = found_below (λ n. key_same (key_in_lem s.node_x s.node_y n) (key_of g.end.x g.end.y)) s.nodes a in
              let z = old_end_lem (eqb u s.nodes) (eqb w s.nodes) s.nodes w a in
              omega (arith, b, z);
          low = λ n l. omega (arith, ((sense s ready).new (omega (arith, ready.stage))).degrees n l, star-length s n, (sense s ready).edges);
        },
        ltb-true _ _ e12,
      )) (λ e12. tt)) (λ e4. tt)) (λ e3. tt)))) (λ e1. tt)

  -- an edge that is to be made can be, and there is a place for its pair
  pub makeable : (e : Ends) → decided ≡ Ok (Make e) → Makeable s.nodes s.edges e s.degree × (free_in limits s < limits.pairs)
  makeable e q = subst (Holds g s) q decided_holds

  -- an id that is to be entered can be
  pub enterable : (k : EdgeId) → decided ≡ Ok (Enter k) → Enterable g s k.0
  enterable k q = subst (Holds g s) q decided_holds

-- what an addition leaves can be added to again
pub ready_again : (g : Line3D) (s : State) → Ready limits s → (o : Outcome rules.Added Nothing) → o ≡ add limits g s → Ready limits o.state
ready_again g s ready o e =
    let k = add-keeps limits (omega arith) g s ready.room ready.sense ready.stage in
    subst (λ x. Ready limits x.state) (sym e) (record { room = k.0; sense = k.1; stage = k.2 })
