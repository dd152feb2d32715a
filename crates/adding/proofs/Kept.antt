-- An addition only appends: the nodes and half-edges that were there stay as they were.
use Prim.Native.Nat.{ℕ, ◌+◌, ◌*◌, ◌<◌, ◌≤◌}
use native.Mathlib.Omega.{arith}
use mathlib.Core.Path.{◌≡◌, refl, sym, ap₂, subst, ◌∙◌}
use mathlib.Core.Bool.{Bool, true, false, cond}
use mathlib.Core.List.{List}
use lib.Ieee.{nan}
use lib.ListN.{length, get_or, set, take}
use lib.Seq.{get_or-set_other, get_or-take, length-take-le}
use Rattle.geometry.specs.declared.Coord3D.{Coord3D}
use Rattle.geometry.specs.declared.Line3D.{Line3D}
use Rattle.lists.proofs.Members.{in_at}
use Rattle.rules.specs.Keys.{key_of}
use Rattle.rules.specs.Limits.{limits}
use Rattle.rules.specs.State.{State, key_in_lem}
use Rattle.rules.specs.Adding.{Outcome, with_node, with_edge, with_id, Nothing, add}
use Rattle.rules.specs.Adding as rules
use Rattle.rules.proofs.PairsTaken.{free_in}
use Rattle.rules.proofs.Soundness.{is-roomy, is-sound}
use Rattle.rules.proofs.Tables.{star-table-only}
use Rattle.std.specs.Prelude.{Ok, Err}
use Rattle.adding.specs.Decisions.{Decided}
use Rattle.adding.specs.declared.Decision.TheVariants.{Make, Enter, Keep}
use Rattle.adding.specs.Outcomes.{Ready}
use Rattle.adding.proofs.Carrying.{carried, decided, add_carried, makeable}

-- t has what s has, and perhaps more behind it
pub record Kept (s t : State) : Type 0 where
  pub nodes : s.nodes ≤ t.nodes
  pub edges : s.edges ≤ t.edges
  pub key : (n : ℕ) → n < s.nodes → key_in_lem t.node_x t.node_y n ≡ key_in_lem s.node_x s.node_y n
  pub source : (h : ℕ) → h < 2 * s.edges → get_or t.source h 0 ≡ get_or s.source h 0
  pub target : (h : ℕ) → h < 2 * s.edges → get_or t.target h 0 ≡ get_or s.target h 0
  pub star : (i : ℕ) → i < 2 * s.edges → get_or t.star i 0 ≡ get_or s.star i 0

-- nothing is changed
pub kept_same : (s : State) → Kept s s
kept_same s = record { nodes = omega arith; edges = omega arith; key = λ n q. refl; source = λ h q. refl; target = λ h q. refl; star = λ i q. refl }

-- one step after the other
pub kept_then : (s t w : State) → Kept s t → Kept t w → Kept s w
kept_then s t w a b = record {
  nodes = omega (arith, a.nodes, b.nodes);
  edges = omega (arith, a.edges, b.edges);
  key = λ n q. b.key n (omega (arith, a.nodes)) ∙ a.key n q;
  source = λ h q. b.source h (omega (arith, a.edges)) ∙ a.source h q;
  target = λ h q. b.target h (omega (arith, a.edges)) ∙ a.target h q;
  star = λ i q. b.star i (omega (arith, a.edges)) ∙ a.star i q;
}

-- the next node, where it is made
kept-node : (b : Bool) (n : ℕ) (c : Coord3D) (s : State) → (b ≡ true → n ≡ s.nodes) → Kept s (with_node b n c s)
kept-node false n c s e = kept_same s
kept-node true n c s e =
    let at = e refl in
    record {
      nodes = omega (arith, at);
      edges = omega arith;
      key = λ m q.
          let d : m ≡ n → ⊥ = λ z. omega (arith, at) in
          ap₂ key_of (get_or-set_other s.node_x n m c.x nan d) (get_or-set_other s.node_y n m c.y nan d);
      source = λ h q. refl;
      target = λ h q. refl;
      star = λ i q. refl;
    }

-- the node count with the node
node-count : (b : Bool) (n : ℕ) (c : Coord3D) (s : State) → (b ≡ true → n ≡ s.nodes) → (with_node b n c s).nodes ≡ s.nodes + cond b 1 0
node-count true n c s e = omega (arith, e refl)
node-count false n c s e = omega arith

-- the entries before two new ones
before_two : (t : List ℕ) (f a b h : ℕ) → h < f → get_or (set (set t f a) (f + 1) b) h 0 ≡ get_or t h 0
before_two t f a b h q = get_or-set_other (set t f a) (f + 1) h b 0 (λ e. omega arith) ∙ get_or-set_other t f h a 0 (λ e. omega arith)

-- the next edge
kept-edge : (u v p : ℕ) (g : Line3D) (s : State) → Kept s (with_edge u v p g s)
kept-edge u v p g s = let f = 2 * s.edges in record {
  nodes = omega arith;
  edges = omega arith;
  key = λ n q. refl;
  source = λ h q. before_two s.source f u v h q;
  target = λ h q. before_two s.target f v u h q;
  star = λ i q. before_two s.star f f (f + 1) i q;
}

-- one more id behind an edge
kept-id : (pairs k i p : ℕ) (s : State) → Kept s (with_id false pairs k i p s)
kept-id pairs k i p s =
    record { nodes = omega arith; edges = omega arith; key = λ n q. refl; source = λ h q. refl; target = λ h q. refl; star = λ h q. refl }

module _ (g : Line3D) (s : State) (ready : Ready limits s) where
  -- whatever was decided
  kept_carried : (d : Decided) → decided g s ready ≡ d → Kept s (carried d g s).state
  kept_carried (Err why) e = kept_same s
  kept_carried (Ok (Keep k)) e = kept_same s
  kept_carried (Ok (Enter k)) e = kept-id limits.pairs k.0 g.line_id (free_in limits s) s
  kept_carried (Ok (Make e)) q =
      let m = (makeable g s ready e q).0 in
      let t = with_node e.new_start e.start.0 g.start s in
      let w = with_node e.new_end e.end.0 g.end t in
      let n = node-count e.new_start e.start.0 g.start s m.new_start_lem in
      kept_then s w (with_edge e.start.0 e.end.0 (free_in limits s) g w)
      (kept_then s t w
      (kept-node e.new_start e.start.0 g.start s m.new_start_lem)
      (kept-node e.new_end e.end.0 g.end t (λ b. m.new_end_lem b ∙ sym n)))
      (kept-edge e.start.0 e.end.0 (free_in limits s) g w)

  -- an addition keeps what was there
  pub add_kept : (o : Outcome rules.Added Nothing) → o ≡ add limits g s → Kept s o.state
  add_kept o e = subst (λ x. Kept s x.state) (sym (e ∙ add_carried g s ready)) (kept_carried (decided g s ready) refl)

-- an entry of the star table is a half-edge
pub star-below : (s : State) → Ready limits s → (i : ℕ) → i < 2 * s.edges → get_or s.star i 0 < 2 * s.edges
star-below s ready i q =
    let room = is-roomy limits s ready.room in
    let sense = is-sound limits s ready.sense in
    let n = 2 * s.edges in
    let m : n ≤ length s.star = omega (arith, room.star, sense.edges) in
    let h = in_at (take n s.star) i (omega (arith, length-take-le n s.star m)) in
    let b = star-table-only limits s sense (get_or (take n s.star) i 0) h in
    omega (arith, get_or-take n s.star i 0 q, b)
