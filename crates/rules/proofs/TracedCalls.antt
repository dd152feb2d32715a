-- Every list of calls from a new graph keeps the claim about line ids.
use Prim.Native.Nat.{ℕ, ◌<◌, ◌≤◌}
use native.Mathlib.Omega.{arith}
use mathlib.Core.Path.{◌≡◌, refl, sym, ap, ap₂, subst, ◌∙◌}
use mathlib.Core.Bool.{Bool, true, false, ◌||◌}
use mathlib.Core.List.{List, [], ◌∷◌, ◌++◌, map}
use lib.Dec.{ltb}
use lib.ListN.{length, get_or}
use borrow.Author.Tests.{ltb-true}
use Rattle.geometry.specs.declared.Line3D.{Line3D}
use Rattle.lists.specs.Lists.{upto, count_of, member, In, flatten, rising, once}
use Rattle.lists.specs.Sort.{sorted}
use Rattle.lists.proofs.Rising.{rising-sorted}
use Rattle.rules.specs.HalfEdge.{edge_of}
use Rattle.rules.specs.Limits.{Limits, limits}
use Rattle.rules.specs.LineIds.{list_end, places_of, ids_of, used_places, lowest_free}
use Rattle.rules.specs.State.{State}
use Rattle.rules.specs.Adding.{Outcome, with_node, with_edge, with_id, Added, add}
use Rattle.rules.specs.Sketch.{Call, adding, sorting, pruning, cutting, ringing, resetting}
use Rattle.rules.specs.Claim.{call, World, turn_world, history, empty_sketch}
use Rattle.rules.specs.Traced.{Pass, pass_of, passes, passed, ids_for, Traced, IdClaim}
use Rattle.rules.proofs.Twin.{edge-below}
use Rattle.rules.proofs.Soundness.{Roomy, Sound}
use Rattle.rules.proofs.AddCases.{u, nu, nv, v, half, used, known, add_cases}
use Rattle.rules.proofs.FreePlaces.{free-out}
use Rattle.rules.proofs.Listed.{used_are}
use Rattle.rules.proofs.AddingSound.{with_edges}
use Rattle.rules.proofs.Refused.{SameIds, other-ids}
use Rattle.rules.proofs.TracedAdding.{Kept, Ready, known_kept, new-kept, node_ready, node_kept, edge_kept}

-- ---- an addition

-- the claim after an outcome
abbrev KeptBy : {L : Type 0} → Limits → ℕ → List Pass → Outcome Added L → Type 0
KeptBy l i log o = Kept l o.state (pass_of i o.reply ++ log)

-- an id, known or not
id-kept : (l : Limits) → l.pairs ≤ list_end → (known : Bool) (k i x : ℕ) (s : State) (log : List Pass) → Roomy l s → Sound l s → Kept l s log → k < s.edges
    → known ≡ member i (ids_of l.pairs s.tracings k) → count_of x (used_places l.pairs s.tracings s.edges) ≡ 0 → (known || ltb x l.pairs) ≡ true
    → Kept l (with_id known l.pairs k i x s) (record { edge = k; id = i } ∷ log)
id-kept l small true k i x s log room ok r lk e free space = known_kept l small s log k i x r lk (sym e)
id-kept l small false k i x s log room ok r lk e free space =
    new-kept l small s log k i x r lk ok.lists (ltb-true x l.pairs space) free room.id room.next
    (omega (arith, room.place, ok.edges)) (omega (arith, room.line_id, ok.edges)) (sym e)

module _ (l : Limits) (small : l.pairs ≤ list_end) where
  -- the new nodes and the edge
  new-edge : (new_u new_v : Bool) (u v x : ℕ) (g : Line3D) (s : State) (log : List Pass) → Kept l s log → Ready l s x
      → Kept l (with_edge u v x g (with_node new_v v g.end (with_node new_u u g.start s))) (record { edge = s.edges; id = g.line_id } ∷ log)
  new-edge new_u new_v u v x g s log r q =
      let s₁ = with_node new_u u g.start s in
      let s₂ = with_node new_v v g.end s₁ in
      subst (λ e. Kept l (with_edge u v x g s₂) (record { edge = e; id = g.line_id } ∷ log)) (with_edges new_v v g.end s₁ ∙ with_edges new_u u g.start s)
      (edge_kept l small u v x g s₂ log (node_kept l new_v v g.end s₁ log (node_kept l new_u u g.start s log r))
      (node_ready l new_v v g.end s₁ x (node_ready l new_u u g.start s x q)))

  -- an addition keeps the claim
  add_kept : (g : Line3D) (s : State) (log : List Pass) → Kept l s log → KeptBy l g.line_id log (add l g s)
  add_kept g s log r = add_cases l g s (λ o. KeptBy l g.line_id log o)
      (λ n z. r)
      (λ f. id-kept l small (known l g s) (edge_of (half g s)) g.line_id (lowest_free (used l g s)) s log f.tested.room f.tested.ok r
      (edge-below s.edges (half g s) (ltb-true _ _ f.there)) refl (free-out (used l g s)) f.space)
      (λ f.
      let room = f.tested.room in
      let few = f.edges in
      new-edge (nu g s) (nv g s) (u g s) (v g s) (lowest_free (used l g s)) g s log r (record {
        lists = f.tested.ok.lists;
        space = f.space;
        free = free-out (used l g s);
        id = room.id;
        next = room.next;
        place = omega (arith, room.place);
        line = omega (arith, room.line_id);
      }))

  -- ---- any call

  -- what does not change the ids keeps the claim
  same_kept : (s t : State) (log : List Pass) → SameIds s t → Kept l s log → Kept l t log
  same_kept s t log (e, i, d) r =
      let used : used_places l.pairs t.tracings t.edges ≡ used_places l.pairs s.tracings s.edges = ap₂ (used_places l.pairs) d e in
      record {
        traced = λ k h.
            let c = r.traced k (omega arith) in
            let ids : ids_of l.pairs t.tracings k ≡ ids_of l.pairs s.tracings k = ap (λ z. ids_of l.pairs z k) d in
            let line : get_or t.line_id k 0 ≡ get_or s.line_id k 0 = ap (λ z. get_or z k 0) i in
            record {
              exact = λ a. ap (member a) ids ∙ c.exact a;
              rises = ap rising ids ∙ c.rises;
              own = subst (λ z. In z (ids_for k log)) (sym line) c.own;
              lowest = λ a m. omega (arith, c.lowest a m);
            };
        none = λ k h. r.none k (omega arith);
        used = ap length used ∙ r.used;
      }

  -- a call keeps the claim
  pub call_kept : (c : Call) (w : World) (log : List Pass) → Kept l w.state log → Kept l (turn_world l c w).state (passes l c w.state ++ log)
  unfolding call passes
  call_kept (adding g) w log r = add_kept g w.state log r
  call_kept sorting w log r = same_kept w.state _ log (other-ids l w.state sorting refl) r
  call_kept (pruning out) w log r = same_kept w.state _ log (other-ids l w.state (pruning out) refl) r
  call_kept (cutting out) w log r = same_kept w.state _ log (other-ids l w.state (cutting out) refl) r
  call_kept (ringing out) w log r = same_kept w.state _ log (other-ids l w.state (ringing out) refl) r
  call_kept resetting w log r = same_kept w.state _ log (other-ids l w.state resetting refl) r

  -- so does a list of calls
  pub history-kept : (cs : List Call) (w : World) (log : List Pass) → Kept l w.state log → Kept l (history l cs w).state (passed l cs w log)
  unfolding history passed
  history-kept [] w log r = r
  history-kept (c ∷ cs) w log r = history-kept cs (turn_world l c w) (passes l c w.state ++ log) (call_kept c w log r)

  -- a new graph has no edges, and no place is in use
  pub start-kept : (s : State) → s.edges ≡ 0 → Kept l s []
  start-kept s e = record {
    traced = λ k h. absurd (omega arith);
    none = λ k h. refl;
    used = ap length (used_are l.pairs s.tracings s.edges ∙ ap (λ n. flatten (map (places_of l.pairs s.tracings) (upto n))) e);
  }

  -- the claim
  pub id_claim : IdClaim l
  unfolding IdClaim
  id_claim s e calls =
      let r = history-kept calls (record { state = s; sketch = empty_sketch }) [] (start-kept s e) in
      (r.traced, r.used)

-- for this library's limits
pub line_ids_lem : IdClaim limits
line_ids_lem = id_claim limits (omega arith)

-- as one equation: the ids of an edge are those of the additions that made or found it, each once, sorted
pub traced_sorted : (l : Limits) (s : State) (log : List Pass) (k : ℕ) → Traced l s log k → ids_of l.pairs s.tracings k ≡ sorted ltb (once (ids_for k log))
traced_sorted l s log k t = rising-sorted (ids_of l.pairs s.tracings k) (ids_for k log) t.rises t.exact
