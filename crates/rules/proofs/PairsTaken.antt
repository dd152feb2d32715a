-- The places in use after an addition: those before it, and the lowest free place where a pair was entered.
use Prim.Native.Nat.{ℕ, ◌+◌, ◌<◌, ◌≤◌}
use native.Mathlib.Omega.{arith}
use mathlib.Core.Path.{◌≡◌, refl, sym, ap, ap₂, ◌∙◌}
use mathlib.Core.Bool.{Bool, true, false, cond, ◌||◌, not}
use lib.Dec.{eqb, ltb}
use borrow.Author.Tests.{ltb-true, ltb-false}
use Rattle.geometry.specs.declared.Line3D.{Line3D}
use Rattle.lists.specs.Lists.{bit, count_of, member}
use Rattle.rules.specs.HalfEdge.{edge_of}
use Rattle.rules.specs.Limits.{Limits}
use Rattle.rules.specs.LineIds.{list_end, ids_of, used_places, lowest_free}
use Rattle.rules.specs.State.{State}
use Rattle.rules.specs.Adding.{with_node, with_edge, with_id, add}
use Rattle.rules.specs.Traced.{entered}
use Rattle.rules.proofs.Twin.{edge-below}
use Rattle.rules.proofs.Soundness.{Roomy, Sound}
use Rattle.rules.proofs.AddCases.{u, nu, nv, v, s₂, half, used, known, add_cases}
use Rattle.rules.proofs.FreePlaces.{free-out}
use Rattle.rules.proofs.KeepingLists.{begun-counts, more_counts}
use Rattle.rules.proofs.AddingSound.{with_edges, with_tracings}
use Rattle.rules.proofs.TracedAdding.{Ready, node_ready}

-- the places in use
abbrev pub used_in : Limits → State → ℕ → ℕ
used_in l s q = count_of q (used_places l.pairs s.tracings s.edges)

-- the lowest free place
abbrev pub free_in : Limits → State → ℕ
free_in l s = lowest_free (used_places l.pairs s.tracings s.edges)

-- what holds of the places of two states where a pair was entered, or not
pub record PairTaken (l : Limits) (s s' : State) (b : Bool) : Type 0 where
  pub space : b ≡ true → free_in l s < l.pairs
  pub counts : (q : ℕ) → used_in l s' q ≡ cond b (bit (eqb q (free_in l s))) 0 + used_in l s q

module _ (l : Limits) (small : l.pairs ≤ list_end) where
  -- nothing is entered
  none-taken : (s : State) → PairTaken l s s false
  none-taken s = record { space = λ e. absurd (no e); counts = λ q. omega arith }
    where
      no : false ≡ true → ⊥
      no e = omega (arith, ap bit e)

  -- an id, known or not
  id-taken : (b : Bool) (k i : ℕ) (s : State) → Roomy l s → Sound l s → k < s.edges → b ≡ member i (ids_of l.pairs s.tracings k)
      → (b || ltb (free_in l s) l.pairs) ≡ true → PairTaken l s (with_id b l.pairs k i (free_in l s) s) (not b)
  id-taken true k i s room ok lk e space = none-taken s
  id-taken false k i s room ok lk e space = record {
    space = λ z. ltb-true _ _ space;
    counts = more_counts l.pairs small s.tracings s.line_id s.edges i (free_in l s) ok.lists (ltb-true _ _ space) (free-out (used_places l.pairs s.tracings s.edges))
        room.id room.next k lk (omega (arith, ltb-false 0 (count_of i (ids_of l.pairs s.tracings k)) (sym e))) (omega (arith, room.place, ok.edges)) (omega (arith, room.line_id, ok.edges));
  }

  -- a new edge
  edge-taken : (a b x : ℕ) (g : Line3D) (s s₀ : State) → Ready l s x → x ≡ free_in l s₀ → ((q : ℕ) → used_in l s q ≡ used_in l s₀ q) → PairTaken l s₀ (with_edge a b x g s) true
  edge-taken a b x g s s₀ r e same = record {
    space = λ z. omega (arith, r.space);
    counts = λ q.
        begun-counts l.pairs small s.tracings s.line_id s.edges g.line_id x r.lists r.space r.free r.id r.next r.place r.line q
        ∙ ap₂ (λ z n. bit (eqb q z) + n) e (same q);
  }

  -- an addition, refused or not
  pub add-taken : (g : Line3D) (s : State) → let o = add l g s in PairTaken l s o.state (entered (known l g s) o.reply)
  add-taken g s = add_cases l g s (λ o. PairTaken l s o.state (entered (known l g s) o.reply))
      (λ n z. none-taken s)
      (λ f. id-taken (known l g s) (edge_of (half g s)) g.line_id s f.tested.room f.tested.ok (edge-below s.edges (half g s) (ltb-true _ _ f.there)) refl f.space)
      (λ f.
      let room = f.tested.room in
      let few = f.edges in
      let s₁ = with_node (nu g s) (u g s) g.start s in
      let k₂ = with_edges (nv g s) (v g s) g.end s₁ ∙ with_edges (nu g s) (u g s) g.start s in
      let t₂ = with_tracings (nv g s) (v g s) g.end s₁ ∙ with_tracings (nu g s) (u g s) g.start s in
      let r : Ready l s (free_in l s) = record {
        lists = f.tested.ok.lists;
        space = f.space;
        free = free-out (used l g s);
        id = room.id;
        next = room.next;
        place = omega (arith, room.place);
        line = omega (arith, room.line_id);
      } in
      edge-taken (u g s) (v g s) (free_in l s) g (s₂ g s) s
      (node_ready l (nv g s) (v g s) g.end s₁ (free_in l s) (node_ready l (nu g s) (u g s) g.start s (free_in l s) r))
      refl (λ q. ap₂ (λ t e. count_of q (used_places l.pairs t e)) t₂ k₂))
