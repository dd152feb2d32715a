-- Chains of a graph: empty ones, what they hold after an addition, and how they hold what it brought.
use Prim.Native.Nat.{ℕ, ◌+◌, ◌*◌, ◌<◌, ◌≤◌}
use native.Mathlib.Omega.{arith}
use mathlib.Core.Path.{◌≡◌, sym, ap, ap₂, subst, ◌∙◌}
use mathlib.Core.List.{List}
use lib.Ieee.{Float}
use lib.ListN.{length, get_or, replicate, length-replicate}
use Rattle.chains.specs.Chains.{Chained}
use Rattle.chains.proofs.Chaining.{chained-none, chained_same}
use Rattle.geometry.specs.declared.Line3D.{Line3D}
use Rattle.rules.specs.Limits.{limits}
use Rattle.rules.specs.State.{State}
use Rattle.rules.specs.Adding.{Outcome, Nothing, add}
use Rattle.rules.specs.Adding as rules
use Rattle.searching.specs.Searches.{Searchable}
use Rattle.adding.specs.Outcomes.{Ready}
use Rattle.adding.proofs.Carrying.{searchable, ready_again}
use Rattle.adding.proofs.Kept.{Kept, add_kept, star-below}
use Rattle.lookup.specs.Codes.{node_heads, half_heads, key_code_lem, pair_code_lem, node_code_lem, half_code_lem}
use Rattle.lookup.specs.Indexed.{NodesChained, HalvesChained, Indexed}

-- ---- no node, no half-edge

pub no_nodes : (xs ys : List Float) (chains : List ℕ) → chains ≡ replicate (length chains) 0 → node_heads ≤ length chains → NodesChained 0 xs ys chains
no_nodes xs ys chains e h = record {
  room_x = omega arith;
  room_y = omega arith;
  room = omega arith;
  chained = subst (Chained node_heads (node_code_lem xs ys) 0) (sym e) (chained-none node_heads (node_code_lem xs ys) (length chains) h);
}

pub no_halves : (source target star chains : List ℕ) → chains ≡ replicate (length chains) 0 → half_heads ≤ length chains → HalvesChained 0 source target star chains
no_halves source target star chains e h = record {
  room_star = omega arith;
  known = λ i q. absurd (omega arith);
  room = omega arith;
  chained = subst (Chained half_heads (half_code_lem source target star) 0) (sym e) (chained-none half_heads (half_code_lem source target star) (length chains) h);
}

-- ---- a graph's chains, as the searches ask for them

module _ (line : Line3D) (s : State) (ready : Ready limits s) (node_chains half_chains : List ℕ) (k : Indexed limits s node_chains half_chains) where
  -- of its nodes
  pub nodes-chained : NodesChained s.nodes s.node_x s.node_y node_chains
  nodes-chained =
      let q = searchable s ready in
      record {
        room_x = q.room_x;
        room_y = q.room_y;
        room = omega (arith, k.node_room, q.few_nodes);
        chained = k.nodes;
      }

  -- of its half-edges
  pub halves-chained : HalvesChained (2 * s.edges) s.source s.target s.star half_chains
  halves-chained =
      let q = searchable s ready in
      record {
        room_star = q.room_star;
        known = q.known;
        room = omega (arith, k.half_room, q.few_edges);
        chained = k.halves;
      }

  -- ---- after an addition

  module _ (o : Outcome rules.Added Nothing) (is : o ≡ add limits line s) where
    -- what it left
    abbrev t : State
    t = o.state

    kept : Kept s t
    kept = add_kept line s ready o is

    -- it can be searched
    pub ask : Searchable t.nodes t.edges t.node_x t.node_y t.source t.target t.star
    ask = searchable t (ready_again line s ready o is)

    -- the nodes that were there are chained in the new tables, and there is room for the others
    pub nodes_still : NodesChained s.nodes t.node_x t.node_y node_chains × (s.nodes ≤ t.nodes) × (node_heads + t.nodes ≤ length node_chains)
    nodes_still = (
      record {
        room_x = omega (arith, kept.nodes, ask.room_x);
        room_y = omega (arith, kept.nodes, ask.room_y);
        room = nodes-chained.room;
        chained = chained_same node_heads (node_code_lem s.node_x s.node_y) (node_code_lem t.node_x t.node_y) s.nodes node_chains (λ m h. ap key_code_lem (sym (kept.key m h))) k.nodes;
      },
      kept.nodes,
      omega (arith, k.node_room, ask.few_nodes),
    )

    -- the code of an entry that was there
    same_code : (i : ℕ) → i < 2 * s.edges → half_code_lem s.source s.target s.star i ≡ half_code_lem t.source t.target t.star i
    same_code i h =
        let g = get_or s.star i 0 in
        let low = star-below s ready i h in
        ap₂ pair_code_lem (sym (kept.source g low)) (sym (kept.target g low))
        ∙ ap (λ g. pair_code_lem (get_or t.source g 0) (get_or t.target g 0)) (sym (kept.star i h))

    -- the half-edges likewise
    pub halves_still : HalvesChained (2 * s.edges) t.source t.target t.star half_chains × (s.edges ≤ t.edges) × (half_heads + 2 * t.edges ≤ length half_chains)
    halves_still = (
      record {
        room_star = omega (arith, kept.edges, ask.room_star);
        known = λ i h. ask.known i (omega (arith, kept.edges));
        room = halves-chained.room;
        chained = chained_same half_heads (half_code_lem s.source s.target s.star) (half_code_lem t.source t.target t.star) (2 * s.edges) half_chains same_code k.halves;
      },
      kept.edges,
      omega (arith, k.half_room, ask.few_edges),
    )

    -- with what is new chained too, all is
    pub indexed_again : (node_chains' half_chains' : List ℕ) → NodesChained t.nodes t.node_x t.node_y node_chains'
        → HalvesChained (2 * t.edges) t.source t.target t.star half_chains' → length node_chains' ≡ length node_chains → length half_chains' ≡ length half_chains
        → Indexed limits t node_chains' half_chains'
    indexed_again node_chains' half_chains' a b la lb = record {
      nodes = a.chained;
      halves = b.chained;
      node_room = omega (arith, la, k.node_room);
      half_room = omega (arith, lb, k.half_room);
    }

-- ---- fresh tables

-- a table of zeros
pub zeros : (n : ℕ) → replicate {A = ℕ} n 0 ≡ replicate {A = ℕ} (length (replicate {A = ℕ} n 0)) 0
zeros n = ap (λ m. replicate {A = ℕ} m 0) (sym (length-replicate {A = ℕ} n 0))

-- is as long as it was made
pub zeros_long : (m n : ℕ) → m ≤ n → m ≤ length (replicate {A = ℕ} n 0)
zeros_long m n h = omega (arith, length-replicate {A = ℕ} n 0)

-- and so is what comes of it
pub still_long : (m n : ℕ) (l : List ℕ) → length l ≡ length (replicate {A = ℕ} n 0) → m ≤ n → m ≤ length l
still_long m n l e h = omega (arith, e, length-replicate {A = ℕ} n 0)
