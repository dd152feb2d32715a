-- Where a line's id goes, from what the searches told, and the lowest free place after an addition.
use Prim.Native.Nat.{ℕ, ◌+◌, ◌*◌, ◌<◌, ◌≤◌}
use native.Mathlib.Omega.{arith}
use mathlib.Core.Path.{◌≡◌, refl, sym, ap, ap₂, subst, ◌∙◌}
use mathlib.Core.Bool.{Bool, true, false, cond, ◌&&◌, not}
use mathlib.Core.List.{List}
use lib.Dec.{eqb, ltb}
use lib.Ieee.{Float}
use lib.ListN.{length}
use borrow.Author.Tests.{ltb-true, lt-ltb}
use Rattle.geometry.specs.declared.Line3D.{Line3D}
use Rattle.lists.specs.Lists.{bit}
use Rattle.rules.specs.HalfEdge.{edge_of}
use Rattle.rules.specs.Limits.{limits}
use Rattle.rules.specs.LineIds.{list_end, places_of, last_lower}
use Rattle.rules.specs.State.{State}
use Rattle.rules.specs.Adding.{Outcome, Nothing, find_node_lem, find_half_lem, known_id, add}
use Rattle.rules.specs.Adding as rules
use Rattle.rules.specs.Traced.{entered}
use Rattle.rules.proofs.AddCases.{start_key, end_key, half, known, add_cases}
use Rattle.rules.proofs.PairsTaken.{used_in, free_in, PairTaken, add-taken}
use Rattle.tables.specs.Regions.{state_in, list_places_in, links_in, least_numbers}
use Rattle.tables.specs.declared.PlanarGraph.{PlanarGraph}
use Rattle.line_ids.specs.Free.{used_marks, Ending, free_from, FreeAt}
use Rattle.line_ids.proofs.FreePlace.{free-is, free-start, free-next, free_stay}
use Rattle.adding.specs.Outcomes.{Ready}
use Rattle.searching.specs.Searches.{Found, find_node_in, find_half_in}
use Rattle.adding.proofs.Between.{ends-half}
use Rattle.adding.proofs.Carrying.{between, searchable}
use Rattle.placing.proofs.Seekable.{seekable_in, ending_in}
use Rattle.making.specs.Matching.{PlacedIn}
use Rattle.making.specs.declared.IdPlace.{IdPlace}
use Rattle.making.specs.declared.Matches.{Matches}

-- ---- the search

-- what it tells, with the free place, is where the id goes
pub placed : (g : Line3D) (s : State) (used : List Bool) (m : Matches) (spot : IdPlace) → FreeAt limits s used spot.free
    → spot.known ≡ (ltb m.half.0 (2 * s.edges) && known_id limits s g.line_id m.half.0)
    → (ltb m.half.0 (2 * s.edges) ≡ true → spot.behind ≡ last_lower s.tracings.id g.line_id list_end (places_of limits.pairs s.tracings (edge_of m.half.0)))
    → PlacedIn limits g s m spot
placed g s used m spot free known behind = record {
  free = free.lowest ∙ free-is limits s;
  known = λ h. known ∙ ap (λ b. b && known_id limits s g.line_id m.half.0) (lt-ltb _ _ h);
  behind = λ h. behind (lt-ltb _ _ h);
}

-- ---- the marks

-- the lists can be followed, so that their places can be marked
pub markable_in : (g : PlanarGraph) (floats : List Float) (numbers stars : List ℕ) (marks : List Bool) (ids : List ℕ)
    → Ready limits (state_in limits g floats numbers stars marks ids)
    → (least_numbers limits ≤ length numbers) × Ending limits.pairs (list_places_in limits numbers) (links_in limits numbers) g.edge_count
markable_in g floats numbers stars marks ids ready =
    let q = seekable_in g floats numbers stars marks ids ready in
    (q.number_room, ending_in g.edge_count numbers ids q)

-- with the marks made, the first place that is not marked is the lowest free one
pub free_made : (s : State) (used : List Bool) (free : ℕ) → used ≡ used_marks limits.pairs s.tracings.place s.tracings.next s.edges
    → free ≡ free_from used 0 limits.pairs → FreeAt limits s used free
free_made s used free e f = subst (FreeAt limits s used) (sym f) (subst (λ u. FreeAt limits s u (free_from u 0 limits.pairs)) (sym e) (free-start limits s))

-- ---- the free place

module _ (s s' : State) (used : List Bool) (free : ℕ) (r : FreeAt limits s used free) where
  -- a pair that was entered took the place that was told
  taken_at : (b : Bool) → PairTaken limits s s' b → b ≡ true → (free < limits.pairs) × (free ≡ free_in limits s)
  taken_at b t e = (omega (arith, t.space e, r.lowest, free-is limits s), omega (arith, t.space e, r.lowest, free-is limits s))

  -- the lowest free place then comes behind it; else it stays
  free_moved : (b : Bool) → PairTaken limits s s' b → FreeAt limits s' used (cond b (free_from used (free + 1) limits.pairs) free)
  free_moved true t =
      let a = taken_at true t refl in
      free-next limits s s' used free r a.0 (λ q. t.counts q ∙ ap (λ p. bit (eqb q p) + used_in limits s q) (sym a.1))
  free_moved false t = free_stay limits s s' used free r (λ q. omega (arith, t.counts q))

module _ (g : Line3D) (s : State) (ready : Ready limits s) where
  -- the half-edge of the rules is the one that the searches find
  half_is : half g s ≡ between g s
  unfolding find_node_lem find_half_lem
  half_is =
      ends-half s.nodes s.edges s.source s.target s.star (searchable s ready).within
      (find_node_in s.nodes s.node_x s.node_y (start_key g s)) (find_node_in s.nodes s.node_x s.node_y (end_key g s))

  module _ (u w h : ℕ) (found : Found g s.nodes s.edges s.node_x s.node_y s.source s.target s.star u w h)
      (told : Bool) (same : h < 2 * s.edges → told ≡ known_id limits s g.line_id h) where
    -- where an edge is found, what was told of it is what the rules ask
    told-known : half g s < 2 * s.edges → told ≡ known limits g s
    told-known l =
        let e : h ≡ half g s = found.half ∙ ap₂ (find_half_in s.edges s.source s.target s.star) found.start found.end ∙ sym half_is in
        same (omega arith) ∙ ap (known_id limits s g.line_id) e

    -- so the answer says whether a pair was entered
    told-entered : let a = (add limits g s).reply in entered (known limits g s) a ≡ entered told a
    told-entered = add_cases limits g s (λ o. entered (known limits g s) o.reply ≡ entered told o.reply)
        (λ n z. refl)
        (λ f. ap not (sym (told-known (ltb-true _ _ f.there))))
        (λ f. refl)

    module _ (o : Outcome rules.Added Nothing) (is : o ≡ add limits g s) where
      -- the places in use after the addition
      told-taken : PairTaken limits s o.state (entered told o.reply)
      told-taken = subst (λ x. PairTaken limits s x.state (entered told x.reply)) (sym is)
          (subst (PairTaken limits s (add limits g s).state) told-entered (add-taken limits (omega arith) g s))

      module _ (used : List Bool) (free : ℕ) (r : FreeAt limits s used free) where
        -- there was one where it entered a pair
        pub free_had : entered told o.reply ≡ true → free + 1 ≤ limits.pairs
        free_had e = omega (arith, (taken_at s o.state used free r (entered told o.reply) told-taken e).0)

        -- the lowest free place after it
        pub free_again : FreeAt limits o.state used (cond (entered told o.reply) (free_from used (free + 1) limits.pairs) free)
        free_again = free_moved s o.state used free r (entered told o.reply) told-taken
