-- Where a line's id goes: what the soundness of the lists says of it, and what writing it asks.
use Prim.Native.Nat.{ℕ, ◌*◌, ◌<◌, ◌≤◌, min}
use native.Mathlib.Omega.{arith}
use mathlib.Core.Path.{◌≡◌, refl, sym, ap, ap₂, ◌∙◌}
use mathlib.Core.Bool.{Bool}
use mathlib.Core.List.{List, [], ◌∷◌}
use lib.Dec.{ltb}
use lib.Ieee.{Float}
use lib.ListN.{get_or}
use borrow.Author.Tests.{ltb-true, ltb-false}
use Rattle.geometry.specs.declared.Line3D.{Line3D}
use Rattle.lists.specs.Lists.{In}
use Rattle.lists.proofs.Counts.{by_test}
use Rattle.rules.specs.HalfEdge.{edge_of}
use Rattle.rules.specs.Limits.{limits}
use Rattle.rules.specs.LineIds.{list_end, places_of, last_lower}
use Rattle.rules.specs.State.{State}
use Rattle.rules.proofs.Twin.{edge-below}
use Rattle.rules.proofs.Soundness.{is-sound}
use Rattle.rules.proofs.PairsTaken.{free_in}
use Rattle.rules.proofs.PlaceChains.{Chain, lower_in}
use Rattle.rules.proofs.Listed.{sound-listed}
use Rattle.tables.specs.Regions.{state_in}
use Rattle.tables.specs.declared.PlanarGraph.{PlanarGraph}
use Rattle.tables.specs.declared.ids.EdgeId.{EdgeId}
use Rattle.tables.proofs.SliceRoom.{room_of}
use Rattle.adding.specs.Outcomes.{Ready}
use Rattle.searching.specs.Searches.{find_half_in}
use Rattle.std.specs.Prelude.{Ok}
use Rattle.adding.specs.declared.Decision.TheVariants.{Enter}
use Rattle.adding.proofs.Carrying.{between, decided, enterable}
use Rattle.table_entries.specs.Written.{IdRoom}
use Rattle.making.specs.declared.IdPlace.{IdPlace}
use Rattle.making.specs.declared.Matches.{Matches}
use Rattle.making.specs.Matching.{FoundIn, PlacedIn}

-- ---- in a sound list

-- an id goes first where the first one is not lower, else behind a place of the list
lower-first : (next id : List ℕ) (pairs i : ℕ) → pairs ≤ list_end
    → (first : ℕ) (ps : List ℕ) → (first ≡ list_end → ⊥) → ((q : ℕ) → In q ps → q < pairs) → Chain next first ps
    → let b = last_lower id i list_end ps in (b ≡ list_end → i ≤ get_or id first 0) × ((b ≡ list_end → ⊥) → (b < pairs) × (get_or id first 0 < i))
lower-first next id pairs i small first [] real within c = absurd (real c)
lower-first next id pairs i small first (p ∷ ps) real within c = by_test (ltb (get_or id p 0) i)
    (λ e.
    let low = within (last_lower id i p ps) (lower_in id i p ps) in
    rw e ((λ z. absurd (omega arith)), (λ d. (low, rw c.0 (ltb-true (get_or id p 0) i e)))))
    (λ e. rw e ((λ z. rw c.0 (ltb-false (get_or id p 0) i e)), (λ d. absurd (d refl))))

-- the place behind which id i goes in edge k's list
abbrev last : State → ℕ → ℕ → ℕ
last s i k = last_lower s.tracings.id i list_end (places_of limits.pairs s.tracings k)

-- the list starts with the line id, so an id that is lower goes first
last_line : (s : State) → Ready limits s → (i k : ℕ) → k < s.edges → let line = get_or s.line_id k 0 in
    (last s i k ≡ list_end → min i line ≡ i) × ((last s i k ≡ list_end → ⊥) → (last s i k < limits.pairs) × (min i line ≡ line))
last_line s ready i k few =
    let r = sound-listed limits.pairs (omega arith) s.tracings s.line_id s.edges (is-sound limits s ready.sense).lists in
    let first = r.first k few in
    let starts = r.starts k few in
    let m = lower-first s.tracings.next s.tracings.id limits.pairs i (omega arith) (get_or s.tracings.place k list_end) (places_of limits.pairs s.tracings k)
    (λ e. omega (arith, first)) (r.within k few) (r.chain k few) in
    ((λ z. omega (arith, m.0 z, starts)), (λ d. ((m.1 d).0, omega (arith, (m.1 d).1, starts))))

-- ---- in the slices

-- the free place that is told is the lowest, where that is in the table
pub free-told : (s : State) (p : ℕ) → p ≡ min (free_in limits s) limits.pairs → free_in limits s < limits.pairs → p ≡ free_in limits s
free-told s p e h = omega arith

module _ (g : Line3D) (graph : PlanarGraph) (floats : List Float) (numbers stars : List ℕ) (marks : List Bool) (ids : List ℕ) where
  -- the state that the slices hold
  abbrev held : State
  held = state_in limits graph floats numbers stars marks ids

  module _ (ready : Ready limits held) (m : Matches) (spot : IdPlace) (found : FoundIn limits g graph floats numbers stars m) (placed : PlacedIn limits g held m spot) where
    -- the half-edge that was found
    half_is : m.half.0 ≡ between g held
    half_is = found.half ∙ ap₂ (find_half_in held.edges held.source held.target held.star) found.start found.end

    -- an id that is to be entered can be written, at the place that is told
    pub enter_room : (k : EdgeId) → decided g held ready ≡ Ok (Enter k) → IdRoom limits k.0 g.line_id spot.behind spot.free numbers ids
    enter_room k d =
        let e = enterable g held ready k d in
        let i = g.line_id in
        let below : m.half.0 < 2 * held.edges = omega (arith, half_is, e.there) in
        let edge = ap edge_of half_is ∙ e.edge in
        let few : k.0 < held.edges = omega (arith, edge-below held.edges m.half.0 below, edge) in
        let behind = placed.behind below ∙ ap (last held i) edge in
        let line = last_line held ready i k.0 few in
        let room = room_of limits graph floats numbers stars marks ids ready.room in
        record {
          few = omega (arith, (is-sound limits held ready.sense).edges);
          space = omega (arith, placed.free, e.space);
          number_room = room.number_room;
          id_room = room.id_room;
          behind = behind;
          within = λ z. omega (arith, behind, (line.1 (λ y. z (behind ∙ y))).0);
          lowest = λ z. line.0 (sym behind ∙ z);
          stays = λ z. (line.1 (λ y. z (behind ∙ y))).1;
        }
