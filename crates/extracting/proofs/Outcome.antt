-- What ring extraction leaves is the outcome of the rule.
use Prim.Native.Nat.{ℕ, ◌*◌}
use mathlib.Core.Path.{◌≡◌, refl, sym, ap, subst, ◌∙◌}
use mathlib.Core.Bool.{Bool, true, ◌&&◌}
use mathlib.Core.List.{List}
use lib.Dec.{eqb, leb}
use lib.ListN.{length, take, length-map}
use lib.Ieee.{Float}
use borrow.Author.Tests.{eq-eqb, leb-true}
use Rattle.lists.specs.Lists.{flatten}
use Rattle.lists.proofs.Tests.{both}
use Rattle.geometry.specs.Reply.{success}
use Rattle.rules.specs.Limits.{Limits}
use Rattle.rules.specs.Cycles.{Arrangement}
use Rattle.rules.specs.Split.{minimal_rings}
use Rattle.rules.specs.Euler.{Census as Counts, edge_count, census}
use Rattle.rules.specs.Sane.{Sane}
use Rattle.rules.specs.LineIds.{Tracings}
use Rattle.rules.specs.State.{State, arrangement, arrangement_in, roomy, sound}
use Rattle.rules.specs.Adding.{Outcome, demand}
use Rattle.rules.specs.Ringing.{RingLists, Ringing, long_enough, rings_of, ringed, ring_step}
use Rattle.rules.proofs.Soundness.{is-sound}
use Rattle.rules.proofs.Tables.{sound-sane}
use Rattle.rules.proofs.Counting.{minimal_halves}
use Rattle.rules.proofs.Replies.{ring_step-is}
use Rattle.tables.specs.Tables.{state_of}
use Rattle.tables.specs.declared.PlanarGraph.{PlanarGraph}
use Rattle.stars.specs.Grouped.{Grouped}
use Rattle.cycles.specs.Census.{census_of}
use Rattle.extracting.specs.declared.Extracted.{Extracted}
use Rattle.extracting.specs.Extraction.{Room, Extractable, Extraction}

-- ---- the arrangement of a state

-- it is that of its tables
pub arrangement-is : (s : State) → arrangement_in s.nodes s.edges s.source s.half_mark s.star ≡ arrangement s
unfolding arrangement
arrangement-is s = refl

-- it is sane where the state is sound
pub held-sane : (l : Limits) (s : State) → sound l s ≡ true → Sane (arrangement_in s.nodes s.edges s.source s.half_mark s.star)
held-sane l s e = subst Sane (sym (arrangement-is s)) (sound-sane l s (is-sound l s e))

-- the edges of a census
census-edges : (g : Arrangement) → (census g).edges ≡ edge_count g
unfolding census
census-edges g = refl

-- the rings have twice as many half-edges as the census has edges
pub total-is : (l : Limits) (s : State) → sound l s ≡ true → (c : Counts) → c ≡ census (arrangement s) → 2 * c.edges ≡ length (flatten (minimal_rings (arrangement s)))
total-is l s e c q =
    ap (λ k. 2 * k) (ap (λ z. z.edges) q ∙ census-edges (arrangement s)) ∙ sym (minimal_halves (arrangement s) (sound-sane l s (is-sound l s e)))

-- as many rings as lists of half-edges
pub rings-many : (s : State) → length (minimal_rings (arrangement s)) ≡ length (rings_of s)
unfolding rings_of
rings-many s = sym (length-map (minimal_rings (arrangement s)) _)

-- ---- the outcome

-- the lists are long enough where they pass the test
pub long-room : (n : ℕ) (out : RingLists) → long_enough n out ≡ true → Room n out
long-room n out e =
    let a = both (leb n (length out.half_edges_lem)) (leb n (length out.first) && (leb n (length out.length) && (leb n (length out.face) && (leb n (length out.side) && leb n (length out.area))))) e in
    let b = both (leb n (length out.first)) (leb n (length out.length) && (leb n (length out.face) && (leb n (length out.side) && leb n (length out.area)))) a.1 in
    let c = both (leb n (length out.length)) (leb n (length out.face) && (leb n (length out.side) && leb n (length out.area))) b.1 in
    let d = both (leb n (length out.face)) (leb n (length out.side) && leb n (length out.area)) c.1 in
    let f = both (leb n (length out.side)) (leb n (length out.area)) d.1 in
    record {
      in_half_edges = leb-true n (length out.half_edges_lem) a.0;
      in_first = leb-true n (length out.first) b.0;
      in_size = leb-true n (length out.length) c.0;
      in_face = leb-true n (length out.face) d.0;
      in_side = leb-true n (length out.side) f.0;
      in_area = leb-true n (length out.area) f.1;
    }

-- a sound state whose stars are grouped gives what extraction asks
pub sound_extractable : (l : Limits) (g : PlanarGraph) (xs ys zs : List Float) (ds : List ℕ) (nm : List Bool) (lines : List Float) (ids source target : List ℕ) (hm : List Bool) (star : List ℕ) (tracings : Tracings)
    → let s = state_of g xs ys zs ds nm lines ids source target hm star tracings in
    roomy l s ≡ true → sound l s ≡ true → (offsets grouped : List ℕ) → Grouped s.nodes source (take (2 * s.edges) star) offsets grouped
    → (out : RingLists) → long_enough (2 * s.edges) out ≡ true → Extractable l g xs ys source hm offsets grouped out
sound_extractable l g xs ys zs ds nm lines ids source target hm star tracings room sense offsets grouped t out fits = record {
  nodes_z = zs;
  degree = ds;
  nodes_marked = nm;
  lines = lines;
  line_ids = ids;
  target = target;
  star = star;
  tracings = tracings;
  roomed = room;
  sense = sense;
  groups = t;
  long = long-room (2 * g.edge_count) out fits;
}

-- what extraction leaves, as an outcome
pub extraction-ringed : (g : PlanarGraph) (xs ys zs : List Float) (ds : List ℕ) (nm : List Bool) (lines : List Float) (ids source target : List ℕ) (hm : List Bool) (star : List ℕ) (tracings : Tracings) (out out' : RingLists) (r : Extracted)
    → let s = state_of g xs ys zs ds nm lines ids source target hm star tracings in
    Extraction s out out' r
    → ◌≡◌ {A = Outcome Ringing RingLists} (record { reply = success (record { count = r.count; census = census_of r.census; comparisons = r.comparisons }); state = state_of r.graph xs ys zs ds nm lines ids source target hm star tracings; lists = out' }) (ringed s out)
unfolding ringed
extraction-ringed g xs ys zs ds nm lines ids source target hm star tracings out out' r e = λ i. record {
  reply = success (record { count = e.count i; census = e.counted i; comparisons = e.compared i });
  state = state_of (e.advanced i) xs ys zs ds nm lines ids source target hm star tracings;
  lists = record { half_edges_lem = e.half_edges_lem i; first = e.first i; length = e.size i; face = e.face i; side = e.side i; area = e.area i };
}

-- the rule's outcome where nothing is refused
pub ring-passes : (l : Limits) (s : State) → roomy l s ≡ true → sound l s ≡ true → s.stage ≡ 3 → (out : RingLists) → long_enough (2 * s.edges) out ≡ true → ring_step l s out ≡ ringed s out
ring-passes l s room sense stage out fits =
    let rest = demand (long_enough (2 * s.edges) out) 8 s out (ringed s out) in
    ring_step-is l s out
    ∙ ap (λ b. demand b 6 s out (demand (sound l s) 7 s out (demand (eqb s.stage 3) 5 s out rest))) room
    ∙ ap (λ b. demand b 7 s out (demand (eqb s.stage 3) 5 s out rest)) sense
    ∙ ap (λ b. demand b 5 s out rest) (eq-eqb s.stage 3 stage)
    ∙ ap (λ b. demand b 8 s out (ringed s out)) fits

-- what extraction leaves of a sound state in stage 3 is the outcome of the rule: its reply, its state and its lists
pub extraction-is-outcome : (l : Limits) (g : PlanarGraph) (xs ys zs : List Float) (ds : List ℕ) (nm : List Bool) (lines : List Float) (ids source target : List ℕ) (hm : List Bool) (star : List ℕ) (tracings : Tracings)
    → let s = state_of g xs ys zs ds nm lines ids source target hm star tracings in
    roomy l s ≡ true → sound l s ≡ true → s.stage ≡ 3 → (out out' : RingLists) (r : Extracted) → long_enough (2 * s.edges) out ≡ true → Extraction s out out' r
    → ring_step l s out ≡ record { reply = success (record { count = r.count; census = census_of r.census; comparisons = r.comparisons }); state = state_of r.graph xs ys zs ds nm lines ids source target hm star tracings; lists = out' }
extraction-is-outcome l g xs ys zs ds nm lines ids source target hm star tracings room sense stage out out' r fits e =
    ring-passes l (state_of g xs ys zs ds nm lines ids source target hm star tracings) room sense stage out fits
    ∙ sym (extraction-ringed g xs ys zs ds nm lines ids source target hm star tracings out out' r e)
