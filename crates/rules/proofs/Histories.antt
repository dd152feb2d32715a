-- Every call keeps the tables following the sketch, so every list of calls does; with it demand 3.
use Prim.Native.Nat.{ℕ, ◌*◌, ◌^◌, ◌≤◌}
use native.Mathlib.Omega.{arith}
use mathlib.Core.Path.{◌≡◌, refl, sym, ap, ◌∙◌}
use mathlib.Core.Bool.{Bool, false}
use mathlib.Core.List.{List, [], ◌∷◌, map}
use lib.Dec.{eqb, leb}
use lib.ListN.{length}
use borrow.Author.Tests.{eqb-true}
use Rattle.lists.specs.Lists.{upto, flatten, over}
use Rattle.geometry.specs.Reply.{refused}
use Rattle.rules.specs.HalfEdge.{edge_of}
use Rattle.rules.specs.Limits.{Limits, Fine, limits}
use Rattle.rules.specs.LineIds.{lowest_free}
use Rattle.rules.specs.State.{State, point_of, roomy, sound}
use Rattle.geometry.specs.declared.Line3D.{Line3D}
use Rattle.rules.specs.Adding.{Outcome, Added, Nothing, add}
use Rattle.rules.specs.Stages.{step, next, sorted_star, sort, prune_step, cut_step, reset}
use Rattle.rules.specs.Ringing.{long_enough}
use Rattle.rules.specs.Extraction.{Lent, holes_in, extract}
use Rattle.rules.specs.Sketch.{Sketch, point_at_lem, Call, adding, sorting, pruning, cutting, ringing, resetting, with_line, sketch_add, sketch_prune, sketch_cut, sketch_reset, feed}
use Rattle.rules.specs.Claim.{is_refused, call, World, turn_world, history, empty_sketch, Claim, Given64, Real, AllReal, SoundClaim}
use Rattle.rules.proofs.Soundness.{Roomy, Sound, is-roomy, is-sound}
use Rattle.rules.proofs.Sketches.{Good}
use Rattle.rules.proofs.SketchCalls.{remark-length, remark-from, remark-to, good-feed, good-empty}
use Rattle.rules.proofs.ExtractionClaims.{AllFollow, claim, sound_claim}
use Rattle.rules.proofs.Following.{Tracks, remarked, tracks_cut, tracks_reset, tracks_ring}
use Rattle.rules.proofs.FollowingPrune.{tracks_prune}
use Rattle.rules.proofs.Sorting.{star-sorted}
use Rattle.rules.proofs.Joining.{half-joins}
use Rattle.rules.proofs.Simple.{Simple, sorted_star-sketch}
use Rattle.rules.proofs.AddCases.{u, v, half, used, known, add_cases}
use Rattle.rules.proofs.Additions.{Fits, demand-fits, tracks_id, k₂, sketch-is, old-sketch, new_simple, new_tracks}
use Rattle.rules.proofs.Areas.{exact-areas, small-areas}

-- ---- adding

-- an addition that was not refused is added to the sketch
fed_added : (g : Line3D) (k : Sketch) → feed false (adding g) k ≡ sketch_add g k
unfolding feed
fed_added g k = refl

-- a refused one is not
refused-fits : (g : Line3D) (k : Sketch) (n : ℕ) (s : State) → Tracks s k → Simple k → Fits {A = Added} {L = Nothing} (adding g) k (record { reply = refused n; state = s; lists = record {} })
unfolding feed
refused-fits g k n s t simple = record { tracks = t; simple = simple }

-- adding keeps both together
add-fits : (l : Limits) (g : Line3D) (s : State) (k : Sketch) → l.bound ≤ 2 ^ 53 → Given64 g → Good k → Simple k → Tracks s k → Fits (adding g) k (add l g s)
add-fits l g s k fine real good simple t = add_cases l g s (Fits (adding g) k)
    (λ n z. refused-fits g k n s t simple)
    (λ f.
    let d = f.tested in
    let j = half-joins l s d.ok k t (u g s) (v g s) in
    let same = fed_added g k ∙ old-sketch g s l k fine real good simple t d (sym j ∙ f.there) in
    record { tracks = rw same (tracks_id (known l g s) l.pairs (edge_of (half g s)) g.line_id (lowest_free (used l g s)) s k t); simple = rw same simple })
    (λ f.
    let d = f.tested in
    let none-joins = sym (half-joins l s d.ok k t (u g s) (v g s)) ∙ f.missing in
    let sketch = k₂ g s l k fine real good simple t d in
    let same = fed_added g k ∙ sketch-is g s l k fine real good simple t d
    ∙ ap (λ z. with_line z (u g s) (v g s) sketch) none-joins in
    record {
      tracks = rw same (new_tracks g s l k fine real good simple t d f (lowest_free (used l g s)));
      simple = rw same (new_simple g s l k fine real good simple t d none-joins);
    })

-- ---- the stage steps

-- a stage step, after its tests
step_fits : {A L : Type 0} (c : Call) (k : Sketch) (l : Limits) (stage : ℕ) (s : State) (lists : L) (o : Outcome A L) → Tracks s k → Simple k
    → (Roomy l s → Sound l s → s.stage ≡ stage → Fits c k o) → Fits c k (step l stage s lists o)
step_fits c k l stage s lists o t simple h =
    demand-fits c k (roomy l s) 6 s lists _ t simple (λ e6.
    demand-fits c k (sound l s) 7 s lists _ t simple (λ e7.
    demand-fits c k (eqb s.stage stage) 5 s lists _ t simple (λ e5.
    h (is-roomy l s e6) (is-sound l s e7) (eqb-true s.stage stage e5))))

-- marks do not matter to simple sketches
simple_marks : (k : Sketch) (marks : List Bool) (m : ℕ → Bool) → Simple k → Simple (remarked k marks m)
unfolding point_at_lem
simple_marks k marks m simple =
    let ls = k.lines in
    let size = remark-length m 0 ls in
    let from = remark-from m 0 ls in
    let to = remark-to m 0 ls in
    record {
      apart = simple.apart;
      loopless = λ i l. rw (from i, to i) (simple.loopless i (omega arith));
      single = λ i j li lj. rw (from i, to i, from j, to j) (simple.single i j (omega arith) (omega arith));
      crossed = λ i j li lj. rw (from i, to i, from j, to j) (simple.crossed i j (omega arith) (omega arith));
    }

-- pruning keeps a sketch simple
simple_prune : (k : Sketch) → Simple k → Simple (sketch_prune k)
unfolding sketch_prune
simple_prune k simple = simple_marks k _ _ simple

-- so does cutting
simple_cut : (k : Sketch) → Simple k → Simple (sketch_cut k)
unfolding sketch_cut
simple_cut k simple = simple_marks k _ _ simple

-- and resetting
simple_reset : (k : Sketch) → Simple k → Simple (sketch_reset k)
unfolding sketch_reset
simple_reset k simple = simple_marks k _ _ simple

-- sorting puts the stars in the order of the sketch
tracks_sort : (l : Limits) (s : State) (k : Sketch) → Sound l s → Simple k → Tracks s k
    → Tracks (next s 1 s.degree s.node_mark s.half_mark (over (flatten (map (sorted_star s) (upto s.nodes))) s.star)) k
unfolding point_of
tracks_sort l s k ok simple t = record {
  nodes = t.nodes;
  edges = t.edges;
  points = t.points;
  stored = t.stored;
  origins = t.origins;
  marks = t.marks;
  node_marks = t.node_marks;
  room = t.room;
  stars = λ z n q. star-sorted l s ok 1 n q ∙ sorted_star-sketch l s ok k simple t n q;
}

-- sorting keeps both together
sort-fits : (l : Limits) (s : State) (k : Sketch) → Simple k → Tracks s k → Fits sorting k (sort l s)
unfolding sort feed
sort-fits l s k simple t = step_fits sorting k l 0 s (record {}) _ t simple (λ room ok young. record {
  tracks = tracks_sort l s k ok simple t;
  simple = simple;
})

-- pruning does
prune-fits : (l : Limits) (s : State) (k : Sketch) (out : List ℕ) → Simple k → Tracks s k → Fits (pruning out) k (prune_step l s out)
unfolding prune_step feed
prune-fits l s k out simple t = step_fits (pruning out) k l 1 s out _ t simple (λ room ok stage.
    demand-fits (pruning out) k (leb s.edges (length out)) 8 s out _ t simple (λ e8. record {
      tracks = tracks_prune l s k room ok stage t;
      simple = simple_prune k simple;
    }))

-- cutting does
cut_fits : (l : Limits) (s : State) (k : Sketch) (out : List ℕ) → Good k → Simple k → Tracks s k → Fits (cutting out) k (cut_step l s out)
unfolding cut_step feed
cut_fits l s k out good simple t = step_fits (cutting out) k l 2 s out _ t simple (λ room ok stage.
    demand-fits (cutting out) k (leb s.edges (length out)) 8 s out _ t simple (λ e8. record {
      tracks = tracks_cut l s k ok good (omega (arith, room.half_mark, ok.edges)) (omega arith) t;
      simple = simple_cut k simple;
    }))

-- ring extraction does
ring-fits : (l : Limits) (s : State) (k : Sketch) (out : Lent) → Simple k → Tracks s k → Fits (ringing out) k (extract l s out)
unfolding extract feed
ring-fits l s k out simple t = step_fits (ringing out) k l 3 s out _ t simple (λ room ok stage.
    demand-fits (ringing out) k (long_enough (2 * s.edges) out.rings) 8 s out _ t simple (λ e8.
    demand-fits (ringing out) k (leb (length (holes_in s)) (length out.holes)) 13 s out _ t simple (λ e13. record {
      tracks = tracks_ring s k (omega arith) t;
      simple = simple;
    })))

-- resetting does
reset-fits : (l : Limits) (s : State) (k : Sketch) → Simple k → Tracks s k → Fits resetting k (reset l s)
unfolding reset feed
reset-fits l s k simple t =
    demand-fits resetting k (roomy l s) 6 s (record {}) _ t simple (λ e6.
    demand-fits resetting k (sound l s) 7 s (record {}) _ t simple (λ e7. record {
      tracks = tracks_reset s k _ t;
      simple = simple_reset k simple;
    }))

-- ---- lists of calls

-- the tables follow a simple sketch
pub record Together (w : World) : Type 0 where
  pub tracks : Tracks w.state w.sketch
  pub simple : Simple w.sketch
  pub good : Good w.sketch

-- from an outcome that fits
together : {A L : Type 0} (l : Limits) (c : Call) (w : World) (o : Outcome A L) → Good w.sketch → Fits c w.sketch o
    → Together (record { state = o.state; sketch = feed (is_refused o.reply) c w.sketch })
together l c w o good f = record { tracks = f.tracks; simple = f.simple; good = good-feed (is_refused o.reply) c w.sketch good }

module _ (l : Limits) (fine : Fine l) where
  -- every call keeps both together
  call_together : (c : Call) → Real c → (w : World) → Together w → Together (turn_world l c w)
  unfolding call
  call_together (adding g) real w r = together l (adding g) w (add l g w.state) r.good (add-fits l g w.state w.sketch fine.keys real r.good r.simple r.tracks)
  call_together sorting real w r = together l sorting w (sort l w.state) r.good (sort-fits l w.state w.sketch r.simple r.tracks)
  call_together (pruning out) real w r = together l (pruning out) w (prune_step l w.state out) r.good (prune-fits l w.state w.sketch out r.simple r.tracks)
  call_together (cutting out) real w r = together l (cutting out) w (cut_step l w.state out) r.good (cut_fits l w.state w.sketch out r.good r.simple r.tracks)
  call_together (ringing out) real w r = together l (ringing out) w (extract l w.state out) r.good (ring-fits l w.state w.sketch out r.simple r.tracks)
  call_together resetting real w r = together l resetting w (reset l w.state) r.good (reset-fits l w.state w.sketch r.simple r.tracks)

  -- so does a list of calls
  pub history_together : (cs : List Call) → AllReal cs → (w : World) → Together w → Together (history l cs w)
  unfolding history
  history_together [] real w r = r
  history_together (c ∷ cs) real w r = history_together cs real.1 (turn_world l c w) (call_together c real.0 w r)

  -- a new graph and an empty sketch
  pub start_together : (s : State) → s.nodes ≡ 0 → s.edges ≡ 0 → s.stage ≡ 0 → Together (record { state = s; sketch = empty_sketch })
  start_together s n e y = record {
    tracks = record {
      nodes = n;
      edges = e;
      points = λ m q. absurd (omega arith);
      stored = λ m q. absurd (omega arith);
      origins = λ h q. absurd (omega arith);
      marks = λ h q. absurd (omega arith);
      node_marks = λ m q. absurd (omega arith);
      room = n;
      stars = λ z m q. absurd (omega arith);
    };
    simple = record {
      apart = λ m i a b d. absurd (omega arith);
      loopless = λ i a. absurd (omega arith);
      single = λ i j a b d. absurd (omega arith);
      crossed = λ i j a b d. absurd (omega arith);
    };
    good = good-empty;
  }

  -- from a new graph on the tables follow the sketch
  pub all-follow : AllFollow l
  all-follow s n e y room calls real ok stage =
      (history_together calls real (record { state = s; sketch = empty_sketch }) (start_together s n e y)).tracks

  -- the one claim about lists of calls
  pub whole_claim : Claim l
  whole_claim = claim l (exact-areas l fine) (small-areas l fine) fine.keys all-follow

  -- and the claim for all sound tables
  pub whole_sound_claim : SoundClaim l
  whole_sound_claim = sound_claim l (exact-areas l fine) (small-areas l fine)

-- the limits of this library are fine enough
pub fine_limits : Fine limits
fine_limits = record { keys = omega arith; areas = omega arith }

-- demand 3, for every list of calls on this library's limits
pub demand_3 : Claim limits
demand_3 = whole_claim limits fine_limits

-- and for every sound state
pub demand_3_sound : SoundClaim limits
demand_3_sound = whole_sound_claim limits fine_limits
