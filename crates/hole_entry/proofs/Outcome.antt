-- What the core of ring extraction makes is the outcome of the rule, for every hole list.
use Prim.Native.Nat.{ℕ, ◌*◌, ◌≤◌}
use native.Mathlib.Omega.{arith}
use mathlib.Core.Path.{◌≡◌, sym, ap, ◌∙◌}
use mathlib.Core.Bool.{Bool, true}
use mathlib.Core.List.{List, map}
use lib.Dec.{leb}
use lib.Ieee.{Float}
use lib.ListN.{length, length-map, take}
use lib.Seq.{length-take-le}
use borrow.Author.Tests.{leb-true}
use Rattle.std.specs.Prelude.{Ok}
use Rattle.lists.specs.Lists.{flatten, over}
use Rattle.geometry.specs.Reply.{success}
use Rattle.rules.specs.Limits.{Limits, limits}
use Rattle.rules.specs.Holes.{Hole}
use Rattle.rules.specs.State.{State, sound}
use Rattle.rules.specs.Adding.{Outcome}
use Rattle.rules.specs.Ringing.{RingLists, Ringing, rings_of, ringed}
use Rattle.rules.specs.Extraction.{with_reply, holes_in, extracted, extract}
use Rattle.rules.proofs.Replies.{rings_of-halves}
use Rattle.rules.proofs.Soundness.{is-sound}
use Rattle.tables.specs.declared.Refusal.{Refusal}
use Rattle.tables.specs.declared.PlanarGraph.{PlanarGraph}
use Rattle.tables.specs.Regions.{state_in, xs_in, ys_in, zs_in, segments_in, sources_in, targets_in, star_table_in, degrees_in, node_marks_in, half_marks_in, line_ids_in, tracings_in}
use Rattle.cycles.specs.Census.{census_of}
use Rattle.calls.specs.Checks.{passed}
use Rattle.calls.specs.Replies.{left_with}
use Rattle.calls.proofs.Shells.{turned_down_lem}
use Rattle.extracting.specs.declared.Extracted.{Extracted}
use Rattle.extracting.specs.Extraction.{Extraction}
use Rattle.extracting.proofs.Numbering.{flat-few}
use Rattle.extracting.proofs.Outcome.{total-is, extraction-ringed}
use Rattle.holes.specs.Lent.{hole_of, lent_holes}
use Rattle.tables.specs.declared.Answer.{Answer}
use Rattle.hole_entry.specs.declared.RingsAndHoles.{RingsAndHoles}
use Rattle.hole_entry.specs.declared.Made.{Made}
use Rattle.hole_entry.specs.Replies.{rings_reply, answer_of}
use Rattle.hole_checks.specs.Clause.{lent}
use Rattle.hole_checks.specs.Checks.{HolesChecked}
use Rattle.hole_entry.specs.Making.{TurnedDown, RingsMade, written_over, Makes}
use Rattle.hole_checks.proofs.Tests.{extract-passes}

-- the census has no more edges than there may be
pub census-few : (l : Limits) (s : State) (out written : RingLists) (x : Extracted) → sound l s ≡ true → Extraction s out written x → x.census.edges ≤ l.edges
census-few l s out written x sense e = omega (arith, total-is l s sense (census_of x.census) e.counted, flat-few l s sense, (is-sound l s sense).edges)

module _ (g : PlanarGraph) (floats : List Float) (numbers stars : List ℕ) (marks : List Bool) (ids : List ℕ) (room : ℕ) (rings : RingLists) where
  -- the state that the slices hold, with these counts and this stage
  abbrev held : PlanarGraph → State
  held h = state_in limits h floats numbers stars marks ids

  -- a call that is refused whatever the hole list holds
  pub refused_made : (why : Refusal) (r : Made) → TurnedDown g why r → ((old : List Hole) → length old ≡ room → turned_down_lem why (held g) (lent rings old) ≡ extract limits (held g) (lent rings old))
      → Makes room (held g) rings r (held r.ringed.graph) rings
  refused_made why r t stopped = record {
    done = λ old e.
        ap (λ (q : Answer RingsAndHoles). left_with (rings_reply q.reply) (held q.graph) (lent rings (written_over r old))) t.answer
        ∙ ap (λ n. turned_down_lem why (held g) (lent rings (over (lent_holes (take n r.list)) old))) t.none ∙ stopped old e;
    roomed = omega (arith, t.none);
    few = omega (arith, t.none);
  }

  -- the half-edges of the rings, in a row
  abbrev halves : List ℕ
  halves = flatten (map (λ r. r.half_edges_lem) (rings_of (held g)))

  -- the rings that were extracted, with these holes
  extracted-is : (old : List Hole) (written : RingLists) (x : Extracted) (holes : List Hole) (n : ℕ) → sound limits (held g) ≡ true → Extraction (held g) rings written x → holes ≡ holes_in (held g) → n ≡ length (holes_in (held g))
      → left_with (rings_reply (Ok (answer_of x n))) (held x.graph) (lent written (over holes old)) ≡ extracted (held g) (lent rings old)
  unfolding extracted
  extracted-is old written x holes n sense e q k =
      let count : 2 * x.census.edges ≡ length halves =
      total-is limits (held g) sense (census_of x.census) e.counted ∙ ap (λ rs. length (flatten rs)) (sym (rings_of-halves (held g))) in
      (λ i. left_with (success (record { ringing = record { count = x.count; census = census_of x.census; comparisons = x.comparisons }; half_edges_lem = count i; holes = k i }))
      (held x.graph) (lent written (over (q i) old)))
      ∙ ap (λ (o : Outcome Ringing RingLists). record {
        reply = with_reply (λ a. record { ringing = a; half_edges_lem = length halves; holes = length (holes_in (held g)) }) o.reply;
        state = o.state;
        lists = lent o.lists (over (holes_in (held g)) old);
      })
      (extraction-ringed g (xs_in limits floats) (ys_in limits floats) (zs_in limits floats) (degrees_in limits stars) (node_marks_in limits marks) (segments_in limits floats) (line_ids_in limits ids) (sources_in limits numbers)
      (targets_in limits numbers) (half_marks_in limits marks) (star_table_in limits stars) (tracings_in limits numbers ids) rings written x e)

  -- a call that passes all tests
  pub done_made : HolesChecked room (held g) rings passed → (written : RingLists) (r : Made) → RingsMade (held g) rings written r → Makes room (held g) rings r (held r.ringed.graph) written
  done_made passed written r m =
      let checked = passed.0 in
      let many : r.count ≡ length (holes_in (held g)) =
      sym (length-map (take r.count r.list) hole_of ∙ length-take-le r.count r.list (omega (arith, m.few, m.full))) ∙ ap length m.holes in
      record {
        done = λ old long.
            ap (λ (q : Answer RingsAndHoles). left_with (rings_reply q.reply) (held q.graph) (lent written (written_over r old))) m.answer
            ∙ extracted-is old written m.done (lent_holes (take r.count r.list)) r.count checked.1 m.extraction m.holes many
            ∙ extract-passes limits (held g) (lent rings old) (record { room = checked.0; sense = checked.1 }) checked.2 checked.3 (ap (leb (length (holes_in (held g)))) long ∙ passed.1);
        roomed = omega (arith, many, leb-true (length (holes_in (held g))) room passed.1);
        few = m.few;
      }
