-- Ring extraction with holes is ring extraction, and the holes.
use Prim.Native.Nat.{◌*◌, ◌≤◌}
use native.Mathlib.Omega.{arith}
use mathlib.Core.Path.{◌≡◌, refl, sym, ap, ◌∙◌}
use mathlib.Core.Bool.{true}
use mathlib.Core.List.{map}
use lib.ListN.{length, take, drop}
use lib.Seq.{take-append_seam}
use lib.Dec.{leb}
use borrow.Author.Tests.{eq-eqb}
use Rattle.lists.specs.Lists.{upto, flatten, over}
use Rattle.geometry.specs.Reply.{success}
use Rattle.rules.specs.Limits.{Limits}
use Rattle.rules.specs.Split.{minimal_rings}
use Rattle.rules.specs.State.{State, arrangement, roomy, sound}
use Rattle.rules.specs.Adding.{Outcome, demand}
use Rattle.rules.specs.Stages.{step}
use Rattle.rules.specs.Ringing.{RingLists, rings_of, long_enough, ringed, ring_step}
use Rattle.rules.specs.Extraction.{Lent, RingAnswer, with_reply, holes_in, extracted, extract, ExtractionRules}
use Rattle.rules.specs.Claim.{rings_from, WrittenRules}
use Rattle.rules.proofs.Replies.{demand-passed, step-passed, rings_of-halves, ring_step-passed, ring_step-rings}
use Rattle.rules.proofs.ShapedRings.{few-holes}

-- its tests and what follows
extract-step-is : (l : Limits) (s : State) (out : Lent) → extract l s out ≡ step l 3 s out
    (demand (long_enough (2 * s.edges) out.rings) 8 s out (demand (leb (length (holes_in s)) (length out.holes)) 13 s out (extracted s out)))
unfolding extract
extract-step-is l s out = refl

-- the rings, where the tests before them pass
pub ring_step-gives : (l : Limits) (s : State) (out : RingLists) → roomy l s ≡ true → sound l s ≡ true → s.stage ≡ 3 → long_enough (2 * s.edges) out ≡ true
    → ring_step l s out ≡ ringed s out
unfolding ring_step
ring_step-gives l s out a b c d = rw (a, b, eq-eqb s.stage 3 c, d) refl

module _ (s : State) (out : Lent) (r : RingAnswer) (h : (extracted s out).reply ≡ success r) where
  -- what is answered of the rings
  extracted-rings : (ringed s out.rings).reply ≡ success r.ringing
  unfolding extracted ringed
  extracted-rings = ap (with_reply (λ a. a.ringing)) h

  -- and left
  extracted-before : ringed s out.rings ≡ record { reply = success r.ringing; state = (extracted s out).state; lists = (extracted s out).lists.rings }
  unfolding extracted ringed
  extracted-before = ap (λ x. record { reply = x; state = (extracted s out).state; lists = (extracted s out).lists.rings }) extracted-rings

  -- the counts replied
  extracted-holes : r.holes ≡ length (holes_in s)
  unfolding extracted ringed
  extracted-holes = cc

  extracted-halves : r.half_edges_lem ≡ length (flatten (map (λ g. g.half_edges_lem) (rings_of s)))
  unfolding extracted ringed
  extracted-halves = cc

-- the hole list that is left
extracted_list : (s : State) (out : Lent) → (extracted s out).lists.holes ≡ over (holes_in s) out.holes
unfolding extracted
extracted_list s out = refl

module _ (l : Limits) (s : State) (out : Lent) (r : RingAnswer) (h : (extract l s out).reply ≡ success r) where
  -- a ring extraction that succeeds
  pub extraction_rules : ExtractionRules l s out r
  extraction_rules =
      let third = demand (leb (length (holes_in s)) (length out.holes)) 13 s out (extracted s out) in
      let second = demand (long_enough (2 * s.edges) out.rings) 8 s out third in
      let p = step-passed l 3 s out second r (ap (λ x. x.reply) (sym (extract-step-is l s out)) ∙ h) in
      let q = demand-passed (long_enough (2 * s.edges) out.rings) 8 s out third r (ap (λ x. x.reply) (sym (extract-step-is l s out ∙ p.gives)) ∙ h) in
      let t = demand-passed (leb (length (holes_in s)) (length out.holes)) 13 s out (extracted s out) r (ap (λ x. x.reply) (sym (extract-step-is l s out ∙ p.gives ∙ q.1)) ∙ h) in
      let gives = extract-step-is l s out ∙ p.gives ∙ q.1 ∙ t.1 in
      let reply = ap (λ x. x.reply) (sym gives) ∙ h in
      let many = extracted-holes s out r reply in
      record {
        before = ring_step-gives l s out.rings p.room p.sense p.before q.0 ∙ extracted-before s out r reply
            ∙ ap (λ (x : Outcome RingAnswer Lent). record { reply = success r.ringing; state = x.state; lists = x.lists.rings }) (sym gives);
        holes = ap (λ x. take r.holes x.lists.holes) gives ∙ ap (take r.holes) (extracted_list s out)
            ∙ ap (λ n. take n (over (holes_in s) out.holes)) many ∙ take-append_seam (holes_in s) (drop (length (holes_in s)) out.holes);
        hole_count = many;
        half_edge_count = extracted-halves s out r reply;
      }

  -- the rings that it writes
  pub extract-rings : rings_from (extract l s out).lists.rings (upto r.ringing.count) ≡ minimal_rings (arrangement s)
  extract-rings =
      let b = extraction_rules.before in
      sym (ap (λ o. rings_from o.lists (upto r.ringing.count)) b) ∙ ring_step-rings l s out.rings r.ringing (ap (λ o. o.reply) b)

  -- what it writes, and how much
  pub written_rules : WrittenRules (rings_from (extract l s out).lists.rings (upto r.ringing.count)) (holes_in s) (extract l s out).lists r
  written_rules =
      let x = extraction_rules in
      record {
        exact = x.holes;
        hole_count = x.hole_count;
        half_edge_count = x.half_edge_count ∙ ap (λ rs. length (flatten rs)) (rings_of-halves s ∙ sym extract-rings);
      }

  -- it writes no more holes than there are edges
  pub few-replied : r.holes ≤ s.edges
  few-replied =
      let x = extraction_rules in
      omega (arith, x.hole_count, few-holes l s (ring_step-passed l s out.rings r.ringing (ap (λ o. o.reply) x.before)).sense)
