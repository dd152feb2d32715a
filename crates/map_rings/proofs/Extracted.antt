-- Ring extraction that succeeds leaves lists that hold the rings of its state.
use Prim.Native.Nat.{◌*◌}
use native.Mathlib.Omega.{arith}
use mathlib.Core.Path.{◌≡◌, refl, sym, ap, subst, ◌∙◌}
use mathlib.Core.Bool.{true}
use mathlib.Core.List.{map}
use lib.ListN.{length, length-map}
use Rattle.lists.specs.Lists.{flatten}
use Rattle.geometry.specs.Reply.{Reply, success}
use Rattle.rules.specs.Euler.{census}
use Rattle.rules.specs.Face.{Ring}
use Rattle.rules.specs.Limits.{limits}
use Rattle.rules.specs.State.{State, arrangement, roomy, sound}
use Rattle.rules.specs.Ringing.{RingReply, ring_replies_lem, rings_of, RingLists, Ringing, ringed, ring_step}
use Rattle.rules.proofs.Replies.{replies_length, ringed-from, ring_step-passed}
use Rattle.ring_checks.specs.Clause.{Extracts}
use Rattle.ring_lists.specs.Shown.{Shown}
use Rattle.ring_lists.proofs.Written.{over-long, written-shown}

-- what ring extraction writes
ringed-shown : (s : State) (out : RingLists) → sound limits s ≡ true → length (ringed s out).lists.half_edges_lem ≡ 2 * limits.edges → length (ringed s out).lists.first ≡ 2 * limits.edges
    → (let o = (ringed s out).lists in Shown (rings_of s) o.half_edges_lem o.first o.length o.face o.area)
unfolding ringed
ringed-shown s out sense a b =
    let hs = map (λ (r : Ring). r.half_edges_lem) (rings_of s) in
    let ws = ring_replies_lem s (rings_of s) 0 (rings_of s) in
    written-shown s sense (ringed s out).lists out refl refl refl refl refl (ringed-from s out)
    (omega (arith, a, over-long (flatten hs) out.half_edges_lem))
    (omega (arith, b, over-long (map (λ (w : RingReply). w.first) ws) out.first, length-map ws (λ (w : RingReply). w.first), replies_length s (rings_of s) 0 (rings_of s)))

-- how many rings it answers
ringed-count : (s : State) (out : RingLists) (r : Ringing) → success r ≡ (ringed s out).reply → r.count ≡ length (rings_of s)
unfolding ringed
ringed-count s out r e = cc

-- and their verdict
ringed-census : (s : State) (out : RingLists) (r : Ringing) → success r ≡ (ringed s out).reply → r.census ≡ census (arrangement s)
unfolding ringed
ringed-census s out r e = cc

-- a ring extraction that succeeds, into lists of an entry for each half-edge
module _ (s after : State) (out lists : RingLists) (answer : Reply Ringing) (r : Ringing) (e : Extracts s out answer after lists) (done : answer ≡ success r) where
  passes : (sound limits s ≡ true) × (ring_step limits s out ≡ ringed s out)
  passes = let p = ring_step-passed limits s out r (ap (λ o. o.reply) (sym e) ∙ done) in (p.sense, p.gives)

  pub extracted-room : roomy limits s ≡ true
  extracted-room = (ring_step-passed limits s out r (ap (λ o. o.reply) (sym e) ∙ done)).room

  pub extracted-count : r.count ≡ length (rings_of s)
  extracted-count = ringed-count s out r (sym done ∙ ap (λ o. o.reply) (e ∙ passes.1))

  pub extracted-census : r.census ≡ census (arrangement s)
  extracted-census = ringed-census s out r (sym done ∙ ap (λ o. o.reply) (e ∙ passes.1))

  pub extracted-shown : length lists.half_edges_lem ≡ 2 * limits.edges → length lists.first ≡ 2 * limits.edges
      → Shown (rings_of s) lists.half_edges_lem lists.first lists.length lists.face lists.area
  extracted-shown a b =
      let same : lists ≡ (ringed s out).lists = ap (λ o. o.lists) (e ∙ passes.1) in
      subst (λ x. Shown (rings_of s) x.half_edges_lem x.first x.length x.face x.area) (sym same)
      (ringed-shown s out passes.0 (ap (λ x. length x.half_edges_lem) (sym same) ∙ a) (ap (λ x. length x.first) (sym same) ∙ b))
