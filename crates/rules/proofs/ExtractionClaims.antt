-- The two claims of ring extraction: what is said of the rings, and the holes, which are those of the sketch too.
use Prim.Native.Nat.{◌^◌, ◌≤◌}
use native.Mathlib.Omega.{arith}
use mathlib.Core.Path.{◌≡◌, ap, subst}
use mathlib.Core.Bool.{true}
use mathlib.Core.List.{List}
use Rattle.lists.specs.Lists.{upto}
use Rattle.rules.specs.Limits.{Limits}
use Rattle.rules.specs.State.{State, roomy, sound}
use Rattle.rules.specs.Extraction.{extract}
use Rattle.rules.specs.Sketch.{Call}
use Rattle.rules.specs.Claim.{history, empty_sketch, rings_from, WrittenRules, Claim, SoundClaim, AllReal}
use Rattle.rules.proofs.Soundness.{is-sound}
use Rattle.rules.proofs.SketchCalls.{good-history, good-empty}
use Rattle.rules.proofs.Following.{Tracks, tracks_agree}
use Rattle.rules.proofs.Replies.{ring_step-passed}
use Rattle.rules.proofs.ExtractionLaws.{extraction_rules, written_rules}
use Rattle.rules.proofs.Claims.{ExactAreas, SmallAreas, SaidSound, said_sound, Drawn, Said, said}
use Rattle.rules.proofs.HolesDrawn.{holes-drawn}

-- what is left to show of calls: the tables of a cut graph follow the sketch, for every list of calls from a new graph
abbrev pub AllFollow : Limits → Type 0
AllFollow l =
    (s : State) → s.nodes ≡ 0 → s.edges ≡ 0 → s.stage ≡ 0 → roomy l s ≡ true → (calls : List Call) → AllReal calls
    → let w = history l calls (record { state = s; sketch = empty_sketch }) in sound l w.state ≡ true → w.state.stage ≡ 3 → Tracks w.state w.sketch

module _ (l : Limits) (exact : (s : State) → sound l s ≡ true → ExactAreas s) (small : (s : State) → sound l s ≡ true → SmallAreas s) where
  -- the claim for all tables
  pub sound_claim : SoundClaim l
  unfolding SoundClaim
  sound_claim s out r e =
      let before = (extraction_rules l s out r e).before in
      let reply = ap (λ o. o.reply) before in
      let sense = (ring_step-passed l s out.rings r.ringing reply).sense in
      let a = subst (SaidSound s r.ringing) before (said_sound l s (exact s sense) (small s sense) out.rings r.ringing reply) in
      (a.0, a.1, a.2, written_rules l s out r e)

  -- the claim for lists of calls
  pub claim : l.bound ≤ 2 ^ 53 → AllFollow l → Claim l
  unfolding Claim
  claim fine follow s n₀ e₀ t₀ room calls real out r e =
      let w = history l calls (record { state = s; sketch = empty_sketch }) in
      let before = (extraction_rules l w.state out r e).before in
      let reply = ap (λ o. o.reply) before in
      let p = ring_step-passed l w.state out.rings r.ringing reply in
      let t = follow s n₀ e₀ t₀ room calls real p.sense p.before in
      let d : Drawn l w.state w.sketch = record {
        ok = is-sound l w.state p.sense;
        tracks = t;
        good = good-history l calls (record { state = s; sketch = empty_sketch }) good-empty;
        same = tracks_agree w.state w.sketch t (omega (arith, p.before));
      } in
      let a = subst (Said w.sketch r.ringing) before
      (said l w.state w.sketch d (exact w.state p.sense) (small w.state p.sense) out.rings r.ringing reply) in
      let o = extract l w.state out in
      let rings = rings_from o.lists.rings (upto r.ringing.count) in
      (a.0, a.1, a.2, subst (λ hs. WrittenRules rings hs o.lists r) (holes-drawn l fine w.state w.sketch d) (written_rules l w.state out r e))
