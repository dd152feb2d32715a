-- Ring extraction where its tests fail: the first that does gives its refusal and leaves everything. It needs stage 3, and lists with an
-- entry for each half-edge.
use Prim.Native.Nat.{◌*◌}
use mathlib.Core.Path.{◌≡◌}
use mathlib.Core.Bool.{false}
use Rattle.rules.specs.Limits.{Limits}
use Rattle.rules.specs.State.{State}
use Rattle.rules.specs.Ringing.{RingLists, long_enough, ringed, ring_step}
use Rattle.tables.specs.declared.Refusal.{Refusal}
use Rattle.tables.specs.declared.Refusal.TheVariants.{ListTooShort}
use Rattle.calls.specs.Checks.{stage_check, due}
use Rattle.calls.proofs.Shells.{turned_down_lem, Good, step_stops, list_stops}

module _ (l : Limits) (s : State) (out : RingLists) where
  pub ring_stops : (why : Refusal) → due why ≡ stage_check l 3 s → turned_down_lem why s out ≡ ring_step l s out
  unfolding ring_step
  ring_stops why e = step_stops l 3 s out _ why e

  pub ring-short : Good l s → s.stage ≡ 3 → long_enough (2 * s.edges) out ≡ false → turned_down_lem ListTooShort s out ≡ ring_step l s out
  unfolding ring_step
  ring-short good at e = list_stops l 3 s out (long_enough (2 * s.edges) out) (ringed s out) good at e
