-- What the tests of ring extraction say.
use Rattle.std.specs.Prelude.{◌*◌, ◌≡◌, true}
use Rattle.geometry.specs.Reply.{refused}
use Rattle.rules.specs.Limits.{limits}
use Rattle.rules.specs.State.{State, roomy, sound}
use Rattle.rules.specs.Ringing.{RingLists, long_enough}
use Rattle.tables.specs.Refusals.{refusal_number_lem}
use Rattle.calls.specs.Checks.{Checked}
use Rattle.std.specs.Prelude.{Ok, Err}
use Rattle.ring_checks.specs.Clause.{Extracts}

-- numbers 6, 7, 5 and 8 passed, or the rules refuse by the number of the first that did not
abbrev pub RingChecked : State → RingLists → Checked → Type 0
RingChecked s out (Ok tt) = (roomy limits s ≡ true) × (sound limits s ≡ true) × (s.stage ≡ 3) × (long_enough (2 * s.edges) out ≡ true)
RingChecked s out (Err why) = Extracts s out (refused (refusal_number_lem why)) s out
