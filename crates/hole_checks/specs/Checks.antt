-- What the tests of ring extraction with the hole list say.
use Rattle.std.specs.Prelude.{ℕ, ◌≡◌, true, List, leb, length}
use Rattle.geometry.specs.Reply.{refused}
use Rattle.rules.specs.State.{State}
use Rattle.rules.specs.Ringing.{RingLists}
use Rattle.rules.specs.Holes.{Hole}
use Rattle.rules.specs.Extraction.{holes_in}
use Rattle.tables.specs.Refusals.{refusal_number_lem}
use Rattle.calls.specs.Checks.{Checked}
use Rattle.std.specs.Prelude.{Ok, Err}
use Rattle.ring_checks.specs.Checks.{RingChecked}
use Rattle.hole_checks.specs.Clause.{lent, Extracts}

-- numbers 6, 7, 5, 8 and 13 passed, or, whatever the hole list holds, the rules refuse by the number of the first that did not
abbrev pub HolesChecked : ℕ → State → RingLists → Checked → Type 0
HolesChecked room s rings (Ok tt) = RingChecked s rings (Ok tt) × (leb (length (holes_in s)) room ≡ true)
HolesChecked room s rings (Err why) = (old : List Hole) → length old ≡ room → Extracts s (lent rings old) (refused (refusal_number_lem why)) s (lent rings old)
