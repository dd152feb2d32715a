-- What the tallies of the rings that are replied come to.
use Rattle.std.specs.Prelude.{ℕ, ◌*◌, ◌≡◌, List, length, take}
use Rattle.geometry.specs.Reply.{success}
use Rattle.lists.specs.Lists.{upto, flatten, sum}
use Rattle.rules.specs.Claim.{rings_from}
use Rattle.rules.specs.Limits.{Limits}
use Rattle.rules.specs.State.{State}
use Rattle.rules.specs.Ringing.{RingLists, Ringing, ring_step}

-- the lengths of the rings in the lists
abbrev pub tallies_in : RingLists → ℕ → List ℕ
tallies_in lists count = take count lists.length

-- they add up to the half-edges of the rings in the lists, which are two for each edge of the census
pub record Adding (lists : RingLists) (r : Ringing) : Type 0 where
  pub written : sum (tallies_in lists r.count) ≡ length (flatten (rings_from lists (upto r.count)))
  pub replied : sum (tallies_in lists r.count) ≡ 2 * r.census.edges

-- Of every ring extraction that succeeds the tallies add up so.
unfoldable pub TalliesAdd : Limits → Type 0
unfolding ring_step
TalliesAdd l = (s : State) (out : RingLists) (r : Ringing) → (ring_step l s out).reply ≡ success r → Adding (ring_step l s out).lists r
