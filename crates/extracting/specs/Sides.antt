-- What listing the sides of rings alone asks and leaves.
use Rattle.std.specs.Prelude.{ℕ, ◌≤◌, ◌≡◌, Bool, List, map, length, Float}
use Rattle.lists.specs.Lists.{over}
use Rattle.rules.specs.Cycles.{Arrangement}
use Rattle.rules.specs.Split.{minimal_rings}
use Rattle.rules.specs.Limits.{limits}
use Rattle.rules.specs.State.{State, arrangement_in}
use Rattle.rules.specs.Ringing.{rings_of, side_number_lem}
use Rattle.cycles.specs.Arranged.{Arranged}
use Rattle.ring_tally.specs.Sides.{number_in}
use Rattle.extracting.specs.Extraction.{replies_of}

-- what it asks of the tables: they are an arrangement, and have no more rings than there may be edges
pub record SidesAsked (nodes edges : ℕ) (source : List ℕ) (marks : List Bool) (offsets grouped : List ℕ) : Type 0 where
  pub arranged : Arranged limits nodes edges source marks offsets grouped
  pub few : length (minimal_rings (arrangement_in nodes edges source marks arranged.star)) ≤ limits.edges

-- the rings of an arrangement are counted, and their sides stand in the list
pub record SidesListed (g : Arrangement) (source : List ℕ) (xs ys : List Float) (sides₀ sides : List ℕ) (count : ℕ) : Type 0 where
  pub listed : sides ≡ over (map (number_in source xs ys) (minimal_rings g)) sides₀
  pub number : count ≡ length (minimal_rings g)

-- so it is of the rings of a state, whose sides are the ones replied
pub record Sided (s : State) (sides₀ sides : List ℕ) (count : ℕ) : Type 0 where
  pub number : count ≡ length (rings_of s)
  pub side : sides ≡ over (map (λ w. side_number_lem w.side) (replies_of s)) sides₀
