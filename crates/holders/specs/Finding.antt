-- What finding the holes asks of the lists that were written, and what it finds.
use Rattle.std.specs.Prelude.{ℕ, ◌≤◌, ◌≡◌, Bool, true, List, Float, length, take}
use Rattle.rules.specs.Limits.{limits, shaped_rings}
use Rattle.rules.specs.State.{sound}
use Rattle.rules.specs.Ringing.{RingLists}
use Rattle.rules.specs.Extraction.{holes_in}
use Rattle.tables.specs.Regions.{state_in, least_floats, least_numbers}
use Rattle.tables.specs.declared.PlanarGraph.{PlanarGraph}
use Rattle.extracting.specs.declared.Extracted.{Extracted}
use Rattle.extracting.specs.Extraction.{lists_of, Extraction}
use Rattle.holes.specs.Lent.{lent_holes}
use Rattle.hole_listing.specs.declared.HoleList.{HoleList}

module _ (graph : PlanarGraph) (floats : List Float) (numbers half_edges_lem first size face side : List ℕ) (area : List Float) (done : Extracted) where
  -- with slices that are not read, the lists hold the rings of a sound state
  pub record RingsGiven : Type 0 where
    pub stars : List ℕ
    pub marks : List Bool
    pub ids : List ℕ
    pub in_floats : least_floats limits ≤ length floats
    pub in_numbers : least_numbers limits ≤ length numbers
    pub sense : sound limits (state_in limits graph floats numbers stars marks ids) ≡ true
    pub out : RingLists
    pub extraction : Extraction (state_in limits graph floats numbers stars marks ids) out (lists_of half_edges_lem first size face side area) done

  -- the holes of every such state, in a full array
  pub record HolesFound (r : HoleList) : Type 0 where
    pub holes : (g : RingsGiven) → lent_holes (take r.count r.list) ≡ holes_in (state_in limits graph floats numbers g.stars g.marks g.ids)
    pub few : r.count ≤ shaped_rings limits
    pub full : length r.list ≡ shaped_rings limits
