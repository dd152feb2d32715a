-- What listing the holes asks of the sides and areas of rings.
use Rattle.std.specs.Prelude.{ℕ, ◌<◌, ◌≤◌, ◌≡◌, List, length, get_or, Float, eqb}
use Rattle.std.specs.Float.{nan}
use Rattle.lists.specs.Lists.{below}
use Rattle.rules.specs.Limits.{limits, shaped_rings}
use Rattle.rules.specs.Face.{Ring}
use Rattle.rules.specs.Holes.{is_open_lem, ring_at}
use Rattle.ring_lists.specs.Shown.{HalfOf}

-- the side of each ring tells whether it is open, its area is half of its doubled one, and there are no more open rings than rings with an area
pub record OpenListed (rs : List Ring) (side : List ℕ) (area : List Float) (count : ℕ) : Type 0 where
  pub counted : count ≡ length rs
  pub in_side : count ≤ length side
  pub in_area : count ≤ length area
  pub sided : (i : ℕ) → i < count → eqb (get_or side i 0) 2 ≡ is_open_lem (ring_at rs i)
  pub halved : (i : ℕ) → i < count → HalfOf (get_or area i nan) (ring_at rs i).doubled
  pub few : length (below (λ i. is_open_lem (ring_at rs i)) count) ≤ shaped_rings limits
