-- What the search for an id asks of the slices.
use Rattle.std.specs.Prelude.{ℕ, ◌≤◌, ◌≡◌, true, List, length}
use Rattle.rules.specs.Limits.{Limits}
use Rattle.rules.specs.LineIds.{sound_lists}
use Rattle.tables.specs.Regions.{line_ids_in, tracings_in, least_numbers, least_ids}

-- the slices have room for their regions, and the lists of so many edges are sound
pub record SeekableIn (l : Limits) (edges : ℕ) (numbers ids : List ℕ) : Type 0 where
  pub few : edges ≤ l.edges
  pub number_room : least_numbers l ≤ length numbers
  pub id_room : least_ids l ≤ length ids
  pub lists : sound_lists l.pairs (tracings_in l numbers ids) (line_ids_in l ids) edges ≡ true
