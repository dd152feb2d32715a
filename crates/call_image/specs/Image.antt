-- How many entries an image of the slices and lists has.
use Rattle.std.specs.Prelude.{ℕ, ◌+◌, ◌*◌}
use Rattle.rules.specs.Limits.{Limits}
use Rattle.tables.specs.Regions.{least_floats, least_numbers, least_stars, least_marks, least_ids}

-- five slices, and six lists with an entry for each half-edge
abbrev pub image_length : Limits → ℕ
image_length l = least_floats l + least_numbers l + least_stars l + least_marks l + least_ids l + 6 * (2 * l.edges)
