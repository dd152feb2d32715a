-- Splitting with a table of labels of its own.
use native.Mathlib.Omega.{arith}
use mathlib.Core.Path.{refl}
use Rattle.splitting.proofs.split.split_rings.Goals as goal

pub slice_bounds-split_stars-end : goal.slice_bounds-split_stars-end
slice_bounds-split_stars-end c = refl

pub split_stars-requires : goal.split_stars-requires
split_stars-requires c = record { splittable = c.requires; edge_count_in_bounds = omega (arith, c.requires.few) }

pub returns : goal.returns
returns c = c.split_stars.ensures
