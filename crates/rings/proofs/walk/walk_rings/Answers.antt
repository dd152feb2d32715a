-- Listing with a table of its own for what is seen.
use native.Mathlib.Omega.{arith}
use mathlib.Core.Path.{refl}
use Rattle.rings.proofs.walk.walk_rings.Goals as goal

pub walk_unseen-requires : goal.walk_unseen-requires
walk_unseen-requires c = record { listable = c.requires; unseen = (omega (arith, c.requires.few), refl) }

pub returns : goal.returns
returns c = c.walk_unseen.ensures
