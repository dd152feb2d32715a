-- The side of a ring by its number and its area, as the replied lists hold them.
use Rattle.std.specs.Prelude.{ℕ, zero, suc, cond, ◌&&◌, List, ltb, Float, length, get_or, Result, Ok, Err}
use Rattle.std.specs.Float.{nan}
use Rattle.ring_tally.specs.declared.side.RingSide.{RingSide}
use Rattle.ring_tally.specs.declared.side.RingSide.TheVariants.{Enclosed, Open, Flat}
use Rattle.ring_sides.specs.declared.NoSide.{NoSide}
use Rattle.ring_sides.specs.declared.NoSide.TheVariants.{PastLists, OtherNumber}

-- 0 is flat, which carries no area, 1 enclosed with its area, 2 open with its area; no other number is a side
abbrev pub side_from : ℕ → Float → Result RingSide NoSide
side_from zero a = Ok Flat
side_from (suc zero) a = Ok (Enclosed a)
side_from (suc (suc zero)) a = Ok (Open a)
side_from (suc (suc (suc n))) a = Err OtherNumber

-- the side of ring i; there is none past the end of either list
abbrev pub side_at_lem : List ℕ → List Float → ℕ → Result RingSide NoSide
side_at_lem sides areas i = cond (ltb i (length sides) && ltb i (length areas)) (side_from (get_or sides i 0) (get_or areas i nan)) (Err PastLists)
