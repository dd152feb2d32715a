-- Open rings by the numbers of their sides.
use Rattle.std.specs.Prelude.{ℕ, List, eqb, get_or}
use Rattle.lists.specs.Lists.{below}

-- the number of an open ring's side
abbrev pub open_side : ℕ
open_side = 2

-- the rings among the first n whose side is open
abbrev pub open_among : List ℕ → ℕ → List ℕ
open_among sides n = below (λ i. eqb (get_or sides i 0) open_side) n
