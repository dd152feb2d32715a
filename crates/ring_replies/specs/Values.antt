-- The values of ring extraction's reply, as numbers in the order in which they are written.
use Rattle.std.specs.Prelude.{ℕ, List, [], ◌∷◌, ◌++◌}
use Rattle.rules.specs.Extraction.{RingAnswer}
use Rattle.replies.specs.Values.{census_values}

-- the count, the census, the comparisons of naming, and how many half-edges and holes were written
abbrev pub ring_values : RingAnswer → List ℕ
ring_values a = census_values a.ringing.count a.ringing.census ++ (a.ringing.comparisons ∷ a.half_edges_lem ∷ a.holes ∷ [])
