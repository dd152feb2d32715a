-- The values of each reply, as numbers in the order in which they are written.
use Rattle.std.specs.Prelude.{ℕ, cond, List, [], ◌∷◌}
use Rattle.rules.specs.Adding.{Nothing, Added}
use Rattle.rules.specs.Euler.{Census}
use Rattle.rules.specs.Stages.{Cutting}

-- success alone
abbrev pub no_values : Nothing → List ℕ
no_values a = []

-- the edge, and 1 where it is new
abbrev pub added_values : Added → List ℕ
added_values a = a.edge ∷ cond a.new 1 0 ∷ []

-- the count
abbrev pub count_value_lem : ℕ → List ℕ
count_value_lem n = n ∷ []

-- the count, V, E, cycles, C, and 1 where the verdict is yes
abbrev pub census_values : ℕ → Census → List ℕ
census_values n c = n ∷ c.vertices ∷ c.edges ∷ c.cycles ∷ c.pieces ∷ cond c.verdict 1 0 ∷ []

abbrev pub cut_values : Cutting → List ℕ
cut_values a = census_values a.count a.census
