-- The census as the rules have it.
use Rattle.rules.specs.Euler.{Census as Counts}
use Rattle.cycles.specs.declared.Census.{Census}

-- the same five values
abbrev pub census_of : Census → Counts
census_of c = record { vertices = c.vertices; edges = c.edges; cycles = c.cycles; pieces = c.pieces; verdict = c.verdict }
