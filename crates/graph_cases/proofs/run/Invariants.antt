-- `run` ends: each turn leaves less of the text.
use Rattle.std.proofs.Common.{length}
use Rattle.graph_cases.proofs.run.Given as goal

abbrev pub decreases-loop-rest : goal.decreases-loop-rest
decreases-loop-rest g l = length l.rest
