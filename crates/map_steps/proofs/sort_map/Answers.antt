-- `sort_map` meets its contract: sorting succeeds.
use Rattle.rules.specs.Limits.{limits}
use Rattle.rules.proofs.Going.{sort-is}
use Rattle.map_steps.proofs.Steps.{leaves}
use Rattle.map_steps.proofs.sort_map.Goals as goal

pub returns : goal.returns
returns c = leaves _ _ _ _ _ c.sort_edges-done.ensures (sort-is limits _ c.requires.held c.requires.here)
