-- The ring file of a graph that was built: it is sorted, pruned and cut, and then each ring has a record.
use Rattle.std.specs.Prelude.{ℕ, List}
use Rattle.rules.specs.State.{State}
use Rattle.map_steps.specs.Maps.{cut_map_lem}
use Rattle.ring_records.specs.File.{cut_file}

abbrev pub map_file : State → List ℕ
map_file s = cut_file (cut_map_lem s).state
