-- `take_file` meets its contract: the taking's own equation, with its reply as a number.
use mathlib.Core.Path.{refl}
use Rattle.file_taking.proofs.Ending.{file-taken}
use Rattle.file_taking.proofs.take_file.Goals as goal

pub returns : goal.returns
returns c = file-taken _ _ _ refl c.take_records-taken.ensures
