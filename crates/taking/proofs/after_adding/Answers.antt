-- `after_adding` meets its contract: case by case, the number of a refusal being the definition's.
use mathlib.Core.Path.{sym, ap}
use Rattle.adding.specs.Outcomes.{reply_of}
use Rattle.taking.specs.Taking.{after_adding_lem}
use Rattle.taking.proofs.after_adding.Goals as goal

pub returns-in-Ok-New : goal.returns-in-Ok-New
returns-in-Ok-New c = sym (ap (λ r. after_adding_lem (reply_of r) c.args.size) c.in-Ok-New.is)

pub returns-in-Ok-Old : goal.returns-in-Ok-Old
returns-in-Ok-Old c = sym (ap (λ r. after_adding_lem (reply_of r) c.args.size) c.in-Ok-Old.is)

pub returns-in-Err : goal.returns-in-Err
returns-in-Err c = sym (ap (λ r. after_adding_lem (reply_of r) c.args.size) c.in-Err.is)
