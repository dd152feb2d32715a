-- `tables::ids::twin_of` meets its contract.
use mathlib.Core.Path.{sym}
use Rattle.rules.proofs.Twin.{twin_even, twin_odd}
use Rattle.tables.proofs.ids.twin_of.Goals as goal

pub returns-then-h-eq0 : goal.returns-then-h-eq0
returns-then-h-eq0 c = sym (twin_even c.args.half.0 c.if-h-eq0.true)

pub returns-else-h-eq0 : goal.returns-else-h-eq0
returns-else-h-eq0 c = sym (twin_odd c.args.half.0 c.if-h-eq0.false)
