-- `lesser` meets its contract.
use native.Mathlib.Omega.{arith}
use mathlib.Core.Path.{sym, ◌∙◌}
use Rattle.corners.specs.Boxes.{lower}
use Rattle.corners.proofs.Whole.{entries_compared}
use Rattle.corners.proofs.Firsts.{second-first, first-first, lower-order}
use Rattle.corners.proofs.boxes.lesser.Goals as goal

pub returns-then-table-from : goal.returns-then-table-from
returns-then-table-from c = second-first (lower c.args.table.now) (lower-order c.args.table.now) c.args.a c.args.b (sym (entries_compared c.args.table.now c.from.result c.from-2.result c.args.b c.args.a (omega arith) (omega arith) c.from.ensures c.from-2.ensures) ∙ c.if-table-from.true)

pub returns : goal.returns
returns c = first-first (lower c.args.table.now) (lower-order c.args.table.now) c.args.a c.args.b (sym (entries_compared c.args.table.now c.from.result c.from-2.result c.args.b c.args.a (omega arith) (omega arith) c.from.ensures c.from-2.ensures) ∙ c.if-table-from.false)
