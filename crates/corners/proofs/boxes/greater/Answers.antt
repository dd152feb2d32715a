-- `greater` meets its contract.
use native.Mathlib.Omega.{arith}
use mathlib.Core.Path.{sym, ◌∙◌}
use Rattle.corners.specs.Boxes.{higher}
use Rattle.corners.proofs.Whole.{entries_compared}
use Rattle.corners.proofs.Firsts.{second-first, first-first, higher-order}
use Rattle.corners.proofs.boxes.greater.Goals as goal

pub returns-then-table-wide : goal.returns-then-table-wide
returns-then-table-wide c = second-first (higher c.args.table.now) (higher-order c.args.table.now) c.args.a c.args.b (sym (entries_compared c.args.table.now c.wide.result c.wide-2.result c.args.a c.args.b (omega arith) (omega arith) c.wide.ensures c.wide-2.ensures) ∙ c.if-table-wide.true)

pub returns : goal.returns
returns c = first-first (higher c.args.table.now) (higher-order c.args.table.now) c.args.a c.args.b (sym (entries_compared c.args.table.now c.wide.result c.wide-2.result c.args.a c.args.b (omega arith) (omega arith) c.wide.ensures c.wide-2.ensures) ∙ c.if-table-wide.false)
