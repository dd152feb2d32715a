-- `leaves::push_leaf` meets its contract: one entry is stored, or none.
use native.Mathlib.Omega.{arith}
use mathlib.Core.Path.{sym, ◌∙◌}
use Rattle.leaves.proofs.Latest.{stored, not_stored}
use Rattle.leaves.proofs.push_leaf.Goals as goal

pub returns-then-is_leaf : goal.returns-then-is_leaf
returns-then-is_leaf c = let a = c.args in (stored _ a.stacked a.node.0 a.stack.now (sym c.is_leaf.ensures ∙ c.if-is_leaf.true) (omega arith), omega arith)

pub returns : goal.returns
returns c = let a = c.args in (not_stored _ a.stacked a.node.0 a.stack.now (sym c.is_leaf.ensures ∙ c.if-is_leaf.false), omega arith)
