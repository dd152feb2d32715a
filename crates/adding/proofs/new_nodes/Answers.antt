-- `adding::new_nodes` meets its contract.
use Rattle.adding.proofs.new_nodes.Goals as goal

pub returns-then-ends-2 : goal.returns-then-ends-2
returns-then-ends-2 c = rw (c.if-ends.true, c.if-ends-2.true)

pub returns-else-ends-2 : goal.returns-else-ends-2
returns-else-ends-2 c = rw (c.if-ends.true, c.if-ends-2.false)

pub returns-then-ends-3 : goal.returns-then-ends-3
returns-then-ends-3 c = rw (c.if-ends.false, c.if-ends-3.true)

pub returns-else-ends-3 : goal.returns-else-ends-3
returns-else-ends-3 c = rw (c.if-ends.false, c.if-ends-3.false)
