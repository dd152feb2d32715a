-- `adding::find_id` meets its contract.
use Rattle.adding.proofs.find_id.Goals as goal

pub returns-then-known : goal.returns-then-known
returns-then-known c = rw c.if-known.true

pub returns-else-known : goal.returns-else-known
returns-else-known c = rw c.if-known.false c.find_pair.ensures
