-- `create_if` meets its contract: the two answers are those of the definition.
use mathlib.Core.Path.{sym, ap}
use Rattle.create_entry.specs.Replies.{created_if}
use Rattle.create_entry.proofs.create_if.Goals as goal

pub returns-then-room : goal.returns-then-room
returns-then-room c = sym (ap created_if c.if-room.true)

pub returns : goal.returns
returns c = sym (ap created_if c.if-room.false)
