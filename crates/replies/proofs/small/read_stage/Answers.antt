-- `read_stage` meets its contract.
use mathlib.Core.Path.{refl}
use borrow.Author.Tests.{lt-ltb, le-ltb}
use Rattle.replies.proofs.small.read_stage.Goals as goal

pub returns-then-number-lt256 : goal.returns-then-number-lt256
returns-then-number-lt256 c = rw (lt-ltb _ _ c.if-number-lt256.true) refl

pub returns-else-number-lt256 : goal.returns-else-number-lt256
returns-else-number-lt256 c = rw (le-ltb _ _ c.if-number-lt256.false) refl
