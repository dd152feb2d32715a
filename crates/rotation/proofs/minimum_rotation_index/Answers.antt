-- `rotation::minimum_rotation_index` meets its contract.
-- Assumes nothing.
use borrow.Author.Tests.{eq-eqb, ne_eqb}
use mathlib.Core.Path.{ap}
use Rattle.std.specs.declared.result.Result.TheVariants.{Ok}
use Rattle.rotation.specs.Answers.{rotation_start}
use Rattle.rotation.proofs.minimum_rotation_index.Goals as goal

pub returns-then-xs-ys : goal.returns-then-xs-ys
unfolding rotation_start
returns-then-xs-ys c = rw (eq-eqb _ _ c.if-xs-ys.true) (ap Ok c.rotation_index.ensures)

pub returns : goal.returns
unfolding rotation_start
returns c = rw (ne_eqb _ _ c.if-xs-ys.false)
