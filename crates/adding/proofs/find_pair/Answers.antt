-- `adding::find_pair` meets its contract.
use native.Mathlib.Omega.{arith}
use borrow.Author.Tests.{lt-ltb, le-ltb}
use Rattle.rules.specs.Limits.{limits}
use Rattle.adding.proofs.find_pair.Goals as goal

pub returns-then-from-lt-MAX_PAIRS : goal.returns-then-from-lt-MAX_PAIRS
returns-then-from-lt-MAX_PAIRS c = rw (lt-ltb c.args.free limits.pairs (omega (arith, c.from.ensures)))

pub returns-else-from-lt-MAX_PAIRS : goal.returns-else-from-lt-MAX_PAIRS
returns-else-from-lt-MAX_PAIRS c = rw (le-ltb c.args.free limits.pairs (omega (arith, c.from.ensures)))
