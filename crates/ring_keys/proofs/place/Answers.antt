-- `ring_keys::place` meets its contract.
-- Assumes nothing.
use native.Mathlib.Omega.{arith}
use Rattle.ring_keys.proofs.KeyLists.{around_in, around-past}
use Rattle.ring_keys.proofs.place.Goals as goal

pub returns-then-k-rest : goal.returns-then-k-rest
returns-then-k-rest c = let r = c.args.ring in around_in r.first r.size r.turn c.args.k (omega arith)

pub returns : goal.returns
returns c = let r = c.args.ring in around-past r.first r.size r.turn c.args.k (omega arith) (omega arith) (omega arith)
