-- `put_number` meets its contract. The invariant: with the digits of the rest the buffer is what all of them make it.
use mathlib.Core.Path.{◌≡◌}
use Prim.Native.Nat.{◌+◌, ◌≤◌}
use lib.ListN.{length}
use Rattle.file_rules.specs.Decimal.{decimal}
use Rattle.lists.specs.Buffer.{written}
use Rattle.number_text.proofs.put_number.Given as goal

abbrev pub invariant-loop-rest : goal.invariant-loop-rest
invariant-loop-rest l = (l.place ≡ l.at + length (decimal l.rest)) × (l.place ≤ l.after) × (length l.out ≡ length l.initial.out) × (written l.at (decimal l.rest) l.out ≡ written l.at (decimal l.n) l.initial.out)

abbrev pub decreases-loop-rest : goal.decreases-loop-rest
decreases-loop-rest l = l.rest
