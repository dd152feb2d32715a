-- `digits_in` meets its contract. The invariant: the value is what the digits passed write.
use Rattle.call_list.specs.Digits.{Written}
use Rattle.call_list.proofs.numbers.digits_in.Given as goal

abbrev pub invariant-loop-byte : goal.invariant-loop-byte
invariant-loop-byte l = Written l.base l.digits 0 l.byte-index l.value
