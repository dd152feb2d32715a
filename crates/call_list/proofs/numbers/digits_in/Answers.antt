use Rattle.std.proofs.Common.{◌≡◌, ◌<◌, get_or, rules, arith}
use Rattle.call_list.specs.Digits.{digit_of}
use Rattle.call_list.proofs.Digits.{written_none, written_more}
use Rattle.call_list.proofs.numbers.digits_in.Goals as goal

pub loop-byte-init : goal.loop-byte-init
loop-byte-init c = written_none _ _ _

pub loop-byte-preserved : goal.loop-byte-preserved
loop-byte-preserved c =
    let digit : c.in_ok-digit.digit ≡ digit_of (get_or c.args.digits.now c.loop-byte.byte-index 0) = search rules in
    let below : c.in_ok-digit.digit < c.args.base = search rules in
    written_more _ _ _ c.loop-byte.byte-index c.loop-byte.value c.in_ok-digit.digit (omega arith) digit below c.loop-byte.invariant
