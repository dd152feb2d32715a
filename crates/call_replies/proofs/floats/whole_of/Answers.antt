-- `whole_of` is safe: a float is made a whole number only within 64 bits.
use Rattle.std.proofs.Common.{T, sym, subst}
use lib.Ieee.{of_bits, neg}
use Rattle.call_replies.proofs.floats.whole_of.Goals as goal

pub truncating_f64_to_u64-n-requires : goal.truncating_f64_to_u64-n-requires
unfolding of_bits neg
truncating_f64_to_u64-n-requires c = record { lower_bound = subst T (sym c.if-size.true) tt; upper_bound = subst T (sym c.if-size-2.true) tt }
