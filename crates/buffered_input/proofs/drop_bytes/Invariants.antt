-- `drop_bytes` meets its contract. What came so far and what is left make up what was to be dropped; a read that brings some leaves less.
use Rattle.std.proofs.Common.{◌≡◌, ℕ, ◌+◌, List, length}
use Rattle.buffered_input.proofs.drop_bytes.Given as goal

abbrev pub invariant-loop-left : goal.invariant-loop-left
invariant-loop-left g l = record {
  came : (came : List ℕ) × (length came + l.left ≡ l.missing);
  full : length l.buffer ≡ length l.fn.buffer;
}

abbrev pub decreases-loop-left : goal.decreases-loop-left
decreases-loop-left g l = l.left
