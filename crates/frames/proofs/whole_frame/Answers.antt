-- `whole_frame` meets its contract: each return is a case of the definition.
use native.Mathlib.Omega.{arith}
use Rattle.frames.proofs.Cases.{whole_none, whole_length, whole_segment, whole_head, whole_ring_lem, whole_skipped, whole_low, whole_high}
use Rattle.frames.proofs.whole_frame.Goals as goal

pub returns-then-length-lt-KIND_BYTES : goal.returns-then-length-lt-KIND_BYTES
returns-then-length-lt-KIND_BYTES c = let a = c.args in record { frame = whole_none a.length a.kind c.if-length-lt-KIND_BYTES.true; skipped = tt }

pub returns-then-length-ne-SEGMENT_LENGTH : goal.returns-then-length-ne-SEGMENT_LENGTH
returns-then-length-ne-SEGMENT_LENGTH c =
    let a = c.args in
    record {
      frame = whole_length a.length a.kind c.if-length-lt-KIND_BYTES.false c.in-1.is c.if-length-ne-SEGMENT_LENGTH.true;
      skipped = tt;
    }

pub returns-then-length-lt-RING_HEAD : goal.returns-then-length-lt-RING_HEAD
returns-then-length-lt-RING_HEAD c =
    let a = c.args in
    record {
      frame = whole_head a.length a.kind c.if-length-lt-KIND_BYTES.false c.in-2.is c.if-length-lt-RING_HEAD.true;
      skipped = tt;
    }

pub returns-else-length-ne-SEGMENT_LENGTH : goal.returns-else-length-ne-SEGMENT_LENGTH
returns-else-length-ne-SEGMENT_LENGTH c =
    let a = c.args in
    record {
      frame = whole_segment a.length a.kind c.if-length-lt-KIND_BYTES.false c.in-1.is c.if-length-ne-SEGMENT_LENGTH.false;
      skipped = tt;
    }

pub returns-else-length-lt-RING_HEAD : goal.returns-else-length-lt-RING_HEAD
returns-else-length-lt-RING_HEAD c =
    let a = c.args in
    record {
      frame = whole_ring_lem a.length a.kind c.if-length-lt-KIND_BYTES.false c.in-2.is c.if-length-lt-RING_HEAD.false;
      skipped = tt;
    }

pub returns-in-3-to-15 : goal.returns-in-3-to-15
returns-in-3-to-15 c =
    let a = c.args in
    record {
      frame = whole_skipped a.length a.kind c.if-length-lt-KIND_BYTES.false (λ e. omega arith) (λ e. omega arith) (omega arith) (omega arith);
      skipped = omega arith;
    }

pub returns-in_default : goal.returns-in_default
returns-in_default c =
    let a = c.args in
    record {
      frame = whole_low a.length a.kind c.if-length-lt-KIND_BYTES.false (λ e. omega arith) (λ e. omega arith) (omega arith);
      skipped = tt;
    }

pub returns-in_default-2 : goal.returns-in_default-2
returns-in_default-2 c =
    let a = c.args in
    record {
      frame = whole_high a.length a.kind c.if-length-lt-KIND_BYTES.false (λ e. omega arith) (λ e. omega arith) (omega arith);
      skipped = tt;
    }
