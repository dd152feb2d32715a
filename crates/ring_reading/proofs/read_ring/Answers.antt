-- `read_ring` meets its contract, by what the frame is.
use native.Mathlib.Omega.{arith}
use mathlib.Core.Path.{◌≡◌, sym, ap, subst, ◌∙◌}
use lib.ListN.{drop}
use Rattle.std.proofs.lemmas.Result.{err_from_is_err_and}
use Rattle.std.specs.Prelude.{Ok, Some}
use Rattle.file_rules.specs.Records.{taken, wrong, end, frame}
use Rattle.frames.specs.Frames as frames
use Rattle.ring_reading.specs.Found.{number_of, found_of}
use Rattle.ring_reading.proofs.Records.{by_frame, other-passed}
use Rattle.ring_reading.proofs.read_ring.Goals as goal
use Rattle.ring_reading.proofs.read_ring.Goals.{In-Some}

-- the frame is what the bytes begin with
begun : (c : In-Some) → frames.record_of c.in-Some.frame ≡ frame (drop c.args.at c.args.bytes.now)
begun c = sym (ap (λ o. frames.frame_of (Ok o)) c.in-Some.is) ∙ c.in_ok-frame.ensures.frame

pub whole_ring-requires : goal.whole_ring-requires
whole_ring-requires c = sym (begun (goal.at.whole_ring-requires c).In-Some) ∙ ap frames.record_of c.in-Ring.is

pub returns-in-Segment : goal.returns-in-Segment
returns-in-Segment c =
    by_frame (drop c.args.at c.args.bytes.now) (taken 1 c.in-Segment.size)
    (sym (ap frames.record_of c.in-Segment.is) ∙ begun (goal.at.returns-in-Segment c).In-Some)

pub returns-in-Skipped : goal.returns-in-Skipped
returns-in-Skipped c =
    let k = c.in-Skipped.field-0 in
    let three = subst frames.RecordSkips c.in-Skipped.is (subst (λ o. frames.Skips (Ok o)) c.in-Some.is c.in_ok-frame.ensures.skipped) in
    let d : k ≡ 2 → ⊥ = λ e. omega (arith, three, e) in
    other-passed (drop c.args.at c.args.bytes.now) k _ d (sym (ap frames.record_of c.in-Skipped.is) ∙ begun (goal.at.returns-in-Skipped c).In-Some)

pub returns-in_default : goal.returns-in_default
returns-in_default c =
    by_frame (drop c.args.at c.args.bytes.now) end (sym (ap (λ o. frames.frame_of (Ok o)) c.in_default.is) ∙ c.in_ok-frame.ensures.frame)

pub returns-in_err-frame : goal.returns-in_err-frame
returns-in_err-frame c =
    let a = c.args in
    let s = drop a.at a.bytes.now in
    let p = err_from_is_err_and c.from_residual.result c.from_residual.ensures.1 in
    ap (found_of s) p.1 ∙ ap (λ why. wrong (number_of why)) p.2 ∙ by_frame s (wrong (frames.number_of c.in_err-frame.field-0.0)) c.in_err-frame.ensures.frame
