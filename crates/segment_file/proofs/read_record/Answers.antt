-- `read_record` meets its contract, for all bytes and places: the frame decides, and a segment is read where it stands.
use native.Mathlib.Omega.{arith}
use mathlib.Core.Path.{◌≡◌, sym, ap, subst, ◌∙◌}
use lib.ListN.{drop}
use Rattle.std.specs.Prelude.{Ok}
use Rattle.std.proofs.lemmas.Result.{err_from_is_err_and}
use Rattle.frames.specs.Frames.{number_of, record_of, frame_of, RecordSkips, Skips}
use Rattle.file_rules.specs.Records.{wrong, frame}
use Rattle.segment_file.specs.Record.{read_of}
use Rattle.segment_file.proofs.Found.{by_frame, other-there, room, segment-there}
use Rattle.segment_file.proofs.read_record.Goals as goal
use Rattle.segment_file.proofs.read_record.Goals.{In-Some}

-- the frame is what the bytes begin with
begun : (c : In-Some) → record_of c.in-Some.frame ≡ frame (drop c.args.at c.args.bytes.now)
begun c = sym (ap (λ o. frame_of (Ok o)) c.in-Some.is) ∙ c.in_ok-frame.ensures.frame

pub segment_at-requires : goal.segment_at-requires
segment_at-requires c = room c.args.bytes.now c.args.at _ (sym (ap record_of c.in-Segment.is) ∙ begun (goal.at.segment_at-requires c).In-Some)

pub returns-in-Segment : goal.returns-in-Segment
returns-in-Segment c =
    segment-there c.args.bytes.now c.args.at _ (sym (ap record_of c.in-Segment.is) ∙ begun (goal.at.returns-in-Segment c).In-Some) _ c.segment_at.ensures

pub returns-in-Ring : goal.returns-in-Ring
returns-in-Ring c = by_frame (drop c.args.at c.args.bytes.now) _ (sym (ap record_of c.in-Ring.is) ∙ begun (goal.at.returns-in-Ring c).In-Some)

pub returns-in-Skipped : goal.returns-in-Skipped
returns-in-Skipped c =
    let e = c.in-Skipped.is in
    let k = subst RecordSkips e (subst (λ o. Skips (Ok o)) c.in-Some.is c.in_ok-frame.ensures.skipped) in
    other-there (drop c.args.at c.args.bytes.now) _ _ (λ z. omega (arith, k)) (sym (ap record_of e) ∙ begun (goal.at.returns-in-Skipped c).In-Some)

pub returns-in_default : goal.returns-in_default
returns-in_default c = by_frame (drop c.args.at c.args.bytes.now) _ (sym (ap (λ o. frame_of (Ok o)) c.in_default.is) ∙ c.in_ok-frame.ensures.frame)

pub returns-in_err-frame : goal.returns-in_err-frame
returns-in_err-frame c =
    let p = err_from_is_err_and c.from_residual.result c.from_residual.ensures.1 in
    ap read_of p.1 ∙ ap (λ why. wrong (number_of why)) p.2 ∙ by_frame (drop c.args.at c.args.bytes.now) _ c.in_err-frame.ensures.frame
