-- `tukmiheb_read_record` meets its contract.
use native.Mathlib.Omega.{arith}
use mathlib.Core.Path.{◌≡◌, sym, ap, subst, ◌∙◌}
use lib.ListN.{drop, length-drop}
use Rattle.geometry.specs.declared.Line3D.{Line3D}
use Rattle.file_rules.specs.Records.{Found, taken, passed}
use Rattle.file_rules.specs.SegmentFile.{segment_next}
use Rattle.frames.proofs.FrameLaws.{Within}
use Rattle.segment_file.proofs.Found.{segment-within}
use Rattle.station_questions.specs.Reading.{gave_by, gave_record}
use Rattle.station_questions.proofs.record.tukmiheb_read_record.Goals as goal
use Rattle.station_questions.proofs.record.tukmiheb_read_record.Goals.{After-read_record, In-Ok-Some-Segment, In-Ok-Some-Passed}

-- the bytes of what is found are there
within : (c : After-read_record) (f : Found Line3D) → f ≡ segment_next (drop c.args.at c.args.bytes.now) → Within (drop c.args.at c.args.bytes.now) f
within c f e = subst (Within (drop c.args.at c.args.bytes.now)) (sym e) (segment-within (drop c.args.at c.args.bytes.now))

-- and it gives what the definition gives
given : (c : After-read_record) (f : Found Line3D) → f ≡ segment_next (drop c.args.at c.args.bytes.now)
    → (let a = c.args in gave_record a.line.now a.reply.now a.at f ≡ gave_record a.line.now a.reply.now a.at (segment_next (drop a.at a.bytes.now)))
given c f e = ap (gave_record c.args.line.now c.args.reply.now c.args.at) e

-- a segment is found
segment : (c : In-Ok-Some-Segment) → taken c.in-Ok-Some-Segment.found c.in-Ok-Some-Segment.size ≡ segment_next (drop c.args.at c.args.bytes.now)
segment c =
    let m = c.in-Ok-Some-Segment in
    let some = rw m.field-0-is at m.ensures in
    rw m.field-0-0-is at some

-- or a record that is passed over
pass : (c : In-Ok-Some-Passed) → passed c.in-Ok-Some-Passed.size ≡ segment_next (drop c.args.at c.args.bytes.now)
pass c =
    let m = c.in-Ok-Some-Passed in
    let some = rw m.field-0-is at m.ensures in
    rw m.field-0-0-is at some

pub overflow_add-at : goal.overflow_add-at
overflow_add-at c =
    let k = goal.at.overflow_add-at c in
    let w = within k.After-read_record _ (segment k.In-Ok-Some-Segment) in
    omega (arith, w, length-drop c.args.at c.args.bytes.now)

pub overflow_add-at-in-Ok-Some-Passed : goal.overflow_add-at-in-Ok-Some-Passed
overflow_add-at-in-Ok-Some-Passed c =
    let k = goal.at.overflow_add-at-in-Ok-Some-Passed c in
    let w = within k.After-read_record _ (pass k.In-Ok-Some-Passed) in
    omega (arith, w, length-drop c.args.at c.args.bytes.now)

pub returns-in-Ok-Some-Segment : goal.returns-in-Ok-Some-Segment
returns-in-Ok-Some-Segment c =
    let k = goal.at.returns-in-Ok-Some-Segment c in
    (λ i. gave_by 0 (c.write_line.ensures i) (c.write_record.ensures i)) ∙ given k.After-read_record _ (segment k.In-Ok-Some-Segment)

pub returns-in-Ok-Some-Passed : goal.returns-in-Ok-Some-Passed
returns-in-Ok-Some-Passed c =
    let k = goal.at.returns-in-Ok-Some-Passed c in
    (λ i. gave_by 0 c.args.line.now (c.write_record-in-Ok-Some-Passed.ensures i)) ∙ given k.After-read_record _ (pass k.In-Ok-Some-Passed)

pub returns-in-Ok-None : goal.returns-in-Ok-None
returns-in-Ok-None c =
    let e = rw c.in-Ok-None.field-0-is at c.in-Ok-None.ensures in
    given (goal.at.returns-in-Ok-None c).After-read_record _ e

pub returns-in-Err : goal.returns-in-Err
returns-in-Err c =
    let a = c.args in
    ap (λ n. gave_by n a.line.now a.reply.now) c.file_number.ensures ∙ given (goal.at.returns-in-Err c).After-read_record _ c.in-Err.ensures
