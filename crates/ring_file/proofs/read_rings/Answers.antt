-- `read_rings` meets its contract: a record's refusal, then 14, then the rings.
use native.Mathlib.Omega.{arith}
use mathlib.Core.Path.{ap, ◌∙◌}
use Rattle.std.proofs.lemmas.Result.{err_from_is_err_and}
use Rattle.geometry.specs.Reply.{refused}
use Rattle.ring_file.specs.Answers.{read_of}
use Rattle.file_rules.specs.Records.{read_file}
use Rattle.file_rules.specs.RingFile.{FileRings, lent, ring_next}
use Rattle.ring_reading.specs.Found.{number_of}
use Rattle.ring_file.proofs.Reading.{Counted, counted_is, read_refused, read_few, read_short, read_done}
use Rattle.ring_file.proofs.read_rings.Goals as goal
use Rattle.ring_file.proofs.read_rings.Goals.{Start, In_ok-counted}

-- the lists as they were lent
abbrev old : Start → FileRings
old c = let a = c.args in lent a.ring_first.now a.ring_length.now a.ring_face.now a.ring_doubled.now a.nodes.now

-- what the file was found to hold
counted : (c : In_ok-counted) → Counted (read_file ring_next c.args.bytes.now) c.in_ok-counted.counted.rings c.in_ok-counted.counted.nodes
counted c = counted_is _ _ _ c.in_ok-counted.ensures

pub returns-then-room-counted : goal.returns-then-room-counted
returns-then-room-counted c =
    let w = goal.at.returns-then-room-counted c in
    read_few c.args.bytes.now (old w.Start) _ _ (counted w.In_ok-counted) (omega (arith, c.shortest-room.ensures, c.if-room-counted.true))

pub returns-then-nodes-counted : goal.returns-then-nodes-counted
returns-then-nodes-counted c =
    let w = goal.at.returns-then-nodes-counted c in
    read_short c.args.bytes.now (old w.Start) _ _ (counted w.In_ok-counted) (omega arith)

pub take_rings-requires : goal.take_rings-requires
take_rings-requires c =
    let w = counted (goal.at.take_rings-requires c).In_ok-counted in
    record {
      bytes_len_bound = omega (arith, w.is_rings, c.shortest-room.ensures);
      bytes_in_bounds = omega (arith, w.is_nodes);
    }

pub returns-in_err-counted : goal.returns-in_err-counted
returns-in_err-counted c =
    let t = old (goal.at.returns-in_err-counted c).Start in
    let p = err_from_is_err_and c.from_residual.result c.from_residual.ensures.1 in
    ap (λ r. read_of r t) p.1 ∙ ap (λ why. record { reply = refused (number_of why); lists = t }) p.2
    ∙ read_refused c.args.bytes.now t (number_of c.in_err-counted.field-0.0) c.in_err-counted.ensures

pub returns : goal.returns
returns c =
    let w = goal.at.returns c in
    read_done c.args.bytes.now (old w.Start) _ _ (counted w.In_ok-counted) (omega (arith, c.shortest-room.ensures)) (omega arith) _ c.take_rings.ensures
