-- `tukmiheb_write_rings` meets its contract.
use mathlib.Core.Path.{sym, ap, ◌∙◌}
use Rattle.ring_file.specs.Answers.{written_of}
use Rattle.station_ring_files.specs.Calls.{gave_by, gave, bytes_written}
use Rattle.station_ring_files.proofs.writing.tukmiheb_write_rings.Goals as goal

pub returns-in-Err : goal.returns-in-Err
returns-in-Err c =
    let w = c.write_rings in
    let reply = c.args.reply.now in
    ap (λ n. gave_by n w.new.out reply) c.ring_file_number.ensures
    ∙ ap (λ r. gave bytes_written reply (written_of r w.new.out)) (sym c.in-Err.is)
    ∙ (λ i. gave bytes_written reply (w.ensures i))

pub returns-in-Ok : goal.returns-in-Ok
returns-in-Ok c =
    let w = c.write_rings in
    let reply = c.args.reply.now in
    ap (λ r. gave bytes_written reply (written_of r w.new.out)) (sym c.in-Ok.is) ∙ (λ i. gave bytes_written reply (w.ensures i))
