-- `tukmiheb_read_rings` meets its contract.
use mathlib.Core.Path.{sym, ap, ◌∙◌}
use Rattle.file_rules.specs.RingFile.{lent}
use Rattle.ring_file.specs.Answers.{read_of}
use Rattle.station_ring_files.specs.Calls.{gave_by, gave, rings_read}
use Rattle.station_ring_files.proofs.reading.tukmiheb_read_rings.Goals as goal

pub returns-in-Err : goal.returns-in-Err
returns-in-Err c =
    let w = c.read_rings in
    let lists = lent w.new.ring_first w.new.ring_length w.new.ring_face w.new.ring_doubled w.new.nodes in
    let reply = c.args.reply.now in
    ap (λ n. gave_by n lists reply) c.ring_file_number.ensures
    ∙ ap (λ r. gave rings_read reply (read_of r lists)) (sym c.in-Err.is)
    ∙ (λ i. gave rings_read reply (w.ensures i))

pub returns-in-Ok : goal.returns-in-Ok
returns-in-Ok c =
    let w = c.read_rings in
    let lists = lent w.new.ring_first w.new.ring_length w.new.ring_face w.new.ring_doubled w.new.nodes in
    let reply = c.args.reply.now in
    ap (λ r. gave rings_read reply (read_of r lists)) (sym c.in-Ok.is) ∙ (λ i. gave rings_read reply (w.ensures i))
