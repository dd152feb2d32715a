-- `add_records` meets its contract: where numbers 6, 7 and 5 pass, `take_file` takes the file.
use mathlib.Core.Path.{sym, ◌∙◌}
use Rattle.rules.specs.Limits.{limits}
use Rattle.tables.specs.Regions.{state_in}
use Rattle.calls.proofs.Shells.{stage-passed}
use Rattle.file_entry.proofs.Shell.{records_stop, records_pass}
use Rattle.file_entry.proofs.add_records.Goals as goal

pub returns-in-Err : goal.returns-in-Err
returns-in-Err c = records_stop limits c.args.bytes.now (state_in limits c.args.graph c.args.floats.now c.args.numbers.now c.args.stars.now c.args.marks.now c.args.ids.now) _ (sym c.in-Err.is ∙ c.check_stage-checked.ensures)

pub take_file-requires : goal.take_file-requires
take_file-requires c =
    let g = (stage-passed limits 0 (state_in limits c.args.graph c.args.floats.now c.args.numbers.now c.args.stars.now c.args.marks.now c.args.ids.now) (sym c.in_default.is ∙ c.check_stage-checked.ensures)) in
    record { room = g.0.room; sense = g.0.sense; stage = g.1 }

pub returns : goal.returns
returns c =
    let g = (stage-passed limits 0 (state_in limits c.args.graph c.args.floats.now c.args.numbers.now c.args.stars.now c.args.marks.now c.args.ids.now) (sym c.in_default.is ∙ c.check_stage-checked.ensures)) in
    c.take_file.ensures ∙ records_pass limits c.args.bytes.now (state_in limits c.args.graph c.args.floats.now c.args.numbers.now c.args.stars.now c.args.marks.now c.args.ids.now) g.0 g.1
