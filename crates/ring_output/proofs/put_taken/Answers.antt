-- `put_taken` meets its contract, case by case.
use mathlib.Core.Path.{◌∙◌, sym, subst}
use Rattle.rules.specs.Limits.{limits}
use Rattle.tables.specs.Regions.{state_in}
use Rattle.lists.specs.Buffer.{Put}
use Rattle.file_rules.specs.Lines.{refusal_line}
use Rattle.taking.specs.Answers.{reply_of}
use Rattle.ring_output.specs.Output.{Tells}
use Rattle.ring_output.specs.declared.Output.TheVariants.{File, Refusal}
use Rattle.ring_output.proofs.put_taken.Goals as goal

pub returns-in-Ok : goal.returns-in-Ok
returns-in-Ok c =
    let t = c.put_map-size in
    subst (λ r. Tells (reply_of r) c.args.records (state_in limits c.args.graph c.args.floats.now c.args.numbers.now c.args.stars.now c.args.marks.now c.args.ids.now) (File t.result) c.args.out.now t.new.out) (sym c.in-Ok.is) t.ensures

pub returns-in-Err : goal.returns-in-Err
returns-in-Err c =
    let t = c.put_refusal-size in
    let p = subst (λ n. Put 0 (refusal_line n c.args.records) c.args.out.now t.new.out t.result) (c.from-shown.ensures ∙ c.take_number.ensures) t.ensures in
    subst (λ r. Tells (reply_of r) c.args.records (state_in limits c.args.graph c.args.floats.now c.args.numbers.now c.args.stars.now c.args.marks.now c.args.ids.now) (Refusal t.result) c.args.out.now t.new.out) (sym c.in-Err.is) p
