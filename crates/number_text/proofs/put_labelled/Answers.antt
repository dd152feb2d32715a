-- `put_labelled` meets its contract: the text, and then the number.
use Rattle.file_rules.specs.Decimal.{decimal}
use Rattle.file_rules.specs.Lines.{labelled}
use Rattle.lists.proofs.Buffers.{left-all, left-room, left-fits, left_put, left-last}
use Rattle.number_text.proofs.put_labelled.Goals as goal

pub put_text-place-requires : goal.put_text-place-requires
put_text-place-requires c = left-fits c.args.label.now (decimal c.args.n) (let a = c.args in left-all a.at (labelled a.label.now a.n) a.out.now c.requires)

pub put_number-requires : goal.put_number-requires
put_number-requires c = left-room (left_put c.put_text-place.ensures (let a = c.args in left-all a.at (labelled a.label.now a.n) a.out.now c.requires))

pub returns : goal.returns
returns c = left-last c.put_number.ensures (left_put c.put_text-place.ensures (let a = c.args in left-all a.at (labelled a.label.now a.n) a.out.now c.requires))
