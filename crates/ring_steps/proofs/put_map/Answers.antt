-- `put_map` meets its contract: the steps leave a cut graph, and what follows is its file.
use mathlib.Core.Path.{sym, ap, subst}
use Rattle.lists.specs.Buffer.{Put}
use Rattle.map_steps.specs.Stands.{Stands}
use Rattle.map_steps.proofs.Steps.{mapped_stands}
use Rattle.ring_records.specs.File.{cut_file}
use Rattle.ring_steps.proofs.put_map.Goals as goal

pub put_cut-requires : goal.put_cut-requires
put_cut-requires c = (subst (Stands 3) (sym (ap (λ m. m.state) c.cut_map-map.ensures)) (mapped_stands _ c.requires.0), c.requires.1)

pub returns : goal.returns
returns c =
    let t = c.put_cut in
    subst (λ x. Put 0 x c.args.out.now t.new.out t.result) (ap (λ m. cut_file m.state) c.cut_map-map.ensures) t.ensures
