-- `put_first` meets its contract: the place of the list lies in the third region, the link in the last.
use Prim.Native.Nat.{◌+◌, ◌*◌, ◌<◌}
use native.Mathlib.Omega.{arith}
use mathlib.Core.Path.{ap, ◌∙◌}
use lib.ListN.{set, length-set}
use Rattle.rules.specs.Limits.{limits}
use Rattle.tables.specs.Regions.{list_places_in, links_in}
use Rattle.pair_entries.proofs.Stores.{listed, listed-sources, listed-targets, listed_links, linked, linked_sources, linked_targets, linked_places}
use Rattle.pair_entries.proofs.put_first.Goals as goal

pub bounds-numbers-from-2 : goal.bounds-numbers-from-2
bounds-numbers-from-2 c = simp length-set (omega arith)

pub returns : goal.returns
returns c =
    let numbers = c.args.numbers.now in
    let place = c.args.place in
    let next = c.args.next in
    let at = c.from.result in
    let p = c.from-2.result in
    let one = set numbers (4 * limits.edges + at) place in
    let few : at < limits.edges = omega (arith, c.requires.0, c.from.ensures) in record {
      source = linked_sources limits one p next ∙ listed-sources limits numbers at place few;
      target = linked_targets limits one p next ∙ listed-targets limits numbers at place few;
      list = linked_places limits one p next ∙ listed limits numbers at place few ∙ ap (λ e. set (list_places_in limits numbers) e place) c.from.ensures;
      link = linked limits one p next ∙ ap (λ t. set t p next) (listed_links limits numbers at place few) ∙ ap (λ e. set (links_in limits numbers) e next) c.from-2.ensures;
    }
