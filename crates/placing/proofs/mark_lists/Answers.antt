-- `mark_lists` meets its contract: the regions are lent as parts.
use Prim.Native.Nat.{◌*◌}
use mathlib.Core.Path.{sym, subst, ◌∙◌}
use Rattle.rules.specs.Limits.{limits}
use Rattle.tables.specs.Regions.{list_places_in, links_in}
use Rattle.tables.proofs.Regions.{tail-is}
use Rattle.line_ids.specs.Free.{used_marks, Ending}
use Rattle.placing.proofs.mark_lists.Goals as goal

pub mark_used-requires : goal.mark_used-requires
mark_used-requires c =
    let numbers = c.args.numbers.now in
    let places = list_places_in limits numbers in
    subst (λ n. Ending limits.pairs places n c.from.result) (sym (tail-is (5 * limits.edges) numbers))
    (subst (λ e. Ending limits.pairs places (links_in limits numbers) e) (sym c.from.ensures) c.requires.1)

pub returns : goal.returns
returns c =
    let numbers = c.args.numbers.now in
    c.mark_used.ensures
    ∙ (λ i. used_marks limits.pairs (list_places_in limits numbers) (tail-is (5 * limits.edges) numbers i) (c.from.ensures i))
