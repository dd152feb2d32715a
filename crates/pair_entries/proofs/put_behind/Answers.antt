-- `put_behind` meets its contract: both links lie in the last region.
use Prim.Native.Nat.{◌+◌, ◌*◌}
use native.Mathlib.Omega.{arith}
use mathlib.Core.Path.{ap, ap₂, ◌∙◌}
use lib.ListN.{get_or, set, length-set}
use Rattle.rules.specs.Limits.{limits}
use Rattle.tables.specs.Regions.{links_in}
use Rattle.pair_entries.proofs.Stores.{linked, linked_sources, linked_targets, linked_places, link_read}
use Rattle.pair_entries.proofs.put_behind.Goals as goal

pub bounds-numbers-at-2 : goal.bounds-numbers-at-2
bounds-numbers-at-2 c = simp length-set (omega arith)

pub returns : goal.returns
returns c =
    let numbers = c.args.numbers.now in
    let links = links_in limits numbers in
    let place = c.args.place in
    let w = c.from-at in
    let b = w.result in
    let p = c.from.result in
    let n = get_or numbers (5 * limits.edges + b) 0 in
    let one = set numbers (5 * limits.edges + p) n in record {
      source = linked_sources limits one b place ∙ linked_sources limits numbers p n;
      target = linked_targets limits one b place ∙ linked_targets limits numbers p n;
      list = linked_places limits one b place ∙ linked_places limits numbers p n;
      link = linked limits one b place ∙ ap (λ t. set t b place) (linked limits numbers p n)
          ∙ ap₂ (λ e f. set (set links e (get_or numbers (5 * limits.edges + f) 0)) f place) c.from.ensures w.ensures
          ∙ ap (λ m. set (set links place m) c.args.behind place) (link_read limits numbers c.requires.2 c.args.behind c.requires.0);
    }
