-- `enter_id` meets its contract: the pair goes first or behind another, and the stores make the state with it.
use Prim.Native.Nat.{◌+◌, ◌*◌}
use mathlib.Core.Path.{◌≡◌, ap, ◌∙◌}
use lib.ListN.{get_or, set}
use Rattle.rules.specs.Limits.{limits}
use Rattle.rules.specs.LineIds.{list_end}
use Rattle.tables.specs.Regions.{list_places_in, links_in}
use Rattle.pair_entries.proofs.Stores.{place_read}
use Rattle.writing.proofs.Entering.{first-entered, behind-entered}
use Rattle.writing.proofs.ids.enter_id.Goals as goal

pub put_behind-requires : goal.put_behind-requires
put_behind-requires c =
    let r = c.requires in
    (r.within c.if-behind-eq-LIST_END.false, r.space, r.number_room)

pub returns-then-behind-eq-LIST_END : goal.returns-then-behind-eq-LIST_END
returns-then-behind-eq-LIST_END c graph floats stars marks =
    let a = c.args in
    let put = c.put_first.ensures in
    -- the pair leads to where the list started
    let leads : links_in limits c.put_first.new.numbers ≡ set (links_in limits a.numbers.now) a.place (get_or (list_places_in limits a.numbers.now) a.edge.0 list_end) =
    put.link
    ∙ ap (λ e. set (links_in limits a.numbers.now) a.place (get_or a.numbers.now (4 * limits.edges + e) 0)) c.from.ensures
    ∙ ap (set (links_in limits a.numbers.now) a.place) (place_read limits a.numbers.now c.requires.number_room a.edge.0 c.requires.few) in
    first-entered limits a.edge.0 a.id a.behind a.place a.numbers.now a.ids.now c.requires
    c.put_first.new.numbers c.put_lowest.new.ids put.source put.target c.put_lowest.ensures.pair
    graph floats stars marks c.if-behind-eq-LIST_END.true put.list leads c.put_lowest.ensures.line

pub returns-else-behind-eq-LIST_END : goal.returns-else-behind-eq-LIST_END
returns-else-behind-eq-LIST_END c graph floats stars marks =
    let a = c.args in
    let put = c.put_behind.ensures in
    behind-entered limits a.edge.0 a.id a.behind a.place a.numbers.now a.ids.now c.requires
    c.put_behind.new.numbers c.put_pair.new.ids put.source put.target c.put_pair.ensures.pair
    graph floats stars marks c.if-behind-eq-LIST_END.false put.list put.link c.put_pair.ensures.line
