-- `list_sound` meets its contract.
use mathlib.Core.Path.{sym, ap, ◌∙◌}
use Rattle.rules.specs.Limits.{limits}
use Rattle.rules.specs.LineIds.{Tracings}
use Rattle.list_tests.specs.Walks.{walk_from}
use Rattle.list_tests.proofs.Steps.{list_outside, list_other, list_on}
use Rattle.list_tests.proofs.list_sound.Goals as goal

pub returns-then-p-ge-MAX_PAIRS : goal.returns-then-p-ge-MAX_PAIRS
returns-then-p-ge-MAX_PAIRS c =
    let a = c.args in
    sym (list_outside limits.pairs (let it : Tracings = let a = c.args in record { place = a.list_places.now; id = a.pair_ids.now; next = a.links.now } in it) a.line_ids.now a.k a.seen.now c.from-p.result c.from-p.ensures c.requires.0 c.if-p-ge-MAX_PAIRS.true)

pub returns-then-pair_ids-p : goal.returns-then-pair_ids-p
returns-then-pair_ids-p c =
    let a = c.args in
    sym (list_other limits.pairs (let it : Tracings = let a = c.args in record { place = a.list_places.now; id = a.pair_ids.now; next = a.links.now } in it) a.line_ids.now a.k a.seen.now c.from-p.result c.from-p.ensures c.requires.0
    c.if-p-ge-MAX_PAIRS.false c.if-pair_ids-p.true)

pub returns : goal.returns
returns c =
    let a = c.args in
    c.goes_on.ensures
    ∙ ap (λ p. walk_from limits.pairs a.pair_ids.now a.links.now limits.pairs p a.seen.now) (sym c.from-p.ensures)
    ∙ sym (list_on limits.pairs (let it : Tracings = let a = c.args in record { place = a.list_places.now; id = a.pair_ids.now; next = a.links.now } in it) a.line_ids.now a.k a.seen.now c.from-p.result c.from-p.ensures c.requires.0
    c.if-p-ge-MAX_PAIRS.false c.if-pair_ids-p.false)
