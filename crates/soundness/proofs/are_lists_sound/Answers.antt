-- `are_lists_sound` meets its contract: the regions are lent as parts.
use Prim.Native.Nat.{◌*◌}
use mathlib.Core.Path.{◌∙◌}
use Rattle.rules.specs.Limits.{limits}
use Rattle.rules.specs.LineIds.{sound_lists}
use Rattle.tables.specs.Regions.{list_places_in, line_ids_in}
use Rattle.tables.proofs.Regions.{tail-is}
use Rattle.soundness.proofs.are_lists_sound.Goals as goal

pub returns : goal.returns
returns c =
    let a = c.args in
    let numbers = a.numbers.now in
    let ids = a.ids.now in
    c.lists_sound.ensures
    ∙ (λ i. sound_lists limits.pairs
    (record { place = list_places_in limits numbers; id = tail-is limits.edges ids i; next = tail-is (5 * limits.edges) numbers i })
    (line_ids_in limits ids) (c.from.ensures i))
