use native.Mathlib.Omega.{arith}
use mathlib.Core.Path.{◌≡◌, sym, ap, ◌∙◌}
use Rattle.rules.specs.Limits.{limits}
use Rattle.rules.specs.LineIds.{Tracings}
use Rattle.list_tests.specs.Walks.{walk_lists}
use Rattle.list_tests.proofs.Walking.{lists-none, lists-turn, walk-sound}
use Rattle.list_tests.proofs.lists_sound.Goals as goal

pub loop-k-init : goal.loop-k-init
loop-k-init c = (omega arith, sym (lists-none limits.pairs (omega arith) (let it : Tracings = let a = c.args in record { place = a.list_places.now; id = a.pair_ids.now; next = a.links.now } in it) c.args.line_ids.now))

pub loop-k-preserved : goal.loop-k-preserved
loop-k-preserved c =
    let a = c.args in (
      omega arith,
      lists-turn limits.pairs (omega arith) (let it : Tracings = let a = c.args in record { place = a.list_places.now; id = a.pair_ids.now; next = a.links.now } in it) a.line_ids.now c.loop-k.k c.loop-k.good c.list_sound-good.result c.loop-k.seen _ c.loop-k.invariant.1 c.list_sound-good.ensures,
    )

pub returns : goal.returns
returns c =
    let a = c.args in
    let e : c.loop-k.k ≡ a.edges = omega arith in
    ap (λ w. w.good) c.loop-k.invariant.1 ∙ ap (λ n. (walk_lists limits.pairs (let it : Tracings = let a = c.args in record { place = a.list_places.now; id = a.pair_ids.now; next = a.links.now } in it) a.line_ids.now n).good) e
    ∙ walk-sound limits.pairs (omega arith) (let it : Tracings = let a = c.args in record { place = a.list_places.now; id = a.pair_ids.now; next = a.links.now } in it) a.line_ids.now a.edges
