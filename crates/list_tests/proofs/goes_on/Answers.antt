use Prim.Native.Nat.{◌-◌, ◌+◌}
use native.Mathlib.Omega.{arith}
use mathlib.Core.Path.{refl, sym, ap, ◌∙◌}
use lib.ListN.{get_or}
use Rattle.rules.specs.Limits.{limits}
use Rattle.list_tests.specs.Walks.{walk_from}
use Rattle.list_tests.proofs.Steps.{fuel_none, place-outside, place_again, place-last, place_falls, place_on}
use Rattle.list_tests.proofs.goes_on.Goals as goal

pub loop-steps-init : goal.loop-steps-init
loop-steps-init c =
    let a = c.args in
    (omega arith, ap (λ p. walk_from limits.pairs a.pair_ids.now a.links.now limits.pairs p a.seen.now) c.from-at.ensures)

pub returns-then-at-ge-MAX_PAIRS : goal.returns-then-at-ge-MAX_PAIRS
returns-then-at-ge-MAX_PAIRS c =
    let a = c.args in
    sym (place-outside limits.pairs a.pair_ids.now a.links.now (limits.pairs - c.loop-steps.steps) ((limits.pairs - c.loop-steps.steps) - 1) c.loop-steps.at c.loop-steps.seen (omega arith) c.if-at-ge-MAX_PAIRS.true) ∙ c.loop-steps.invariant.1

pub returns-then-seen-at : goal.returns-then-seen-at
returns-then-seen-at c =
    let a = c.args in
    sym (place_again limits.pairs a.pair_ids.now a.links.now (limits.pairs - c.loop-steps.steps) ((limits.pairs - c.loop-steps.steps) - 1) c.loop-steps.at c.loop-steps.seen (omega arith) c.if-at-ge-MAX_PAIRS.false c.if-seen-at.true) ∙ c.loop-steps.invariant.1

pub returns-then-next : goal.returns-then-next
returns-then-next c =
    let a = c.args in
    sym (place-last limits.pairs a.pair_ids.now a.links.now (limits.pairs - c.loop-steps.steps) ((limits.pairs - c.loop-steps.steps) - 1) c.loop-steps.at c.loop-steps.seen (omega arith)
    c.if-at-ge-MAX_PAIRS.false c.requires.1 c.if-seen-at.false (get_or a.links.now c.loop-steps.at 0) refl c.if-next.true) ∙ c.loop-steps.invariant.1

pub returns-then-not-rises : goal.returns-then-not-rises
returns-then-not-rises c =
    let a = c.args in
    sym (place_falls limits.pairs a.pair_ids.now a.links.now (limits.pairs - c.loop-steps.steps) ((limits.pairs - c.loop-steps.steps) - 1) c.loop-steps.at c.loop-steps.seen (omega arith)
    c.if-at-ge-MAX_PAIRS.false c.requires.1 c.if-seen-at.false c.from-q.result c.from-q.ensures (λ z. c.if-next.false (sym c.from-q.ensures ∙ z))
    (sym c.rises.ensures ∙ c.if-not-rises.true)) ∙ c.loop-steps.invariant.1

pub loop-steps-preserved : goal.loop-steps-preserved
loop-steps-preserved c =
    let a = c.args in (
      omega arith,
      sym (place_on limits.pairs a.pair_ids.now a.links.now (limits.pairs - c.loop-steps.steps) (limits.pairs - (c.loop-steps.steps + 1)) c.loop-steps.at c.loop-steps.seen (omega arith)
          c.if-at-ge-MAX_PAIRS.false c.requires.1 c.if-seen-at.false c.from-q.result c.from-q.ensures (λ z. c.if-next.false (sym c.from-q.ensures ∙ z))
          (sym c.rises.ensures ∙ c.if-not-rises.false)) ∙ c.loop-steps.invariant.1,
    )

pub returns : goal.returns
returns c =
    let a = c.args in
    sym (fuel_none limits.pairs a.pair_ids.now a.links.now (limits.pairs - c.loop-steps.steps) c.loop-steps.at c.loop-steps.seen (omega arith)) ∙ c.loop-steps.invariant.1
