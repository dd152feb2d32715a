use Prim.Native.Nat.{◌+◌, ◌<◌, ◌≤◌}
use native.Mathlib.Omega.{arith}
use mathlib.Core.Path.{refl, ap, ◌∙◌}
use lib.ListN.{length}
use Rattle.rules.specs.Limits.{limits}
use Rattle.rules.specs.State.{State}
use Rattle.tables.specs.Regions.{state_in}
use Rattle.taking.specs.Answers.{rest_of}
use Rattle.taking.proofs.Turns.{behind-none, turn-ends, turn_goes, turn_further, turn_ready}
use Rattle.chained_intake.proofs.take_chained.Goals as goal
use Rattle.chained_intake.proofs.take_chained.Goals.{After-take_record-turn, In-Continue}

pub loop-reply-init : goal.loop-reply-init
loop-reply-init c = (c.requires.ready, c.requires.free_at, c.requires.indexed, behind-none _, omega arith, omega arith, refl, refl, refl, refl, refl, refl, refl)

-- the state at a turn's start
abbrev held : After-take_record-turn → State
held c = let q = c.loop-reply in state_in limits q.current q.floats q.numbers q.stars q.marks q.ids

pub returns-in-Break : goal.returns-in-Break
returns-in-Break c =
    let q = c.loop-reply in
    let s = held (goal.at.returns-in-Break c).After-take_record-turn in
    turn-ends limits c.args.bytes.now q.count q.at s _ c.take_record-turn.ensures.turn _ (ap rest_of c.in-Break.is) ∙ q.invariant.3

-- the next record stands further on, within the bytes
further : (c : In-Continue)
    → let next = c.loop-reply.at + c.in-Continue.size in
    (c.loop-reply.at < next) × (next ≤ length c.args.bytes.now)
further c =
    let q = c.loop-reply in
    turn_further limits c.args.bytes.now q.count q.at (state_in limits q.current q.floats q.numbers q.stars q.marks q.ids) _ c.take_record-turn.ensures.turn q.invariant.5 _ (ap rest_of c.in-Continue.is)

pub overflow_add-at : goal.overflow_add-at
overflow_add-at c = omega (arith, further (goal.at.overflow_add-at c).In-Continue)

pub loop-reply-smaller : goal.loop-reply-smaller
loop-reply-smaller c = omega (arith, further (goal.at.loop-reply-smaller c).In-Continue)

pub loop-reply-preserved : goal.loop-reply-preserved
loop-reply-preserved c =
    let q = c.loop-reply in
    let r = c.take_record-turn in
    let s = state_in limits q.current q.floats q.numbers q.stars q.marks q.ids in
    let f = further (goal.at.loop-reply-preserved c).In-Continue in (
      turn_ready c.args.bytes.now q.at s _ r.ensures.turn q.invariant.0,
      r.ensures.place,
      r.ensures.chains,
      turn_goes limits c.args.bytes.now q.count q.at s _ r.ensures.turn _ (ap rest_of c.in-Continue.is) ∙ q.invariant.3,
      omega (arith, f.0, q.invariant.4),
      f.1,
      r.auto.floats ∙ q.invariant.6,
      r.auto.numbers ∙ q.invariant.7,
      r.auto.stars ∙ q.invariant.8,
      r.auto.marks ∙ q.invariant.9,
      r.auto.ids ∙ q.invariant.10,
      r.auto.node_chains ∙ q.invariant.11,
      r.auto.half_chains ∙ q.invariant.12,
    )
