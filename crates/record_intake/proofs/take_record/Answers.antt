-- `take_record` meets its contract: what was read decides, and a segment is added to the chained graph.
use Prim.Native.Nat.{ℕ}
use mathlib.Core.Path.{◌≡◌, ap, ◌∙◌}
use lib.ListN.{drop}
use Rattle.rules.specs.Limits.{limits}
use Rattle.rules.specs.State.{State}
use Rattle.rules.specs.Adding.{Outcome, Nothing, Added}
use Rattle.geometry.specs.declared.Line3D.{Line3D}
use Rattle.file_rules.specs.Records.{Found}
use Rattle.file_rules.specs.SegmentFile.{segment_next}
use Rattle.tables.specs.Regions.{state_in}
use Rattle.taking.specs.Taking.{Rest, Turned, after_adding_lem, take_record_lem}
use Rattle.record_intake.proofs.take_record.Goals as goal
use Rattle.record_intake.proofs.take_record.Goals.{After-read_record}

-- the state that the slices held
abbrev held : After-read_record → State
held c = let a = c.args in state_in limits a.graph a.floats.now a.numbers.now a.stars.now a.marks.now a.ids.now

-- what was read is what the definition finds
seen : (c : After-read_record) (f : Found Line3D) → f ≡ segment_next (drop c.args.at c.args.bytes.now)
    → take_record_lem limits f (held c) ≡ take_record_lem limits (segment_next (drop c.args.at c.args.bytes.now)) (held c)
seen c f e = ap (λ x. take_record_lem limits x (held c)) e

-- a segment's turn, from what its addition left
added-turn : (rest : Rest) (size : ℕ) (o p : Outcome Added Nothing) → rest ≡ after_adding_lem o.reply size → o ≡ p
    → ◌≡◌ {A = Turned} (record { rest = rest; state = o.state }) (record { rest = after_adding_lem p.reply size; state = p.state })
added-turn rest size o p e f = (λ i. record { rest = e i; state = o.state }) ∙ ap (λ q. record { rest = after_adding_lem q.reply size; state = q.state }) f

pub returns-in-Ok-Some-Segment : goal.returns-in-Ok-Some-Segment
returns-in-Ok-Some-Segment c =
    let t = c.add_chained-added.ensures in
    let m = c.in-Ok-Some-Segment in
    let some = rw m.field-0-is at m.ensures in
    let e = rw m.field-0-0-is at some in
    record {
      turn = added-turn _ _ _ _ c.after_adding.ensures t.outcome ∙ seen (goal.at.returns-in-Ok-Some-Segment c).After-read_record _ e;
      place = t.place;
      chains = t.chains;
    }

pub returns-in-Ok-Some-Passed-clause-turn : goal.returns-in-Ok-Some-Passed-clause-turn
returns-in-Ok-Some-Passed-clause-turn c =
    let m = c.in-Ok-Some-Passed in
    let some = rw m.field-0-is at m.ensures in
    let e = rw m.field-0-0-is at some in
    seen (goal.at.returns-in-Ok-Some-Passed-clause-turn c).After-read_record _ e

pub returns-in-Ok-None-clause-turn : goal.returns-in-Ok-None-clause-turn
returns-in-Ok-None-clause-turn c =
    let e = rw c.in-Ok-None.field-0-is at c.in-Ok-None.ensures in
    seen (goal.at.returns-in-Ok-None-clause-turn c).After-read_record _ e

pub returns-in-Err-clause-turn : goal.returns-in-Err-clause-turn
returns-in-Err-clause-turn c = seen (goal.at.returns-in-Err-clause-turn c).After-read_record _ c.in-Err.ensures
