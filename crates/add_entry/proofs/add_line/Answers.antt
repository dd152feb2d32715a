-- `add_line` meets its clause: where numbers 6, 7 and 5 pass, the searches are made and `add_found` makes the other tests and writes.
use mathlib.Core.Path.{◌≡◌, sym, ◌∙◌}
use Rattle.rules.specs.Limits.{limits}
use Rattle.rules.specs.State.{State}
use Rattle.rules.specs.Claim.{Given64}
use Rattle.tables.specs.Regions.{state_in}
use Rattle.calls.specs.Checks.{stage_check, passed}
use Rattle.calls.proofs.Shells.{stage-passed}
use Rattle.adding.specs.Outcomes.{Ready}
use Rattle.placing.proofs.Seekable.{seekable_in}
use Rattle.making.proofs.Searching.{searchable_in_lem}
use Rattle.add_entry.proofs.Shell.{add_stops}
use borrow.Author.Rules.{rules}
use Rattle.add_entry.proofs.add_line.Goals.{Start}
use Rattle.add_entry.proofs.add_line.Goals as goal

-- the tests passed
ready : (s : State) → passed ≡ stage_check limits 0 s → Ready limits s
ready s e =
    let g = stage-passed limits 0 s e in
    record { room = g.0.room; sense = g.0.sense; stage = g.1 }

-- the line that is given holds 64-bit floats
given : (c : Start) → Given64 c.args.line
given c = search rules

pub returns-in-Err : goal.returns-in-Err
returns-in-Err c =
    let a = c.args in
    record {
      outcome = add_stops limits a.line (state_in limits a.graph a.floats.now a.numbers.now a.stars.now a.marks.now a.ids.now) _ (sym c.in-Err.is ∙ c.check_stage-checked.ensures);
      floats = given (record { lifetimes = c.lifetimes; args = a; well_formed = c.well_formed; requires = c.requires });
    }

pub find_matches-matches-requires : goal.find_matches-matches-requires
find_matches-matches-requires c =
    let a = c.args in
    searchable_in_lem a.graph a.floats.now a.numbers.now a.stars.now a.marks.now a.ids.now (ready _ (sym c.in_default.is ∙ c.check_stage-checked.ensures))

pub find_place-spot-requires : goal.find_place-spot-requires
find_place-spot-requires c =
    let a = c.args in
    seekable_in a.graph a.floats.now a.numbers.now a.stars.now a.marks.now a.ids.now (ready _ (sym c.in_default.is ∙ c.check_stage-checked.ensures))

pub add_found-requires : goal.add_found-requires
add_found-requires c =
    let a = c.args in
    record {
      ready = ready _ (sym c.in_default.is ∙ c.check_stage-checked.ensures);
      found_in = c.find_matches-matches.ensures;
      placed_in = c.find_place-spot.ensures a.floats.now a.stars.now a.marks.now;
    }

pub returns : goal.returns
returns c = record {
  outcome = c.add_found.ensures;
  floats = given (record { lifetimes = c.lifetimes; args = c.args; well_formed = c.well_formed; requires = c.requires });
}
