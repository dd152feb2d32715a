-- Creating is number 6, and then an empty graph.
use Prim.Native.Nat.{ℕ}
use mathlib.Core.Path.{◌≡◌, sym}
use mathlib.Core.Bool.{Bool, true, false}
use mathlib.Core.List.{List}
use lib.Ieee.{Float}
use Rattle.geometry.specs.Reply.{success}
use Rattle.rules.specs.Limits.{Limits}
use Rattle.rules.specs.State.{State, roomy}
use Rattle.rules.specs.Adding.{Outcome, Nothing}
use Rattle.rules.specs.Stages.{create, created}
use Rattle.tables.specs.declared.PlanarGraph.{PlanarGraph}
use Rattle.tables.specs.Regions.{state_in}
use Rattle.tables.specs.declared.Refusal.TheVariants.{TableTooShort}
use Rattle.calls.specs.Replies.{left}
use Rattle.calls.proofs.Shells.{turned_down_lem, stops, passes}
use Rattle.create_entry.specs.Replies.{created_reply, created_graph, created_if}

-- what creating comes to where there is room
abbrev makes : State → Outcome Nothing Nothing
makes s = record { reply = success (record {}); state = created s; lists = record {} }

create_stops : (l : Limits) (s : State) → roomy l s ≡ false → turned_down_lem TableTooShort s (record {}) ≡ create l s
unfolding create
create_stops l s e = stops 6 s (record {}) (makes s) (roomy l s) e

create_makes : (l : Limits) (s : State) → roomy l s ≡ true → makes s ≡ create l s
unfolding create
create_makes l s e = passes 6 s (record {}) (makes s) (roomy l s) e

-- the answer by a test of room is the rules' own, whatever graph the slices were lent with
pub create-is : (l : Limits) (g : PlanarGraph) (floats : List Float) (numbers stars : List ℕ) (marks : List Bool) (ids : List ℕ) (room : Bool)
    → room ≡ roomy l (state_in l g floats numbers stars marks ids)
    → left (created_reply (created_if room)) (state_in l (created_graph g (created_if room)) floats numbers stars marks ids)
    ≡ create l (state_in l g floats numbers stars marks ids)
create-is l g floats numbers stars marks ids true e = create_makes l (state_in l g floats numbers stars marks ids) (sym e)
create-is l g floats numbers stars marks ids false e = create_stops l (state_in l g floats numbers stars marks ids) (sym e)
