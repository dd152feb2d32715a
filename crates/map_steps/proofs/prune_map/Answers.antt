-- `prune_map` meets its contract: pruning succeeds.
use mathlib.Core.Path.{◌≡◌, refl, ap}
use Prim.Native.Nat.{ℕ}
use mathlib.Core.List.{List}
use lib.ListN.{length, replicate}
use Rattle.lists.specs.Lists.{over}
use Rattle.geometry.specs.Reply.{success}
use Rattle.rules.specs.Limits.{limits}
use Rattle.rules.specs.State.{State}
use Rattle.rules.specs.Stages.{dangles_of, pruned_state, prune_step}
use Rattle.rules.proofs.Going.{prune-is, prune_went}
use Rattle.tables.specs.Regions.{state_in}
use Rattle.calls.specs.Replies.{left_with}
use Rattle.prune_entry.specs.Replies.{prune_reply}
use Rattle.map_steps.proofs.Steps.{unrefused, answered, leaves, edge-room}
use Rattle.map_steps.proofs.prune_map.Goals as goal
use Rattle.map_steps.proofs.prune_map.Goals.{Start}

-- the state that the slices hold
abbrev held : Start → State
held c = let a = c.args in state_in limits a.graph a.floats.now a.numbers.now a.stars.now a.marks.now a.ids.now

-- pruning succeeds
done : (c : Start)
    → let out : List ℕ = replicate limits.edges 0 in
    prune_step limits (held c) out ≡ left_with (success (length (dangles_of (held c)))) (pruned_state (held c)) (over (dangles_of (held c)) out)
done c = prune-is limits (held c) c.requires.held (replicate limits.edges 0) c.requires.here (edge-room (held c) c.requires.held)

pub returns-in-Ok : goal.returns-in-Ok
returns-in-Ok c =
    let w = goal.at.returns-in-Ok c in
    let s = leaves _ _ _ _ _ c.prune_dangles-done.ensures (done w.Start) in
    let n = answered _ _ _ _ _ _ _ c.prune_dangles-done.ensures (done w.Start) refl (ap prune_reply c.in-Ok.is) in
    λ i. record { state = s i; count = n i }

-- no step refuses what is sound and in its stage
pub returns-in-Err : goal.returns-in-Err
returns-in-Err c =
    let k = held (goal.at.returns-in-Err c).Start in
    absurd (unrefused _ _ _ _ c.prune_dangles-done.ensures (prune_went limits k c.requires.held _ c.requires.here (edge-room k c.requires.held)).goes.succeeds _ (ap prune_reply c.in-Err.is))
