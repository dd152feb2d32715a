-- `take_chained` meets its contract. After `count` turns, taking what is left from the present state on comes to what taking all does, the state is chained, and
-- the lowest free place is known.
use Prim.Native.Nat.{◌-◌, ◌≤◌}
use mathlib.Core.Path.{◌≡◌}
use lib.ListN.{length, drop}
use Rattle.rules.specs.Limits.{limits}
use Rattle.tables.specs.Regions.{state_in}
use Rattle.adding.specs.Outcomes.{Ready}
use Rattle.line_ids.specs.Free.{FreeAt}
use Rattle.lookup.specs.Indexed.{Indexed}
use Rattle.taking.specs.Taking.{behind, take_file_lem}
use Rattle.chained_intake.proofs.take_chained.Given as goal

abbrev pub invariant-loop-reply : goal.invariant-loop-reply
invariant-loop-reply l = let s₀ = state_in limits l.initial.current l.initial.floats l.initial.numbers l.initial.stars l.initial.marks l.initial.ids in
    let s = state_in limits l.current l.floats l.numbers l.stars l.marks l.ids in
    Ready limits s
    × FreeAt limits s l.used l.place
    × Indexed limits s l.node_chains l.half_chains
    × (behind l.count l.at (take_file_lem limits (drop l.at l.bytes) s) ≡ take_file_lem limits l.bytes s₀)
    × (l.count ≤ l.at)
    × (l.at ≤ length l.bytes)
    × (length l.floats ≡ length l.initial.floats)
    × (length l.numbers ≡ length l.initial.numbers)
    × (length l.stars ≡ length l.initial.stars)
    × (length l.marks ≡ length l.initial.marks)
    × (length l.ids ≡ length l.initial.ids)
    × (length l.node_chains ≡ length l.initial.node_chains)
    × (length l.half_chains ≡ length l.initial.half_chains)

abbrev pub decreases-loop-reply : goal.decreases-loop-reply
decreases-loop-reply l = length l.bytes - l.at
