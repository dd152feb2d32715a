-- Pruning is its tests, stage 1 and a list as long as the graph has edges among them, and then what the rule makes of the tables.
use Prim.Native.Nat.{ℕ, ◌*◌, ◌<◌, ◌≤◌}
use native.Mathlib.Omega.{arith}
use mathlib.Core.Path.{◌≡◌}
use mathlib.Core.List.{List, reverse}
use lib.Dec.{leb}
use lib.ListN.{length, take}
use borrow.Author.Tests.{lt-leb, le-leb}
use Rattle.lists.specs.Lists.{over}
use Rattle.geometry.specs.Reply.{success}
use Rattle.rules.specs.Limits.{Limits}
use Rattle.rules.specs.State.{State, star_in, star_of}
use Rattle.rules.specs.Adding.{Outcome}
use Rattle.rules.specs.Prune.{Pruning, prune}
use Rattle.rules.specs.Counted.{Stars, Counted}
use Rattle.rules.specs.Stages.{next, pruned, prune_step}
use Rattle.rules.proofs.Soundness.{is-roomy, is-sound}
use Rattle.rules.proofs.PrunedTables.{sound-stars, sound-counted}
use Rattle.tables.specs.declared.Refusal.{Refusal}
use Rattle.tables.specs.declared.Refusal.TheVariants.{ListTooShort}
use Rattle.leaves.specs.Given.{origin_in}
use Rattle.calls.specs.Checks.{stage_check, due}
use Rattle.calls.proofs.Shells.{turned_down_lem, Good, step_stops, list_stops, list_passes}

-- the star of a node in a state's tables
abbrev star_held : State → ℕ → List ℕ
star_held s n = star_in s.source (take (2 * s.edges) s.star) n

-- a state's tables after pruning
abbrev pruned_held : State → Pruning
pruned_held s = prune (star_held s) (origin_in s.source) s.nodes s.edges s.degree s.node_mark s.half_mark

-- what pruning comes to where all tests pass
abbrev pruning : State → List ℕ → Outcome ℕ (List ℕ)
pruning s out =
    let p = pruned_held s in
    record {
      reply = success (length (reverse p.found));
      state = next s 2 p.degrees p.node_marks p.half_marks s.star;
      lists = over (reverse p.found) out;
    }

module _ (l : Limits) (s : State) (out : List ℕ) where
  pub prune_stops : (why : Refusal) → due why ≡ stage_check l 1 s → turned_down_lem why s out ≡ prune_step l s out
  unfolding prune_step
  prune_stops why e = step_stops l 1 s out _ why e

  module _ (good : Good l s) (at : s.stage ≡ 1) where
    pub prune-short : length out < s.edges → turned_down_lem ListTooShort s out ≡ prune_step l s out
    unfolding prune_step
    prune-short e = list_stops l 1 s out (leb s.edges (length out)) _ good at (lt-leb s.edges (length out) e)

    pub prune-passes : s.edges ≤ length out → pruning s out ≡ prune_step l s out
    unfolding prune_step pruned star_of
    prune-passes e = list_passes l 1 s out (leb s.edges (length out)) (pruning s out) good at (le-leb s.edges (length out) e)

-- what a sound state in stage 1 gives to pruning
module _ (l : Limits) (s : State) (good : Good l s) (at : s.stage ≡ 1) where
  pub held-starred : Stars s.nodes s.edges (star_held s) (origin_in s.source)
  unfolding star_of
  held-starred = sound-stars l s (is-sound l s good.sense)

  pub held-counted : Counted s.nodes s.edges (star_held s) s.degree s.node_mark s.half_mark
  unfolding star_of
  held-counted = sound-counted l s (is-roomy l s good.room) (is-sound l s good.sense) (omega arith)
