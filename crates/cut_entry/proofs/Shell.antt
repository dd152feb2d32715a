-- Cutting is its tests, stage 2 and a list as long as the graph has edges among them, and then what the rules count, mark and list.
use Prim.Native.Nat.{ℕ, ◌<◌, ◌≤◌}
use mathlib.Core.Path.{◌≡◌}
use mathlib.Core.List.{List}
use lib.Dec.{leb}
use lib.ListN.{length}
use borrow.Author.Tests.{lt-leb, le-leb}
use Rattle.lists.specs.Lists.{over}
use Rattle.geometry.specs.Reply.{success}
use Rattle.rules.specs.Cycles.{Arrangement}
use Rattle.rules.specs.Split.{cuts}
use Rattle.rules.specs.Euler.{census}
use Rattle.rules.specs.Limits.{Limits}
use Rattle.rules.specs.State.{State, arrangement_in, arrangement}
use Rattle.rules.specs.Adding.{Outcome}
use Rattle.rules.specs.Stages.{next, Cutting, mark_edges, cut_step}
use Rattle.tables.specs.declared.Refusal.{Refusal}
use Rattle.tables.specs.declared.Refusal.TheVariants.{ListTooShort}
use Rattle.calls.specs.Checks.{stage_check, due}
use Rattle.calls.proofs.Shells.{turned_down_lem, Good, step_stops, list_stops, list_passes}

-- the arrangement that a state's tables hold
abbrev held : State → Arrangement
held s = arrangement_in s.nodes s.edges s.source s.half_mark s.star

-- what cutting comes to where all tests pass
abbrev cutting : State → List ℕ → Outcome Cutting (List ℕ)
cutting s out = record {
  reply = success (record { count = length (cuts (held s)); census = census (held s) });
  state = next s 3 s.degree s.node_mark (mark_edges (cuts (held s)) s.half_mark) s.star;
  lists = over (cuts (held s)) out;
}

module _ (l : Limits) (s : State) (out : List ℕ) where
  pub cut_stops : (why : Refusal) → due why ≡ stage_check l 2 s → turned_down_lem why s out ≡ cut_step l s out
  unfolding cut_step
  cut_stops why e = step_stops l 2 s out _ why e

  module _ (good : Good l s) (at : s.stage ≡ 2) where
    pub cut_short : length out < s.edges → turned_down_lem ListTooShort s out ≡ cut_step l s out
    unfolding cut_step
    cut_short e = list_stops l 2 s out (leb s.edges (length out)) _ good at (lt-leb s.edges (length out) e)

    pub cut-passes : s.edges ≤ length out → cutting s out ≡ cut_step l s out
    unfolding cut_step arrangement
    cut-passes e = list_passes l 2 s out (leb s.edges (length out)) (cutting s out) good at (le-leb s.edges (length out) e)
