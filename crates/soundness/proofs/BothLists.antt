-- Number 7 of both lists: the first that fails decides.
use Prim.Native.Nat.{◌≤◌}
use mathlib.Core.Path.{◌≡◌, sym, ap, ◌∙◌}
use mathlib.Core.Bool.{true, false, ◌&&◌, ◌||◌}
use lib.Dec.{ltb}
use Rattle.lists.proofs.Tests.{both}
use Rattle.rules.specs.Limits.{Limits}
use Rattle.rules.specs.LineIds.{sound_lists}
use Rattle.rules.specs.State.{State, sound_graph, sound, fresh}
use Rattle.table_tests.proofs.SoundTests.{counted, listed, sound-is, counts-low}

module _ (l : Limits) (s : State) where
  -- document 01's list holds: those of line ids decide
  pub lists_decide : sound_graph l s ≡ true → sound_lists l.pairs s.tracings s.line_id s.edges ≡ sound l s
  unfolding sound
  lists_decide e = sym (ap (λ b. b && sound_lists l.pairs s.tracings s.line_id s.edges) e)

  -- it fails
  pub graph_fails : sound_graph l s ≡ false → false ≡ sound l s
  unfolding sound
  graph_fails e = sym (ap (λ b. b && sound_lists l.pairs s.tracings s.line_id s.edges) e)

  -- there are no more edges than the limit
  pub edges_few : sound_graph l s ≡ true → s.edges ≤ l.edges
  edges_few e = (counts-low l s.nodes s.edges s.stage (both (counted l s) (listed l s && (ltb 1 s.stage || fresh s)) (sym (sound-is l s) ∙ e)).0).1
