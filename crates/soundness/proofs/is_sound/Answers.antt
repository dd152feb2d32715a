-- `is_sound` meets its contract: the first list that fails decides.
use mathlib.Core.Path.{sym, ◌∙◌}
use Rattle.rules.specs.Limits.{limits}
use Rattle.tables.specs.Regions.{state_in}
use Rattle.soundness.proofs.BothLists.{lists_decide, graph_fails, edges_few}
use Rattle.soundness.proofs.is_sound.Goals as goal

pub are_lists_sound-requires : goal.are_lists_sound-requires
are_lists_sound-requires c = (edges_few limits (state_in limits c.args.graph c.args.floats.now c.args.numbers.now c.args.stars.now c.args.marks.now c.args.ids.now) (sym (c.is_sound_graph.ensures c.args.ids.now) ∙ c.if-is_sound_graph.true), c.requires.number_room, c.requires.id_room)

pub returns-then-is_sound_graph : goal.returns-then-is_sound_graph
returns-then-is_sound_graph c = c.are_lists_sound.ensures ∙ lists_decide limits (state_in limits c.args.graph c.args.floats.now c.args.numbers.now c.args.stars.now c.args.marks.now c.args.ids.now) (sym (c.is_sound_graph.ensures c.args.ids.now) ∙ c.if-is_sound_graph.true)

pub returns : goal.returns
returns c = graph_fails limits (state_in limits c.args.graph c.args.floats.now c.args.numbers.now c.args.stars.now c.args.marks.now c.args.ids.now) (sym (c.is_sound_graph.ensures c.args.ids.now) ∙ c.if-is_sound_graph.false)
