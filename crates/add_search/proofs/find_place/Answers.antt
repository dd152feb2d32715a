-- `find_place` meets its contract: whether the edge has the id, where it goes, and the lowest free place.
use Prim.Native.Nat.{◌*◌}
use mathlib.Core.Path.{ap, ◌∙◌}
use mathlib.Core.Bool.{◌&&◌}
use borrow.Author.Tests.{lt-ltb}
use Rattle.lists.specs.Lists.{member}
use Rattle.rules.specs.HalfEdge.{edge_of}
use Rattle.rules.specs.Limits.{limits}
use Rattle.rules.specs.LineIds.{ids_of}
use Rattle.tables.specs.Regions.{state_in}
use Rattle.line_ids.specs.Free.{free_from, free_place}
use Rattle.line_ids.proofs.FreePlace.{free-first}
use Rattle.placing.proofs.Seekable.{ending_in}
use Rattle.add_search.proofs.find_place.Goals as goal

pub mark_lists-used-requires : goal.mark_lists-used-requires
mark_lists-used-requires c = (c.requires.number_room, ending_in c.args.graph.edge_count c.args.numbers.now c.args.ids.now c.requires)

pub returns : goal.returns
unfolding free_place
returns c floats stars marks =
    let a = c.args in
    let s = state_in limits a.graph floats a.numbers.now stars marks a.ids.now in
    let h = a.matches.half.0 in
    record {
      free = c.next_free-free.ensures ∙ ap (λ u. free_from u 0 limits.pairs) c.mark_lists-used.ensures ∙ free-first limits s;
      known = λ l. c.seek_line-sought.ensures.known ∙ ap (λ b. b && member a.line.line_id (ids_of limits.pairs s.tracings (edge_of h))) (lt-ltb h (2 * a.graph.edge_count) l);
      behind = λ l. c.seek_line-sought.ensures.behind (lt-ltb h (2 * a.graph.edge_count) l);
    }
