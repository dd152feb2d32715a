-- `add_chained` meets its contract: what was chained stays chained in the new tables, what is new joins it, and the lowest free place moves on.
use Prim.Native.Nat.{ℕ, ◌*◌, ◌<◌}
use mathlib.Core.Path.{◌≡◌, sym, ap, subst, ◌∙◌}
use mathlib.Core.Bool.{Bool, ◌&&◌}
use lib.Dec.{ltb}
use borrow.Author.Tests.{lt-ltb}
use Rattle.rules.specs.Adding.{known_id}
use Rattle.rules.specs.Limits.{limits}
use Rattle.rules.specs.State.{State}
use Rattle.tables.specs.Regions.{state_in}
use Rattle.line_ids.specs.Free.{FreeAt}
use Rattle.adding.proofs.Carrying.{ready_again}
use Rattle.making.proofs.Searching.{searchable_in_lem}
use Rattle.chaining.proofs.Growing.{nodes-chained, halves-chained, nodes_still, halves_still, indexed_again}
use Rattle.placing.proofs.Seekable.{seekable_in}
use Rattle.indexing.proofs.Places.{placed, free_had, free_again}
use Rattle.indexing.proofs.add_chained.Goals as goal

-- where an edge was found, whether it has the id is told
known : (b : Bool) (s : State) (id h : ℕ) → b ≡ (ltb h (2 * s.edges) && known_id limits s id h) → h < 2 * s.edges → b ≡ known_id limits s id h
known b s id h e l = e ∙ ap (λ b. b && known_id limits s id h) (lt-ltb h (2 * s.edges) l)

pub find_chained-found-requires : goal.find_chained-found-requires
find_chained-found-requires c =
    let a = c.args in
    let s = state_in limits a.graph a.floats.now a.numbers.now a.stars.now a.marks.now a.ids.now in
    record {
      searchable_in = searchable_in_lem a.graph a.floats.now a.numbers.now a.stars.now a.marks.now a.ids.now c.requires.ready;
      nodes_chained = nodes-chained a.line s c.requires.ready a.node_chains.now a.half_chains.now c.requires.indexed;
      halves_chained = halves-chained a.line s c.requires.ready a.node_chains.now a.half_chains.now c.requires.indexed;
    }

pub seek_line-sought-requires : goal.seek_line-sought-requires
seek_line-sought-requires c =
    let a = c.args in
    seekable_in a.graph a.floats.now a.numbers.now a.stars.now a.marks.now a.ids.now c.requires.ready

pub add_found-added-requires : goal.add_found-added-requires
add_found-added-requires c =
    let a = c.args in
    let s = state_in limits a.graph a.floats.now a.numbers.now a.stars.now a.marks.now a.ids.now in
    record {
      ready = c.requires.ready;
      found_in = c.find_chained-found.ensures;
      placed_in = placed a.line s a.used.now _ _ c.requires.free_at c.seek_line-sought.ensures.known c.seek_line-sought.ensures.behind;
    }

pub chain_more-requires : goal.chain_more-requires
chain_more-requires c =
    let a = c.args in
    let s = state_in limits a.graph a.floats.now a.numbers.now a.stars.now a.marks.now a.ids.now in
    let t = c.add_found-added.new in
    record {
      searchable_in = searchable_in_lem c.add_found-added.result.graph t.floats t.numbers t.stars t.marks t.ids (ready_again a.line s c.requires.ready _ c.add_found-added.ensures);
      nodes_chained = nodes_still a.line s c.requires.ready a.node_chains.now a.half_chains.now c.requires.indexed _ c.add_found-added.ensures;
      halves_chained = halves_still a.line s c.requires.ready a.node_chains.now a.half_chains.now c.requires.indexed _ c.add_found-added.ensures;
    }

pub free_after-next-requires : goal.free_after-next-requires
free_after-next-requires c =
    let a = c.args in
    let s = state_in limits a.graph a.floats.now a.numbers.now a.stars.now a.marks.now a.ids.now in
    free_had a.line s c.requires.ready _ _ _ c.find_chained-found.ensures c.seek_line-sought.result.known
    (known _ s a.line.line_id c.find_chained-found.result.half.0 c.seek_line-sought.ensures.known) _ c.add_found-added.ensures a.used.now a.free c.requires.free_at

pub returns : goal.returns
returns c =
    let a = c.args in
    let s = state_in limits a.graph a.floats.now a.numbers.now a.stars.now a.marks.now a.ids.now in
    let t = c.add_found-added.new in
    record {
      outcome = c.add_found-added.ensures;
      place = subst (FreeAt limits (state_in limits c.add_found-added.result.graph t.floats t.numbers t.stars t.marks t.ids) a.used.now) (sym c.free_after-next.ensures)
          (free_again a.line s c.requires.ready _ _ _ c.find_chained-found.ensures c.seek_line-sought.result.known
          (known _ s a.line.line_id c.find_chained-found.result.half.0 c.seek_line-sought.ensures.known) _ c.add_found-added.ensures a.used.now a.free c.requires.free_at);
      chains = indexed_again a.line s c.requires.ready a.node_chains.now a.half_chains.now c.requires.indexed _ c.add_found-added.ensures _ _
          c.chain_more.ensures.nodes c.chain_more.ensures.halves c.chain_more.auto.node_chains c.chain_more.auto.half_chains;
    }
