-- `add_found` meets its contract: what was decided is carried out, and that is what the addition of the rules does.
use Prim.Native.Nat.{◌<◌}
use mathlib.Core.Path.{◌≡◌, sym, ap, subst, ◌∙◌}
use mathlib.Core.Bool.{true, false}
use Rattle.geometry.specs.Reply.{Reply, success}
use Rattle.rules.specs.Adding.{Added, with_node, with_edge, with_id}
use Rattle.rules.specs.Limits.{limits}
use Rattle.rules.proofs.PairsTaken.{free_in}
use Rattle.tables.specs.Regions.{state_in}
use Rattle.tables.specs.declared.ids.EdgeId.{EdgeId}
use Rattle.tables.proofs.SliceRoom.{room_of}
use Rattle.calls.specs.Replies.{left}
use Rattle.std.specs.Prelude.{Ok}
use Rattle.adding.specs.declared.Decision.TheVariants.{Enter}
use Rattle.adding.proofs.Carrying.{carried, decided, decided_found, add_carried, searchable, makeable, enterable}
use Rattle.making.proofs.Placing.{free-told, enter_room}
use Rattle.making.proofs.add_found.Goals as goal

pub decide-requires : goal.decide-requires
decide-requires c =
    let q = searchable (state_in limits c.args.graph c.args.floats.now c.args.numbers.now c.args.stars.now c.args.marks.now c.args.ids.now) c.requires.ready in
    (q.few_nodes, q.few_edges)

pub enter_id-requires : goal.enter_id-requires
enter_id-requires c =
    let a = c.args in
    enter_room a.line a.graph a.floats.now a.numbers.now a.stars.now a.marks.now a.ids.now c.requires.ready a.matches a.spot c.requires.found_in c.requires.placed_in
    c.in-Ok-Enter.edge ((let m = c.args.matches in
    let p = c.requires.placed_in in
    sym (c.decide.ensures ∙ decided_found c.args.line (state_in limits c.args.graph c.args.floats.now c.args.numbers.now c.args.stars.now c.args.marks.now c.args.ids.now) c.requires.ready m.start.0 m.end.0 m.half.0 c.args.spot.known c.args.spot.free
    c.requires.found_in p.known p.free)) ∙ (c.in-Ok-Enter.is ∙ ap Ok c.in-Ok-Enter.field-0-is))

pub make-more-requires : goal.make-more-requires
make-more-requires c =
    let a = c.args in
    let m = makeable a.line (state_in limits c.args.graph c.args.floats.now c.args.numbers.now c.args.stars.now c.args.marks.now c.args.ids.now) c.requires.ready c.in-Ok-Make.ends ((let m = c.args.matches in
    let p = c.requires.placed_in in
    sym (c.decide.ensures ∙ decided_found c.args.line (state_in limits c.args.graph c.args.floats.now c.args.numbers.now c.args.stars.now c.args.marks.now c.args.ids.now) c.requires.ready m.start.0 m.end.0 m.half.0 c.args.spot.known c.args.spot.free
    c.requires.found_in p.known p.free)) ∙ (c.in-Ok-Make.is ∙ ap Ok c.in-Ok-Make.field-0-is)) in record {
      slice_room = room_of limits a.graph a.floats.now a.numbers.now a.stars.now a.marks.now a.ids.now c.requires.ready.room;
      makeable = m.0;
      place_lt_pairs = subst (λ p. p < limits.pairs) (sym (free-told (state_in limits c.args.graph c.args.floats.now c.args.numbers.now c.args.stars.now c.args.marks.now c.args.ids.now) c.args.spot.free c.requires.placed_in.free (makeable c.args.line (state_in limits c.args.graph c.args.floats.now c.args.numbers.now c.args.stars.now c.args.marks.now c.args.ids.now) c.requires.ready c.in-Ok-Make.ends ((let m = c.args.matches in
          let p = c.requires.placed_in in
          sym (c.decide.ensures ∙ decided_found c.args.line (state_in limits c.args.graph c.args.floats.now c.args.numbers.now c.args.stars.now c.args.marks.now c.args.ids.now) c.requires.ready m.start.0 m.end.0 m.half.0 c.args.spot.known c.args.spot.free
          c.requires.found_in p.known p.free)) ∙ (c.in-Ok-Make.is ∙ ap Ok c.in-Ok-Make.field-0-is))).1)) m.1;
    }

pub returns-in-Err : goal.returns-in-Err
returns-in-Err c =
    (sym (add_carried c.args.line (state_in limits c.args.graph c.args.floats.now c.args.numbers.now c.args.stars.now c.args.marks.now c.args.ids.now) c.requires.ready ∙ ap (λ z. carried z c.args.line (state_in limits c.args.graph c.args.floats.now c.args.numbers.now c.args.stars.now c.args.marks.now c.args.ids.now)) ((let m = c.args.matches in
    let p = c.requires.placed_in in
    sym (c.decide.ensures ∙ decided_found c.args.line (state_in limits c.args.graph c.args.floats.now c.args.numbers.now c.args.stars.now c.args.marks.now c.args.ids.now) c.requires.ready m.start.0 m.end.0 m.half.0 c.args.spot.known c.args.spot.free
    c.requires.found_in p.known p.free)) ∙ c.in-Err.is)))

pub returns-in-Ok-Keep : goal.returns-in-Ok-Keep
returns-in-Ok-Keep c =
    (sym (add_carried c.args.line (state_in limits c.args.graph c.args.floats.now c.args.numbers.now c.args.stars.now c.args.marks.now c.args.ids.now) c.requires.ready ∙ ap (λ z. carried z c.args.line (state_in limits c.args.graph c.args.floats.now c.args.numbers.now c.args.stars.now c.args.marks.now c.args.ids.now)) ((let m = c.args.matches in
    let p = c.requires.placed_in in
    sym (c.decide.ensures ∙ decided_found c.args.line (state_in limits c.args.graph c.args.floats.now c.args.numbers.now c.args.stars.now c.args.marks.now c.args.ids.now) c.requires.ready m.start.0 m.end.0 m.half.0 c.args.spot.known c.args.spot.free
    c.requires.found_in p.known p.free)) ∙ (c.in-Ok-Keep.is ∙ ap Ok c.in-Ok-Keep.field-0-is))))

-- also behind an edge that was found
free-entered : (c : goal.After-slice_known-in-Ok-Enter-2-1) (j : EdgeId) → (decided c.args.line (state_in limits c.args.graph c.args.floats.now c.args.numbers.now c.args.stars.now c.args.marks.now c.args.ids.now) c.requires.ready) ≡ Ok (Enter j) → c.args.spot.free ≡ free_in limits (state_in limits c.args.graph c.args.floats.now c.args.numbers.now c.args.stars.now c.args.marks.now c.args.ids.now)
free-entered c j d = free-told (state_in limits c.args.graph c.args.floats.now c.args.numbers.now c.args.stars.now c.args.marks.now c.args.ids.now) c.args.spot.free c.requires.placed_in.free (enterable c.args.line (state_in limits c.args.graph c.args.floats.now c.args.numbers.now c.args.stars.now c.args.marks.now c.args.ids.now) c.requires.ready j d).space

pub returns-in-Ok-Enter : goal.returns-in-Ok-Enter
returns-in-Ok-Enter c =
    let a = c.args in
    let edge = c.in-Ok-Enter.edge in
    let reply : Reply Added = success (record { edge = edge.0; new = false }) in
    ap (left reply) (c.enter_id.ensures a.graph a.floats.now a.stars.now a.marks.now)
    ∙ ap (λ p. left reply (with_id false limits.pairs edge.0 a.line.line_id p (state_in limits c.args.graph c.args.floats.now c.args.numbers.now c.args.stars.now c.args.marks.now c.args.ids.now))) (free-entered c edge ((let m = c.args.matches in
    let p = c.requires.placed_in in
    sym (c.decide.ensures ∙ decided_found c.args.line (state_in limits c.args.graph c.args.floats.now c.args.numbers.now c.args.stars.now c.args.marks.now c.args.ids.now) c.requires.ready m.start.0 m.end.0 m.half.0 c.args.spot.known c.args.spot.free
    c.requires.found_in p.known p.free)) ∙ (c.in-Ok-Enter.is ∙ ap Ok c.in-Ok-Enter.field-0-is)))
    ∙ (sym (add_carried c.args.line (state_in limits c.args.graph c.args.floats.now c.args.numbers.now c.args.stars.now c.args.marks.now c.args.ids.now) c.requires.ready ∙ ap (λ z. carried z c.args.line (state_in limits c.args.graph c.args.floats.now c.args.numbers.now c.args.stars.now c.args.marks.now c.args.ids.now)) ((let m = c.args.matches in
    let p = c.requires.placed_in in
    sym (c.decide.ensures ∙ decided_found c.args.line (state_in limits c.args.graph c.args.floats.now c.args.numbers.now c.args.stars.now c.args.marks.now c.args.ids.now) c.requires.ready m.start.0 m.end.0 m.half.0 c.args.spot.known c.args.spot.free
    c.requires.found_in p.known p.free)) ∙ (c.in-Ok-Enter.is ∙ ap Ok c.in-Ok-Enter.field-0-is))))

pub returns-in-Ok-Make : goal.returns-in-Ok-Make
returns-in-Ok-Make c =
    let a = c.args in
    let e = c.in-Ok-Make.ends in
    let reply : Reply Added = success (record { edge = a.graph.edge_count; new = true }) in
    let two = with_node e.new_end e.end.0 a.line.end (with_node e.new_start e.start.0 a.line.start (state_in limits c.args.graph c.args.floats.now c.args.numbers.now c.args.stars.now c.args.marks.now c.args.ids.now)) in
    ap (left reply) c.make-more.ensures
    ∙ ap (λ p. left reply (with_edge e.start.0 e.end.0 p a.line two)) (free-told (state_in limits c.args.graph c.args.floats.now c.args.numbers.now c.args.stars.now c.args.marks.now c.args.ids.now) c.args.spot.free c.requires.placed_in.free (makeable c.args.line (state_in limits c.args.graph c.args.floats.now c.args.numbers.now c.args.stars.now c.args.marks.now c.args.ids.now) c.requires.ready e ((let m = c.args.matches in
    let p = c.requires.placed_in in
    sym (c.decide.ensures ∙ decided_found c.args.line (state_in limits c.args.graph c.args.floats.now c.args.numbers.now c.args.stars.now c.args.marks.now c.args.ids.now) c.requires.ready m.start.0 m.end.0 m.half.0 c.args.spot.known c.args.spot.free
    c.requires.found_in p.known p.free)) ∙ (c.in-Ok-Make.is ∙ ap Ok c.in-Ok-Make.field-0-is))).1)
    ∙ (sym (add_carried c.args.line (state_in limits c.args.graph c.args.floats.now c.args.numbers.now c.args.stars.now c.args.marks.now c.args.ids.now) c.requires.ready ∙ ap (λ z. carried z c.args.line (state_in limits c.args.graph c.args.floats.now c.args.numbers.now c.args.stars.now c.args.marks.now c.args.ids.now)) ((let m = c.args.matches in
    let p = c.requires.placed_in in
    sym (c.decide.ensures ∙ decided_found c.args.line (state_in limits c.args.graph c.args.floats.now c.args.numbers.now c.args.stars.now c.args.marks.now c.args.ids.now) c.requires.ready m.start.0 m.end.0 m.half.0 c.args.spot.known c.args.spot.free
    c.requires.found_in p.known p.free)) ∙ (c.in-Ok-Make.is ∙ ap Ok c.in-Ok-Make.field-0-is))))
