-- `seek_line` meets its contract: the regions are lent as parts.
use Prim.Native.Nat.{◌*◌}
use native.Mathlib.Omega.{arith}
use mathlib.Core.Path.{sym, ap, subst, ◌∙◌}
use mathlib.Core.Bool.{◌&&◌}
use lib.ListN.{drop, length-take, length-drop}
use borrow.Author.Tests.{lt-ltb, le-ltb}
use Rattle.lists.specs.Lists.{member}
use Rattle.lists.proofs.Counts.{true_is_false}
use Rattle.rules.specs.HalfEdge.{edge_of}
use Rattle.rules.specs.Limits.{limits}
use Rattle.rules.specs.LineIds.{list_end, places_of, ids_of, last_lower}
use Rattle.rules.proofs.Twin.{edge-below}
use Rattle.tables.specs.Regions.{list_places_in, line_ids_in, tracings_in}
use Rattle.tables.proofs.Regions.{tail-is}
use Rattle.line_ids.specs.Seeking.{Seekable}
use Rattle.line_ids.proofs.Looking.{sound_seekable}
use Rattle.placing.proofs.seek_line.Goals as goal

pub seek_id-requires : goal.seek_id-requires
unfolding edge_of
seek_id-requires c =
    let numbers = c.args.numbers.now in
    let ids = c.args.ids.now in
    let t = tracings_in limits numbers ids in
    let below = edge-below c.args.edges c.args.half.0 c.if-half-edges.true in
    subst (λ x. Seekable limits.pairs x (edge_of c.args.half.0)) (sym (λ i. record {
      place = list_places_in limits c.args.numbers.now;
      id = tail-is limits.edges c.args.ids.now i;
      next = tail-is (5 * limits.edges) c.args.numbers.now i;
    }))
    (sound_seekable limits.pairs t (line_ids_in limits ids) c.args.edges (edge_of c.args.half.0)
    (omega (arith, c.requires.few, c.requires.number_room, length-take limits.edges (drop (4 * limits.edges) numbers), length-drop (4 * limits.edges) numbers))
    (omega (arith, c.requires.id_room, length-drop limits.edges ids))
    (omega (arith, c.requires.number_room, length-drop (5 * limits.edges) numbers))
    c.requires.lists below)

pub returns-then-half-edges : goal.returns-then-half-edges
unfolding edge_of
returns-then-half-edges c =
    let id = c.args.id in
    let edge = edge_of c.args.half.0 in
    let t = tracings_in limits c.args.numbers.now c.args.ids.now in record {
      known = c.seek_id.ensures.known
          ∙ ap (λ x. member id (ids_of limits.pairs x edge)) (λ i. record {
            place = list_places_in limits c.args.numbers.now;
            id = tail-is limits.edges c.args.ids.now i;
            next = tail-is (5 * limits.edges) c.args.numbers.now i;
          })
          ∙ sym (ap (λ b. b && member id (ids_of limits.pairs t edge)) (lt-ltb _ _ c.if-half-edges.true));
      behind = λ e. c.seek_id.ensures.behind ∙ ap (λ x. last_lower x.id id list_end (places_of limits.pairs x edge)) (λ i. record {
        place = list_places_in limits c.args.numbers.now;
        id = tail-is limits.edges c.args.ids.now i;
        next = tail-is (5 * limits.edges) c.args.numbers.now i;
      });
    }

pub returns : goal.returns
returns c =
    let none = le-ltb c.args.half.0 (2 * c.args.edges) c.if-half-edges.false in record {
      known = sym (ap (λ b. b && member c.args.id (ids_of limits.pairs (tracings_in limits c.args.numbers.now c.args.ids.now) (edge_of c.args.half.0))) none);
      behind = λ e. absurd (true_is_false (sym e ∙ none));
    }
