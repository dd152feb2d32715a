use Prim.Native.Nat.{ℕ}
use native.Mathlib.Omega.{arith}
use mathlib.Core.List.{List}
use mathlib.Core.Path.{sym, subst}
use lib.ListN.{get_or}
use Rattle.rules.specs.Limits.{limits}
use Rattle.rules.specs.LineIds.{Tracings, list_end}
use Rattle.line_ids.proofs.Looking.{Looking, look_start, look_within, look_on, look_less, look_stop, look_end}
use Rattle.line_ids.proofs.seeking.seek_id.Goals as goal

-- the tables as the rules have them
abbrev tables : List ℕ → List ℕ → List ℕ → Tracings
tables place id next = record { place = place; id = id; next = next }

pub loop-at-init : goal.loop-at-init
loop-at-init c =
    subst (λ k. Looking limits.pairs (tables c.args.list_places.now c.args.pair_ids.now c.args.links.now) c.args.id k list_end (get_or (tables c.args.list_places.now c.args.pair_ids.now c.args.links.now).place k 0)) (sym c.from-k.ensures)
    (look_start limits.pairs (tables c.args.list_places.now c.args.pair_ids.now c.args.links.now) c.args.id c.args.edge.0 (omega arith) c.requires)

pub returns-then-id-here : goal.returns-then-id-here
returns-then-id-here c =
    let s = look_stop limits.pairs (tables c.args.list_places.now c.args.pair_ids.now c.args.links.now) c.args.id c.from-k.result c.loop-at.behind c.loop-at.at c.loop-at.invariant c.loop-at-test.true
    c.from-p.result c.from-p.ensures c.if-id-here.true in
    record { known = cc; behind = cc }

pub loop-at-smaller : goal.loop-at-smaller
loop-at-smaller c =
    look_less limits.pairs (tables c.args.list_places.now c.args.pair_ids.now c.args.links.now) c.args.id c.from-k.result c.loop-at.behind c.loop-at.at c.loop-at.invariant c.loop-at-test.true
    c.from-p.result c.from-p.ensures c.requires.next_room

pub loop-at-preserved : goal.loop-at-preserved
loop-at-preserved c =
    look_on limits.pairs (tables c.args.list_places.now c.args.pair_ids.now c.args.links.now) c.args.id c.from-k.result c.loop-at.behind c.loop-at.at c.loop-at.invariant c.loop-at-test.true
    c.from-p.result c.from-p.ensures c.requires.next_room c.if-id-here.false

pub returns : goal.returns
returns c =
    let s = look_end limits.pairs (tables c.args.list_places.now c.args.pair_ids.now c.args.links.now) c.args.id c.from-k.result c.loop-at.behind c.loop-at.at c.loop-at.invariant c.loop-at-test.false in
    record { known = cc; behind = cc }

pub offset_bounds-pair_ids-p : goal.offset_bounds-pair_ids-p
offset_bounds-pair_ids-p c = omega (arith, c.from-p.ensures, look_within limits.pairs (tables c.args.list_places.now c.args.pair_ids.now c.args.links.now) c.args.id c.from-k.result c.loop-at.behind c.loop-at.at c.loop-at.invariant c.loop-at-test.true)

pub bounds-pair_ids-p : goal.bounds-pair_ids-p
bounds-pair_ids-p c = omega (arith, c.from-p.ensures, look_within limits.pairs (tables c.args.list_places.now c.args.pair_ids.now c.args.links.now) c.args.id c.from-k.result c.loop-at.behind c.loop-at.at c.loop-at.invariant c.loop-at-test.true, c.requires.id_room)

pub offset_bounds-links-p : goal.offset_bounds-links-p
offset_bounds-links-p c = omega (arith, c.from-p.ensures, look_within limits.pairs (tables c.args.list_places.now c.args.pair_ids.now c.args.links.now) c.args.id c.from-k.result c.loop-at.behind c.loop-at.at c.loop-at.invariant c.loop-at-test.true)

pub bounds-links-p : goal.bounds-links-p
bounds-links-p c = omega (arith, c.from-p.ensures, look_within limits.pairs (tables c.args.list_places.now c.args.pair_ids.now c.args.links.now) c.args.id c.from-k.result c.loop-at.behind c.loop-at.at c.loop-at.invariant c.loop-at-test.true, c.requires.next_room)
