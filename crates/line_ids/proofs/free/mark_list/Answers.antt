use native.Mathlib.Omega.{arith}
use Rattle.rules.specs.Limits.{limits}
use Rattle.line_ids.specs.Free.{list_places_lem, marked}
use Rattle.line_ids.proofs.Marked.{passing_start, passing_within, passing_on, passing_less, passing_end}
use Rattle.line_ids.proofs.free.mark_list.Goals as goal

pub loop-at-init : goal.loop-at-init
loop-at-init c = passing_start limits.pairs c.args.list_places.now c.args.links.now c.args.k c.args.used.now (omega arith) c.requires

pub loop-at-smaller : goal.loop-at-smaller
loop-at-smaller c =
    passing_less limits.pairs c.args.links.now (let a = c.args in marked (list_places_lem limits.pairs a.list_places.now a.links.now a.k) a.used.now) c.loop-at.at c.loop-at.used c.loop-at.invariant c.loop-at-test.true
    c.requires.next_room c.from-p.result c.from-p.ensures

pub loop-at-preserved : goal.loop-at-preserved
loop-at-preserved c =
    passing_on limits.pairs c.args.links.now (let a = c.args in marked (list_places_lem limits.pairs a.list_places.now a.links.now a.k) a.used.now) c.loop-at.at c.loop-at.used c.loop-at.invariant c.loop-at-test.true
    c.requires.next_room c.from-p.result c.from-p.ensures

pub returns : goal.returns
returns c = passing_end limits.pairs c.args.links.now (let a = c.args in marked (list_places_lem limits.pairs a.list_places.now a.links.now a.k) a.used.now) c.loop-at.at c.loop-at.used c.loop-at.invariant c.loop-at-test.false

pub bounds-used-p : goal.bounds-used-p
bounds-used-p c = omega (arith, c.from-p.ensures, passing_within limits.pairs c.args.links.now (let a = c.args in marked (list_places_lem limits.pairs a.list_places.now a.links.now a.k) a.used.now) c.loop-at.at c.loop-at.used c.loop-at.invariant c.loop-at-test.true)

pub offset_bounds-links-p : goal.offset_bounds-links-p
offset_bounds-links-p c = omega (arith, c.from-p.ensures, passing_within limits.pairs c.args.links.now (let a = c.args in marked (list_places_lem limits.pairs a.list_places.now a.links.now a.k) a.used.now) c.loop-at.at c.loop-at.used c.loop-at.invariant c.loop-at-test.true)

pub bounds-links-p : goal.bounds-links-p
bounds-links-p c = omega (arith, c.from-p.ensures, passing_within limits.pairs c.args.links.now (let a = c.args in marked (list_places_lem limits.pairs a.list_places.now a.links.now a.k) a.used.now) c.loop-at.at c.loop-at.used c.loop-at.invariant c.loop-at-test.true, c.requires.next_room)
