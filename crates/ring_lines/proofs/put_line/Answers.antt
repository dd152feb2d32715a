-- `put_line` meets its contract: what is read from the lists at k are ring k's entries, so its line is written.
use mathlib.Core.Path.{sym, ap, subst, ◌∙◌}
use native.Mathlib.Omega.{arith}
use lib.ListN.{get_or}
use lib.Ieee.{nan}
use mir.Syntax.{w64}
use mir.Val.{to_z, of_z}
use Rattle.file_rules.proofs.Signs.{back}
use Rattle.lists.specs.Buffer.{Put}
use Rattle.rules.specs.Listing.{no_ring}
use Rattle.ring_lists.specs.Shown.{HalfOf}
use Rattle.ring_lines.proofs.RingTexts.{line-is}
use Rattle.ring_lines.proofs.put_line.Goals as goal

pub doubled_area-doubled-requires : goal.doubled_area-doubled-requires
doubled_area-doubled-requires c =
    let a = c.args in
    let p = c.requires in
    let z = (get_or p.0 a.k no_ring).doubled in
    (z, subst (λ j. HalfOf (get_or a.ring_area.now j nan) z) (sym c.from-i.ensures) (p.1.each a.k p.2).halved)

pub put_ring-requires : goal.put_ring-requires
put_ring-requires c =
    let a = c.args in
    let p = c.requires in
    let e = p.1.each a.k p.2 in
    let s = c.from-first.ensures ∙ ap (λ j. get_or a.ring_first.now j 0) c.from-i.ensures in
    let z = c.from-size.ensures ∙ ap (λ j. get_or a.ring_length.now j 0) c.from-i.ensures in
    record {
      ring_length_in_bounds = omega (arith, e.inside, s, z);
      ring_length_in_bounds_2 = omega (arith, z, p.3);
    }

pub returns : goal.returns
returns c =
    λ rings shown h.
    let a = c.args in
    let w = c.from-i.ensures in
    let d = c.doubled_area-doubled in
    let z = (get_or rings a.k no_ring).doubled in
    let halved = subst (λ j. HalfOf (get_or a.ring_area.now j nan) z) (sym w) (shown.each a.k h).halved in
    subst (λ t. Put a.at t a.out.now c.put_ring.new.out c.put_ring.result)
    (line-is rings a.half_edges.now a.ring_first.now a.ring_length.now a.ring_face.now a.ring_area.now shown a.dir_edges_src.now a.k h
    _ _ _ _ (to_z w64 (of_z w64 d.result)) c.from.ensures (ap (λ j. get_or a.ring_face.now j 0) w)
    (c.from-first.ensures ∙ ap (λ j. get_or a.ring_first.now j 0) w) (c.from-size.ensures ∙ ap (λ j. get_or a.ring_length.now j 0) w)
    (back d.result d.type_inv ∙ d.ensures z halved))
    c.put_ring.ensures
