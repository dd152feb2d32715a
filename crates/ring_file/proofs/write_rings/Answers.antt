-- `write_rings` meets its contract: 15, then 14, then the bytes.
use native.Mathlib.Omega.{arith}
use mathlib.Core.Path.{sym, ◌∙◌}
use borrow.Author.Tests.{leb-true}
use Rattle.file_rules.specs.RingFile.{FileRings, lent}
use Rattle.ring_file.proofs.Writing.{write_unable, write_short, write_done}
use Rattle.ring_file.proofs.write_rings.Goals as goal
use Rattle.ring_file.proofs.write_rings.Goals.{Start}

abbrev rings : Start → FileRings
rings c = let a = c.args in lent a.ring_first.now a.ring_length.now a.ring_face.now a.ring_doubled.now a.nodes.now

pub returns-then-not-all_writable : goal.returns-then-not-all_writable
returns-then-not-all_writable c =
    let w = goal.at.returns-then-not-all_writable c in
    write_unable (rings w.Start) c.args.out.now c.shortest-count.result c.shortest-count.ensures (sym c.all_writable.ensures ∙ c.if-not-all_writable.true)

pub returns-then-not-bytes_fit : goal.returns-then-not-bytes_fit
returns-then-not-bytes_fit c =
    let w = goal.at.returns-then-not-bytes_fit c in
    write_short (rings w.Start) c.args.out.now c.shortest-count.result c.shortest-count.ensures (sym c.all_writable.ensures ∙ c.if-not-all_writable.false)
    (sym c.bytes_fit.ensures ∙ c.if-not-bytes_fit.true)

pub put_rings-requires : goal.put_rings-requires
put_rings-requires c = record {
  count_bound = omega (arith, c.shortest-count.ensures);
  count_value = sym c.all_writable.ensures ∙ c.if-not-all_writable.false;
  count_in_bounds = leb-true _ _ (sym c.bytes_fit.ensures ∙ c.if-not-bytes_fit.false);
}

pub returns : goal.returns
returns c =
    let w = goal.at.returns c in
    write_done (rings w.Start) c.args.out.now c.shortest-count.result c.shortest-count.ensures (sym c.all_writable.ensures ∙ c.if-not-all_writable.false)
    (sym c.bytes_fit.ensures ∙ c.if-not-bytes_fit.false) c.put_rings.new.out c.put_rings.result c.put_rings.ensures
