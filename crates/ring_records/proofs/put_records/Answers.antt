-- `put_records` meets its contract: the lists are written anew for the writer, and their rings are the file's.
use Prim.Native.Nat.{ℕ}
use native.Mathlib.Omega.{arith}
use mathlib.Core.Path.{◌≡◌, ap, subst, ◌∙◌}
use mathlib.Core.List.{List}
use lib.ListN.{length, get_or, length-map}
use Rattle.lists.specs.Lists.{upto, all}
use Rattle.lists.specs.Buffer.{Put}
use Rattle.rules.specs.Face.{Ring}
use Rattle.file_rules.specs.Lines.{starting_nodes}
use Rattle.file_rules.specs.RingFile.{lent}
use Rattle.ring_writing.specs.Rings.{bytes_at, writable_at, sizes_at}
use Rattle.ring_records.proofs.Records.{doubled_of_lem, areas-halves, all-able, sizes_fit, file-is}
use Rattle.ring_records.proofs.put_records.Goals as goal

-- there are as many nodes as half-edges
nodes-many : (source halves nodes : List ℕ) → nodes ≡ starting_nodes source halves → length nodes ≡ length halves
nodes-many source halves nodes e = ap length e ∙ length-map halves (λ (h : ℕ). get_or source h 0)

pub double_areas-requires : goal.double_areas-requires
double_areas-requires c =
    let a = c.args in
    let p = c.requires.1 in
    let n = c.from-rings.ensures in
    let long = length-map p.0 (λ (r : Ring). r.doubled) in
    (omega (arith, n, p.2, p.1.shown.few), (doubled_of_lem p.0, areas-halves p.0 a.half_edges.now a.ring_first.now a.ring_length.now a.ring_face.now a.ring_area.now p.1, omega (arith, n, p.2, long)))

pub put_rings-requires : goal.put_rings-requires
put_rings-requires c =
    let a = c.args in
    let p = c.requires.1 in
    let n : c.from-rings.result ≡ length p.0 = c.from-rings.ensures ∙ p.2 in
    let fit = sizes_fit p.0 a.half_edges.now a.ring_first.now a.ring_length.now a.ring_face.now a.ring_area.now p.1 c.from-rings.result n in
    let able =
    all-able p.0 a.half_edges.now a.ring_first.now a.ring_length.now a.ring_face.now a.ring_area.now p.1 (length c.list_nodes.new.nodes) c.from-rings.result
    (nodes-many a.dir_edges_src.now a.half_edges.now c.list_nodes.new.nodes c.list_nodes.ensures) n
    in
    record {
      count_bound = omega (
        arith,
        n,
        ap (λ (l : List ℕ). length l) c.widen.ensures,
        ap (λ (l : List ℕ). length l) c.widen-2.ensures,
        c.double_areas.auto.to,
        p.1.shown.few,
        p.1.shown.in_face,
        p.1.wide_first,
        p.1.wide_size,
      );
      count_value = (λ i. all (writable_at (c.widen.ensures i) (c.widen-2.ensures i) (length c.list_nodes.new.nodes)) (upto c.from-rings.result)) ∙ able;
      count_in_bounds = omega (arith, ap (λ (l : List ℕ). sizes_at l (upto c.from-rings.result)) c.widen-2.ensures, fit, c.requires.0);
    }

pub returns : goal.returns
returns c = λ rings listed e.
    let a = c.args in
    let t = c.put_rings in
    let n : c.from-rings.result ≡ length rings = c.from-rings.ensures ∙ e in
    let halves = areas-halves rings a.half_edges.now a.ring_first.now a.ring_length.now a.ring_face.now a.ring_area.now listed in
    let long : c.from-rings.result ≡ length (doubled_of_lem rings) = omega (arith, n, length-map rings (λ (r : Ring). r.doubled)) in
    subst (λ x. Put 0 x a.out.now t.new.out t.result)
    ((λ i. bytes_at (lent (c.widen.ensures i) (c.widen-2.ensures i) a.ring_face.now (c.double_areas.ensures (doubled_of_lem rings) halves long i) (c.list_nodes.ensures i)) (upto c.from-rings.result))
    ∙ file-is rings a.half_edges.now a.ring_first.now a.ring_length.now a.ring_face.now a.ring_area.now listed a.dir_edges_src.now _ c.from-rings.result n)
    t.ensures
