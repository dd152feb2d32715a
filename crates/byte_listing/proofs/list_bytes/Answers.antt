-- `list_bytes` meets its contract: the tables hold zeros, so what is taken is what the file comes to from the empty graph.
use native.Mathlib.Omega.{arith}
use mathlib.Core.Path.{◌≡◌, refl, sym, ap, subst, ◌∙◌}
use lib.Ieee.{of_bits}
use lib.ListN.{length}
use borrow.Author.Tests.{lt-ltb}
use Rattle.rules.specs.Limits.{limits}
use Rattle.tables.specs.declared.PlanarGraph.{PlanarGraph}
use Rattle.adding.specs.Outcomes.{Ready}
use Rattle.taking.specs.Taking.{take_file_lem}
use Rattle.lists.specs.Buffer.{Put}
use Rattle.ring_lines.specs.Rooms.{listing_room}
use Rattle.taken_text.specs.File.{empty_graph_lem, text_of, file_text}
use Rattle.byte_listing.proofs.Empty.{blank, blank_empty, empty_ready}
use Rattle.taking.proofs.Left.{file_ready}
use Rattle.byte_listing.proofs.Files.{ready_due, put_lists}
use Rattle.byte_listing.proofs.list_bytes.Goals as goal

-- the new graph is the empty one
begins : (g : PlanarGraph) → g ≡ record { node_count = 0; edge_count = 0; stage = 0 } → blank g ≡ empty_graph_lem limits
begins g e = ap blank e ∙ blank_empty

pub returns-then-short : goal.returns-then-short
returns-then-short c = rw (lt-ltb (length c.args.out.now) (listing_room limits) c.if-short.true) refl

pub take_records-taken-requires : goal.take_records-taken-requires
unfolding of_bits
take_records-taken-requires c = subst (Ready limits) (sym (begins _ c.empty_graph.ensures)) empty_ready

pub put_taken-size-requires : goal.put_taken-size-requires
unfolding of_bits
put_taken-size-requires c =
    let b = c.args.bytes.now in
    let e = c.take_records-taken.ensures ∙ ap (take_file_lem limits b) (begins _ c.empty_graph.ensures) in
    ready_due _ c.args.out.now (subst (λ t. Ready limits t.state) (sym e) (file_ready b (empty_graph_lem limits) empty_ready)) (omega (arith, c.if-short.false))

pub returns : goal.returns
unfolding of_bits
returns c =
    let t = c.put_taken-size in
    let b = c.args.bytes.now in
    let e = c.take_records-taken.ensures ∙ ap (take_file_lem limits b) (begins _ c.empty_graph.ensures) in
    put_lists (file_text limits b) c.args.out.now t.new.out t.result
    (subst (λ x. Put 0 x c.args.out.now t.new.out t.result) (ap (λ x. text_of x.reply x.count x.state) e) t.ensures)
    (omega (arith, c.if-short.false))
