-- `put_input` meets its contract: the tables hold zeros, so what was read is what its bytes come to from the empty graph.
use mathlib.Core.Path.{sym, ap, subst, ◌∙◌}
use lib.Ieee.{of_bits}
use Rattle.rules.specs.Limits.{limits}
use Rattle.adding.specs.Outcomes.{Ready}
use Rattle.taking.specs.Taking.{take_file_lem}
use Rattle.taken_text.specs.File.{empty_graph_lem}
use Rattle.byte_listing.proofs.Empty.{blank, blank_empty, empty_ready}
use Rattle.taking.proofs.Left.{file_ready}
use Rattle.ring_output.specs.Output.{TellsTaken}
use Rattle.ring_output.proofs.Outputs.{ready_stands, tells_writes, tells_ends}
use Rattle.ring_output.proofs.put_input.Goals as goal

pub read_segments-read-requires : goal.read_segments-read-requires
unfolding of_bits
read_segments-read-requires g c = let e = c.empty_graph.ensures in subst (Ready limits) (sym (ap blank e ∙ blank_empty)) empty_ready

pub put_taken-output-requires : goal.put_taken-output-requires
unfolding of_bits
put_taken-output-requires g c = (ready_stands _ (subst (λ t. Ready limits t.state) (sym (c.read_segments-read.ensures.took ∙ ap (take_file_lem limits (c.read_segments-read.ensures.bytes)) (ap blank c.empty_graph.ensures ∙ blank_empty))) (file_ready (c.read_segments-read.ensures.bytes) (empty_graph_lem limits) empty_ready)), c.requires)

pub returns : goal.returns
unfolding of_bits
returns g c =
    let t = c.put_taken-output in
    let x = take_file_lem limits (c.read_segments-read.ensures.bytes) (empty_graph_lem limits) in
    let p = subst (λ y. TellsTaken y t.result c.args.out.now t.new.out) (c.read_segments-read.ensures.took ∙ ap (take_file_lem limits (c.read_segments-read.ensures.bytes)) (ap blank c.empty_graph.ensures ∙ blank_empty)) t.ensures in
    record {
      text = tells_writes (c.read_segments-read.ensures.bytes) t.result c.args.out.now t.new.out p;
      size = tells_ends x.reply x.count x.state t.result c.args.out.now t.new.out p;
    }
