-- `put_input` meets its contract: the tables hold zeros, so what was read is what its bytes come to from the empty graph.
use mathlib.Core.Path.{sym, ap, subst, ◌∙◌}
use lib.Ieee.{of_bits}
use Rattle.rules.specs.Limits.{limits}
use Rattle.adding.specs.Outcomes.{Ready}
use Rattle.taking.specs.Taking.{take_file_lem}
use Rattle.lists.specs.Buffer.{Put}
use Rattle.taken_text.specs.File.{empty_graph_lem, text_of}
use Rattle.byte_listing.proofs.Empty.{blank, blank_empty, empty_ready}
use Rattle.taking.proofs.Left.{file_ready}
use Rattle.byte_listing.proofs.Files.{ready_due}
use Rattle.taken_text.proofs.Texts.{put_within}
use Rattle.list_segments.proofs.put_input.Goals as goal

pub read_segments-read-requires : goal.read_segments-read-requires
unfolding of_bits
read_segments-read-requires g c = let e = c.empty_graph.ensures in subst (Ready limits) (sym (ap blank e ∙ blank_empty)) empty_ready

pub put_taken-size-requires : goal.put_taken-size-requires
unfolding of_bits
put_taken-size-requires g c = ready_due _ c.args.out.now (subst (λ t. Ready limits t.state) (sym (c.read_segments-read.ensures.took ∙ ap (take_file_lem limits (c.read_segments-read.ensures.bytes)) (ap blank c.empty_graph.ensures ∙ blank_empty))) (file_ready (c.read_segments-read.ensures.bytes) (empty_graph_lem limits) empty_ready)) c.requires

pub returns : goal.returns
unfolding of_bits
returns g c =
    let t = c.put_taken-size in
    let p = subst (λ x. Put 0 x c.args.out.now t.new.out t.result) (ap (λ x. text_of x.reply x.count x.state) (c.read_segments-read.ensures.took ∙ ap (take_file_lem limits (c.read_segments-read.ensures.bytes)) (ap blank c.empty_graph.ensures ∙ blank_empty))) t.ensures in
    record {
      text = ((c.read_segments-read.ensures.bytes), p);
      size = put_within _ c.args.out.now t.new.out t.result p;
    }
