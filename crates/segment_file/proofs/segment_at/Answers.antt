-- `segment_at` meets its contract: each part is that of its bytes.
use Rattle.segment_file.proofs.segment_at.Goals as goal

pub returns : goal.returns
returns c = λ i. record { start = c.coord_at.ensures i; end = c.coord_at-2.ensures i; line_id = c.le32.ensures i }
