-- Document 01's number and values for each case of the reply.
use Rattle.std.specs.Prelude.{Result}
use Rattle.geometry.specs.Reply.{Reply}
use Rattle.rules.specs.Stages.{Cutting}
use Rattle.tables.specs.Refusals.{reply_by}
use Rattle.tables.specs.declared.Refusal.{Refusal}
use Rattle.cycles.specs.Census.{census_of}
use Rattle.cut_entry.specs.declared.CutEdges.{CutEdges}

-- the count and the census, or the number
abbrev pub cut_reply : Result CutEdges Refusal → Reply Cutting
cut_reply = reply_by (λ cuts. record { count = cuts.count; census = census_of cuts.census })
