-- Document 01's number for each case of the reply, and the graph that the caller then has.
use Rattle.std.specs.Prelude.{Bool, true, false, Result, Ok, Err}
use Rattle.geometry.specs.Reply.{Reply}
use Rattle.rules.specs.Adding.{Nothing}
use Rattle.tables.specs.Refusals.{reply_by}
use Rattle.tables.specs.declared.PlanarGraph.{PlanarGraph}
use Rattle.tables.specs.declared.Refusal.{Refusal}
use Rattle.tables.specs.declared.Refusal.TheVariants.{TableTooShort}

-- the empty graph, or the refusal
abbrev pub Created : Type 0
Created = Result PlanarGraph Refusal

-- success alone, or the number
abbrev pub created_reply : Created → Reply Nothing
created_reply = reply_by (λ g. record {})

-- the new graph, or the one that was there
abbrev pub created_graph : PlanarGraph → Created → PlanarGraph
created_graph old (Ok g) = g
created_graph old (Err why) = old

-- the answer, by whether every slice has room
abbrev pub created_if : Bool → Created
created_if true = Ok (record { node_count = 0; edge_count = 0; stage = 0 })
created_if false = Err TableTooShort
