-- `find_chained` meets its contract: the searches read the regions, lent as parts.
use Rattle.chaining.proofs.find_chained.Goals as goal

pub find_half-half-requires : goal.find_half-half-requires
find_half-half-requires c = (c.requires.searchable_in.tables.few_edges, c.requires.halves_chained)

pub returns : goal.returns
returns c = record { start = c.find_node-start.ensures; end = c.find_node-end.ensures; half = c.find_half-half.ensures }
