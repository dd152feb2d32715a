-- The small state and the lent tables as the state of the rules.
use Rattle.std.specs.Prelude.{ℕ, Bool, List, Float}
use Rattle.rules.specs.LineIds.{Tracings}
use Rattle.rules.specs.State.{State}
use Rattle.tables.specs.declared.PlanarGraph.{PlanarGraph}

-- the tables in the order in which every entry takes them
abbrev pub state_of : PlanarGraph → List Float → List Float → List Float → List ℕ → List Bool → List Float → List ℕ → List ℕ → List ℕ → List Bool → List ℕ → Tracings → State
state_of g nodes_x nodes_y nodes_z nodes_degree nodes_marked edges_line edges_line_id dir_edges_src dir_edges_dst dir_edges_marked nodes_outgoing tracings = record {
  nodes = g.node_count;
  edges = g.edge_count;
  stage = g.stage;
  node_x = nodes_x;
  node_y = nodes_y;
  node_z = nodes_z;
  degree = nodes_degree;
  node_mark = nodes_marked;
  segment = edges_line;
  line_id = edges_line_id;
  source = dir_edges_src;
  target = dir_edges_dst;
  half_mark = dir_edges_marked;
  star = nodes_outgoing;
  tracings = tracings;
}

-- the same counts in another stage
abbrev pub at_stage_lem : PlanarGraph → ℕ → PlanarGraph
at_stage_lem g stage = record { node_count = g.node_count; edge_count = g.edge_count; stage = stage }
