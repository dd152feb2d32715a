-- What the listing of a segment file is: the line of its first refusal, or the listing of the graph that its records make.
use Rattle.std.specs.Prelude.{ℕ, ◌*◌, false, List, replicate, pos, Float}
use Rattle.std.specs.Float.{fin}
use Rattle.geometry.specs.Reply.{Reply, refused, success}
use Rattle.rules.specs.Limits.{Limits}
use Rattle.rules.specs.State.{State}
use Rattle.rules.specs.Adding.{Nothing}
use Rattle.file_rules.specs.Lines.{refusal_line}
use Rattle.rules.specs.Listing.{listing}
use Rattle.taking.specs.Taking.{take_file_lem}

-- +0.0
abbrev pub zero : Float
zero = fin false 0 (pos 0)

-- the graph that a file's records are added to: no node and no edge, and nothing in its tables
abbrev pub empty_graph_lem : Limits → State
empty_graph_lem l = record {
  nodes = 0;
  edges = 0;
  stage = 0;
  node_x = replicate l.nodes zero;
  node_y = replicate l.nodes zero;
  node_z = replicate l.nodes zero;
  degree = replicate l.nodes 0;
  node_mark = replicate l.nodes false;
  segment = replicate (6 * l.edges) zero;
  line_id = replicate l.edges 0;
  source = replicate (2 * l.edges) 0;
  target = replicate (2 * l.edges) 0;
  half_mark = replicate (2 * l.edges) false;
  star = replicate (2 * l.edges) 0;
  tracings = record { place = replicate l.edges 0; id = replicate l.pairs 0; next = replicate l.pairs 0 };
}

-- what is printed when k records were taken: the line of the refusal that record k met, or the listing
abbrev pub text_of : Reply Nothing → ℕ → State → List ℕ
text_of (refused n) k s = refusal_line n k
text_of (success none) k s = listing s

-- what is printed for a file
abbrev pub file_text : Limits → List ℕ → List ℕ
file_text l bytes =
    let t = take_file_lem l bytes (empty_graph_lem l) in
    let s = t.state in
    text_of t.reply t.count s
