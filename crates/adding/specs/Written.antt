-- What is written for a new node and a new edge, and the room that writing asks.
use Rattle.std.specs.Prelude.{ℕ, ◌+◌, ◌<◌, ◌≤◌, ◌≡◌, Bool, true, false, cond, List, get_or, set}
use Rattle.rules.specs.Limits.{limits}
use Rattle.tables.specs.declared.PlanarGraph.{PlanarGraph}
use Rattle.adding.specs.declared.Ends.{Ends}

-- a at entry n where the node is new
abbrev pub entered : {A : Type 0} → Bool → List A → ℕ → A → List A
entered new table n a = cond new (set table n a) table

-- a at the start's entry and b at the end's, where these are new
abbrev pub ends_entered : {A : Type 0} → Ends → List A → A → A → List A
ends_entered e table a b = entered e.new_end (entered e.new_start table e.start.0 a) e.end.0 b

-- the counts with the new nodes and one more edge
abbrev pub grown_by : PlanarGraph → Ends → PlanarGraph
grown_by g e = record {
  node_count = g.node_count + (cond e.new_start 1 0 + cond e.new_end 1 0);
  edge_count = g.edge_count + 1;
  stage = g.stage;
}

-- one more at entry n
abbrev pub raised : List ℕ → ℕ → List ℕ
raised degree n = set degree n (get_or degree n 0 + 1)

-- a at entry f and b behind it
abbrev pub two_at : {A : Type 0} → List A → ℕ → A → A → List A
two_at table f a b = set (set table f a) (f + 1) b

-- the ends are nodes or the next ones, there is space for them and for an edge, and the degrees of old ends are low
pub record Makeable (nodes edges : ℕ) (e : Ends) (degrees : List ℕ) : Type 0 where
  pub space : nodes + (cond e.new_start 1 0 + cond e.new_end 1 0) ≤ limits.nodes
  pub few : edges < limits.edges
  pub new_start_lem : e.new_start ≡ true → e.start.0 ≡ nodes
  pub new_end_lem : e.new_end ≡ true → e.end.0 ≡ nodes + cond e.new_start 1 0
  pub old_start : e.new_start ≡ false → e.start.0 < nodes
  pub old_end : e.new_end ≡ false → e.end.0 < nodes
  pub low : (n : ℕ) → n < nodes → get_or degrees n 0 < 65534
