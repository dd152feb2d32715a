-- The answer of an addition as document 01's number and values, and what its core asks.
use Rattle.std.specs.Prelude.{◌≡◌, true, false, Result}
use Rattle.geometry.specs.Reply.{Reply}
use Rattle.rules.specs.Adding as rules
use Rattle.rules.specs.Limits.{Limits}
use Rattle.rules.specs.State.{State, roomy, sound}
use Rattle.tables.specs.Refusals.{reply_by}
use Rattle.tables.specs.declared.Refusal.{Refusal}
use Rattle.adding.specs.declared.LineEdge.{LineEdge}
use Rattle.adding.specs.declared.LineEdge.TheVariants.{New, Old}

-- a new edge or an old one
abbrev pub edge_added : LineEdge → rules.Added
edge_added (New k) = record { edge = k.0; new = true }
edge_added (Old k) = record { edge = k.0; new = false }

-- the same, or the number of a refusal
abbrev pub reply_of : Result LineEdge Refusal → Reply rules.Added
reply_of = reply_by edge_added

-- what the core of an addition asks: numbers 6, 7 and 5 were tested
pub record Ready (l : Limits) (s : State) : Type 0 where
  pub room : roomy l s ≡ true
  pub sense : sound l s ≡ true
  pub stage : s.stage ≡ 0
