-- Two stations by their limits: the newer one allows more nodes and edges, and has the same pair table and the same coordinate bound.
use Rattle.std.specs.Prelude.{◌≤◌, ◌≡◌}
use Rattle.rules.specs.Limits.{Limits, limits}

-- the newer limits allow at least as many nodes and edges, and nothing else changed
pub record Wider (old new : Limits) : Type 0 where
  pub nodes : old.nodes ≤ new.nodes
  pub edges : old.edges ≤ new.edges
  pub pairs : old.pairs ≡ new.pairs
  pub bound : old.bound ≡ new.bound

-- the limits of this library before nodes and edges rose to 2,048
abbrev pub older_limits : Limits
older_limits = record { nodes = 1024; edges = 1024; pairs = limits.pairs; bound = limits.bound }
