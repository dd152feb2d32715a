-- `adding::grown` meets its contract.
use native.Mathlib.Omega.{arith}
use Prim.Native.Nat.{◌+◌, ◌≤◌}
use mathlib.Core.Bool.{Bool, true, false, cond}
use Rattle.adding.proofs.grown.Goals as goal

-- an end adds at most one node
count-le : (b : Bool) → cond b 1 0 ≤ 1
count-le true = omega arith
count-le false = omega arith

pub returns : goal.returns
returns c = (λ i. record { node_count = c.args.graph.node_count + c.new_nodes.ensures i; edge_count = c.args.graph.edge_count + 1; stage = c.args.graph.stage })
