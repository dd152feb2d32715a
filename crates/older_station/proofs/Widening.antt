-- Limits beside each other: tables that are long enough for the newer limits are so for the older ones, and the newer ones are the older with
-- more nodes and edges.
use Prim.Native.Nat.{ℕ}
use native.Mathlib.Omega.{arith}
use mathlib.Core.Path.{◌≡◌}
use mathlib.Core.Bool.{true}
use Rattle.rules.specs.Limits.{Limits}
use Rattle.rules.specs.State.{State, roomy}
use Rattle.rules.proofs.Soundness.{is-roomy}
use Rattle.rules.proofs.Sounding.{roomy_true}
use Rattle.older_station.specs.Wider.{Wider}

-- the older limits with other nodes and edges
abbrev pub widened : Limits → ℕ → ℕ → Limits
widened old nodes edges = record { nodes = nodes; edges = edges; pairs = old.pairs; bound = old.bound }

-- the newer ones are such
pub wider_is : (old new : Limits) → Wider old new → widened old new.nodes new.edges ≡ new
wider_is old new w = λ i. record { nodes = new.nodes; edges = new.edges; pairs = w.pairs i; bound = w.bound i }

-- long enough for more is long enough
pub roomy_less : (old new : Limits) (s : State) → Wider old new → roomy new s ≡ true → roomy old s ≡ true
roomy_less old new s w e =
    let a = w.nodes in
    let b = w.edges in
    let c = w.pairs in
    let r = is-roomy new s e in
    roomy_true old s (record {
      node_x = omega (arith, r.node_x);
      node_y = omega (arith, r.node_y);
      node_z = omega (arith, r.node_z);
      degree = omega (arith, r.degree);
      node_mark = omega (arith, r.node_mark);
      segment = omega (arith, r.segment);
      line_id = omega (arith, r.line_id);
      source = omega (arith, r.source);
      target = omega (arith, r.target);
      half_mark = omega (arith, r.half_mark);
      star = omega (arith, r.star);
      place = omega (arith, r.place);
      id = omega (arith, r.id);
      next = omega (arith, r.next);
    })
