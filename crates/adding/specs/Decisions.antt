-- What an addition to a sound graph comes to, before anything is written.
use Rattle.std.specs.Prelude.{ℕ, suc, ◌+◌, ◌*◌, Bool, cond, ◌&&◌, List, eqb, ltb, leb, Float, Result, Ok, Err}
use Rattle.geometry.specs.Angle.{planar}
use Rattle.geometry.specs.declared.Line3D.{Line3D}
use Rattle.rotation.specs.Rotation.{key_same}
use Rattle.rules.specs.Keys.{key_of}
use Rattle.rules.specs.HalfEdge.{edge_of}
use Rattle.rules.specs.Limits.{Limits}
use Rattle.tables.specs.declared.ids.EdgeId.{EdgeId}
use Rattle.tables.specs.declared.Refusal.{Refusal}
use Rattle.tables.specs.declared.Refusal.TheVariants.{NotWhole, SameNode, TooManyNodes, TooManyEdges, TooManyPairs}
use Rattle.searching.specs.Searches.{find_node_in, find_half_in}
use Rattle.adding.specs.declared.Ends.{Ends}
use Rattle.adding.specs.declared.Decision.{Decision}
use Rattle.adding.specs.declared.Decision.TheVariants.{Make, Enter, Keep}

-- the nodes of a line's ends, from the nodes u and w found for them: these, or the next ones, the start's first
abbrev pub ends_by : ℕ → ℕ → ℕ → Ends
ends_by nodes u w = record {
  start = record { 0 = u };
  end = record { 0 = cond (eqb u nodes && eqb w nodes) (suc nodes) w };
  new_start = eqb u nodes;
  new_end = eqb w nodes;
}

-- a decision, or the refusal that is due
abbrev pub Decided : Type 0
Decided = Result Decision Refusal

-- number 12, where a decision needs a pair: p is the lowest free place
abbrev pub pair_decision : Limits → ℕ → Decision → Decided
pair_decision l p d = cond (ltb p l.pairs) (Ok d) (Err TooManyPairs)

-- an edge that joins the ends: it has the id, or the id needs a pair
abbrev pub id_decision : Limits → EdgeId → Bool → ℕ → Decided
id_decision l k known p = cond known (Ok (Keep k)) (pair_decision l p (Enter k))

-- numbers 3, 4 and 12
abbrev pub room_decision : Limits → ℕ → ℕ → ℕ → Ends → Decided
room_decision l nodes edges p e =
    cond (leb (nodes + (cond e.new_start 1 0 + cond e.new_end 1 0)) l.nodes)
    (cond (ltb edges l.edges) (pair_decision l p (Make e)) (Err TooManyEdges))
    (Err TooManyNodes)

-- numbers 1 and 2, an edge that joins the ends, numbers 3 and 4, and 12 last, from what the searches found: the nodes u and w, the
-- half-edge h, whether its edge has the id, and the lowest free place p
unfoldable pub decision_by : Limits → Line3D → ℕ → ℕ → ℕ → ℕ → ℕ → Bool → ℕ → Decided
decision_by l g nodes edges u w h known p =
    cond (planar l.bound g.start && planar l.bound g.end)
    (cond (key_same (key_of g.start.x g.start.y) (key_of g.end.x g.end.y))
    (Err SameNode)
    (cond (ltb h (2 * edges))
    (id_decision l (record { 0 = edge_of h }) known p)
    (room_decision l nodes edges p (ends_by nodes u w))))
    (Err NotWhole)

-- the same, with the searches, and a test of which half-edges' edges have the id
abbrev pub decision_in : Limits → Line3D → ℕ → ℕ → List Float → List Float → List ℕ → List ℕ → List ℕ → (ℕ → Bool) → ℕ → Decided
decision_in l g nodes edges xs ys source target star known p =
    let u = find_node_in nodes xs ys (key_of g.start.x g.start.y) in
    let w = find_node_in nodes xs ys (key_of g.end.x g.end.y) in
    let h = find_half_in edges source target star u w in
    decision_by l g nodes edges u w h (known h) p
