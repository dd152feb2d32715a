-- The one claim about line ids: after any list of calls from a new graph, each edge has the ids of the accepted additions that made or found it.
use Rattle.std.specs.Prelude.{ℕ, ◌+◌, ◌*◌, ◌<◌, ◌≤◌, ◌≡◌, Bool, true, false, ◌&&◌, ◌||◌, not, List, [], ◌∷◌, ◌++◌, length, get_or, eqb, ltb}
use Rattle.geometry.specs.Reply.{Reply, refused, success}
use Rattle.geometry.specs.declared.Line3D.{Line3D}
use Rattle.lists.specs.Lists.{keep, bit, member, In, rising}
use Rattle.rules.specs.Keys.{key_of}
use Rattle.rules.specs.Limits.{Limits}
use Rattle.rules.specs.LineIds.{ids_of, used_places}
use Rattle.rules.specs.State.{State}
use Rattle.rules.specs.Adding.{half_between, known_id, Added, add}
use Rattle.rules.specs.Sketch.{Call, adding, sorting, pruning, cutting, ringing, resetting}
use Rattle.rules.specs.Claim.{World, turn_world, history, empty_sketch}

-- ---- the accepted additions

-- an accepted addition: the edge that it made or found, and its id
pub record Pass : Type 0 where
  pub edge : ℕ
  pub id : ℕ

-- by its reply; none where it was refused
abbrev pub pass_of : ℕ → Reply Added → List Pass
pass_of i (refused n) = []
pass_of i (success a) = record { edge = a.edge; id = i } ∷ []

-- that of a call
unfoldable pub passes : Limits → Call → State → List Pass
unfolding add
passes l (adding g) s = pass_of g.line_id (add l g s).reply
passes l sorting s = []
passes l (pruning out) s = []
passes l (cutting out) s = []
passes l (ringing out) s = []
passes l resetting s = []

-- those of a list of calls on top of earlier ones, the last first
unfoldable pub passed : Limits → List Call → World → List Pass → List Pass
unfolding passes
passed l [] w log = log
passed l (c ∷ cs) w log = passed l cs (turn_world l c w) (passes l c w.state ++ log)

-- the ids of those that made or found edge k
abbrev pub ids_for : ℕ → List Pass → List ℕ
ids_for k [] = []
ids_for k (p ∷ ps) = keep (eqb p.edge k) p.id (ids_for k ps)

-- an addition needs a pair: no edge between its ends has its id
abbrev pub needs_pair : Limits → Line3D → State → Bool
needs_pair l g s =
    let h = half_between s (key_of g.start.x g.start.y) (key_of g.end.x g.end.y) in
    not (ltb h (2 * s.edges) && known_id l s g.line_id h)

-- a pair was entered: the edge is new, or it is old and lacked the id
abbrev pub entered : Bool → Reply Added → Bool
entered known (refused n) = false
entered known (success a) = a.new || not known

-- how many different pairs of an edge and an id there are: each counts where it comes first
abbrev pub different : List Pass → ℕ
different [] = 0
different (p ∷ ps) = bit (not (member p.id (ids_for p.edge ps))) + different ps

-- ---- the claim

-- what holds of edge k
pub record Traced (l : Limits) (s : State) (log : List Pass) (k : ℕ) : Type 0 where
  -- it has the ids of all accepted additions that made or found it, and no other
  pub exact : (i : ℕ) → member i (ids_of l.pairs s.tracings k) ≡ member i (ids_for k log)
  -- rising and without repeats
  pub rises : rising (ids_of l.pairs s.tracings k) ≡ true
  -- its own line id is one of them, and the lowest
  pub own : In (get_or s.line_id k 0) (ids_for k log)
  pub lowest : (i : ℕ) → In i (ids_for k log) → get_or s.line_id k 0 ≤ i

-- for every list of calls from a newly created graph, whatever the tables held; and as many pairs are in use as there are
-- different pairs of an edge and an id
unfoldable pub IdClaim : Limits → Type 0
IdClaim l =
    (s : State) → s.edges ≡ 0 → (calls : List Call)
    → let new : World = record { state = s; sketch = empty_sketch } in
    let t = (history l calls new).state in
    let log = passed l calls new [] in
    ((k : ℕ) → k < t.edges → Traced l t log k) × (length (used_places l.pairs t.tracings t.edges) ≡ different log)
