-- Pruning in any order. A graph is its number of edges and a test, edge k touches node i; a set of edges is a test of their numbers.
-- Steps make the set of unmarked edges smaller: which steps, in which order, is free.
use Rattle.std.specs.Prelude.{ℕ, ◌+◌, ◌*◌, ◌<◌, ◌≤◌, ◌≡◌, ◌↔◌, Bool, true, false, ◌&&◌, ◌||◌, not, List, [], ◌∷◌, length, eqb}
use Rattle.lists.specs.Lists.{below, In}
use Rattle.rules.specs.Cycles.{Arrangement}

module _ (edges : ℕ) where
  -- every edge of the one set is in the other
  abbrev pub Within : (ℕ → Bool) → (ℕ → Bool) → Type 0
  Within set other = (k : ℕ) → k < edges → set k ≡ true → other k ≡ true

  -- two sets have the same edges
  abbrev pub Same : (ℕ → Bool) → (ℕ → Bool) → Type 0
  Same set other = (k : ℕ) → k < edges → set k ≡ other k

module _ (edges : ℕ) (touches : ℕ → ℕ → Bool) where
  -- the edges of a set that touch node i
  abbrev pub edges_at : (ℕ → Bool) → ℕ → List ℕ
  edges_at set i = below (λ k. set k && touches k i) edges

  -- node i is a loose end of a set: one edge of the set touches it
  abbrev pub is_loose : (ℕ → Bool) → ℕ → Bool
  is_loose set i = eqb (length (edges_at set i)) 1

  -- one step: where node i is a loose end, its edge is marked and so leaves the set; elsewhere nothing happens
  unfoldable pub take_end : (ℕ → Bool) → ℕ → ℕ → Bool
  take_end set i k = set k && not (touches k i && is_loose set i)

  -- steps at the nodes of a list, in its order
  abbrev pub take_ends : (ℕ → Bool) → List ℕ → ℕ → Bool
  take_ends set [] = set
  take_ends set (i ∷ order) = take_ends (take_end set i) order

  -- no loose end is left
  abbrev pub Done : (ℕ → Bool) → Type 0
  Done set = (i : ℕ) → is_loose set i ≡ false

  -- each touched node has two or more of the set
  abbrev pub Firm : (ℕ → Bool) → Type 0
  Firm set = (i : ℕ) → 0 < length (edges_at set i) → 2 ≤ length (edges_at set i)

  -- among the sets of edges of `start` in which each touched node has two or more, the largest
  pub record Largest (start set : ℕ → Bool) : Type 0 where
    pub within : Within edges set start
    pub firm : Firm set
    pub holds : (other : ℕ → Bool) → Within edges other start → Firm other → Within edges other set

  -- the edges `left` of those unmarked at the start do not depend on the order
  pub record AnyOrder (start left : ℕ → Bool) : Type 0 where
    -- some order leaves them, and with them no loose end
    pub order : List ℕ
    pub leaves : Same edges (take_ends start order) left
    pub ended : Done left
    -- every order that leaves no loose end leaves them
    pub every : (other : List ℕ) → Done (take_ends start other) → Same edges (take_ends start other) left
    -- and whatever was done so far, some order goes on to there
    pub finish : (other : List ℕ) → (more : List ℕ) × Done (take_ends (take_ends start other) more)
    -- what they are, said without steps
    pub largest : Largest start left

-- ---- the graph of an arrangement

-- edge k starts or ends at node i
abbrev pub touching : (ℕ → ℕ) → ℕ → ℕ → Bool
touching origin k i = eqb (origin (2 * k)) i || eqb (origin (2 * k + 1)) i

-- the edges whose first half is active, as its twin then is
abbrev pub edges_of : (ℕ → Bool) → ℕ → Bool
edges_of active k = active (2 * k)

-- of the active edges of the one arrangement, those active in the other are what pruning in any order leaves
abbrev pub PrunedAnyhow : Arrangement → Arrangement → Type 0
PrunedAnyhow g after = AnyOrder g.edges (touching g.origin) (edges_of g.active) (edges_of after.active)

-- the list holds the edges marked: active before, and not after
abbrev pub ListsMarked : Arrangement → Arrangement → List ℕ → Type 0
ListsMarked g after list = (k : ℕ) → In k list ↔ ((k < g.edges) × (edges_of g.active k ≡ true) × (edges_of after.active k ≡ false))
