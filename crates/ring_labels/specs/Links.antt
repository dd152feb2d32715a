-- What linking the stars writes, and what the table of successors holds.
use Rattle.std.specs.Prelude.{ℕ, ◌≡◌, Bool, cond, List, [], ◌∷◌, get_or, set}
use Rattle.lists.specs.Lists.{pick, last_of}
use Rattle.rules.specs.HalfEdge.{twin}
use Rattle.rules.specs.Cycles.{halves, successor}
use Rattle.rules.specs.Sane.{Live}
use Rattle.stars.specs.Groups.{InEach}

-- the twin of each half-edge gets the last active one before it, or else `before`
abbrev pub link_from : (ℕ → Bool) → ℕ → List ℕ → List ℕ → List ℕ
link_from active before [] next = next
link_from active before (h ∷ hs) next = link_from active (cond (active h) h before) hs (set next (twin h) before)

-- the half-edges of a star in turn, the last active one before the first
abbrev pub link_star_lem : (ℕ → Bool) → List ℕ → List ℕ → List ℕ
link_star_lem active star next = link_from active (last_of 0 (pick active star)) star next

-- next holds the successor of every active half-edge
abbrev pub Linked : ℕ → ℕ → List Bool → List ℕ → List ℕ → List ℕ → Type 0
Linked nodes edges marks offsets grouped next =
    (source : List ℕ) → InEach nodes edges source marks offsets grouped (λ g. (h : ℕ) → Live (halves g) g.active h → get_or next h 0 ≡ successor g h)
