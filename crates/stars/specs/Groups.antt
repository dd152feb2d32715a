-- Stars as parts of one list, grouped by node, and which half-edges are active.
use Rattle.std.specs.Prelude.{ℕ, suc, ◌-◌, ◌*◌, ◌<◌, ◌≤◌, Bool, true, not, List, length, get_or, take, drop}
use Rattle.lists.specs.Lists.{In}
use Rattle.rules.specs.Cycles.{Arrangement}
use Rattle.rules.specs.Sane.{Sane}
use Rattle.rules.specs.State.{arrangement_in}
use Rattle.stars.specs.Grouped.{Grouped}

-- active: not marked
abbrev pub unmarked : List Bool → ℕ → Bool
unmarked marks h = not (get_or marks h true)

-- what stands from one place up to another
abbrev pub part : ℕ → ℕ → List ℕ → List ℕ
part from to l = take (to - from) (drop from l)

-- node n's part of the groups
abbrev pub group_of : List ℕ → List ℕ → ℕ → List ℕ
group_of offsets grouped n = part (get_or offsets n 0) (get_or offsets (suc n) 0) grouped

-- a part within the list, of half-edges below a count
pub record PartWithin (count from to : ℕ) (grouped : List ℕ) : Type 0 where
  pub rises : from ≤ to
  pub ends : to ≤ length grouped
  pub low : (h : ℕ) → In h (part from to grouped) → h < count

-- every node's part is
pub record GroupsWithin (nodes count : ℕ) (offsets grouped : List ℕ) : Type 0 where
  pub room : nodes < length offsets
  pub each : (n : ℕ) → n < nodes → PartWithin count (get_or offsets n 0) (get_or offsets (suc n) 0) grouped

-- A fact holds in each sane arrangement of these nodes, edges, starts and marks whose stars are the groups. The star table that was
-- grouped is not read any more, so it is any that was.
abbrev pub InEach : ℕ → ℕ → List ℕ → List Bool → List ℕ → List ℕ → (Arrangement → Type 0) → Type 0
InEach nodes edges source marks offsets grouped fact =
    (star : List ℕ) → Grouped nodes source (take (2 * edges) star) offsets grouped → Sane (arrangement_in nodes edges source marks star)
    → fact (arrangement_in nodes edges source marks star)
