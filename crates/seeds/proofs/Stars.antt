-- The stars of nodes as parts of the groups: where their half-edges end.
use Prim.Native.Nat.{ℕ, ◌*◌, ◌<◌, ◌≤◌}
use mathlib.Core.Path.{◌≡◌, ap, subst}
use mathlib.Core.Bool.{Bool}
use mathlib.Core.List.{List, map}
use lib.ListN.{length, get_or, take}
use Rattle.lists.specs.Lists.{In, pick}
use Rattle.lists.proofs.Members.{pick_in}
use Rattle.rules.specs.HalfEdge.{twin}
use Rattle.rules.specs.Sane.{Sane}
use Rattle.rules.specs.State.{arrangement_in}
use Rattle.rules.proofs.Twin.{twin-below}
use Rattle.rules.proofs.Values.{map_in}
use Rattle.rules.proofs.Roots.{near}
use Rattle.stars.specs.Grouped.{Grouped}
use Rattle.stars.specs.Groups.{unmarked, group_of}
use Rattle.seeds.specs.Reach.{ends_of_lem, Spreadable}
use Rattle.stars.proofs.Groups.{group_active, groups-within}

module _ (nodes edges : ℕ) (source : List ℕ) (marks : List Bool) (offsets grouped : List ℕ) where
  module _ (s : Spreadable nodes edges source marks offsets grouped) where
    -- a half-edge of a star ends at a node
    pub star-ends : (n : ℕ) → n < nodes → (h : ℕ) → In h (group_of offsets grouped n) → (twin h < 2 * edges) × (get_or source (twin h) 0 < nodes)
    star-ends n l h m =
        let t : twin h < 2 * edges = twin-below edges h ((s.groups.each n l).low h m) in
        (t, s.starts (twin h) t)

    -- the ends of a star are nodes
    pub ends_low : (n : ℕ) → n < nodes → (y : ℕ) → In y (ends_of_lem source marks (group_of offsets grouped n)) → y < nodes
    ends_low n l y m =
        let r = map_in (λ h. get_or source (twin h) 0) (pick (unmarked marks) (group_of offsets grouped n)) y m in
        subst (λ z. z < nodes) r.2 (star-ends n l r.0 (pick_in (unmarked marks) r.0 (group_of offsets grouped n) r.1).0).1

  module _ (star : List ℕ) (groups : Grouped nodes source (take (2 * edges) star) offsets grouped) (sane : Sane (arrangement_in nodes edges source marks star)) where
    -- they are its neighbours
    pub ends_near : (n : ℕ) → n < nodes → ends_of_lem source marks (group_of offsets grouped n) ≡ near (arrangement_in nodes edges source marks star) n
    ends_near n l = ap (map (λ h. get_or source (twin h) 0)) (group_active nodes edges source marks star offsets grouped groups sane n l)

    -- sane tables spread
    pub spreads : 2 * edges ≤ length source → 2 * edges ≤ length marks → Spreadable nodes edges source marks offsets grouped
    spreads a b = record {
      groups = groups-within nodes edges source marks star offsets grouped groups sane;
      in_source = a;
      in_marks = b;
      starts = sane.begins;
    }
