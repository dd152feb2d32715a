-- What the stores of a pair leave of the regions: its place and its link.
use Prim.Native.Nat.{ℕ, ◌+◌, ◌*◌, ◌<◌, ◌≤◌}
use native.Mathlib.Omega.{arith}
use mathlib.Core.Path.{◌≡◌, sym, ◌∙◌}
use mathlib.Core.List.{List}
use lib.ListN.{length, get_or, drop, set}
use lib.Seq.{take-set-le, drop-set-lt, drop-set-add, get_or-take, get_or-drop}
use Rattle.lists.proofs.Entries.{get_d_any}
use Rattle.rules.specs.Limits.{Limits}
use Rattle.rules.specs.LineIds.{list_end}
use Rattle.tables.specs.Regions.{sources_in, targets_in, list_places_in, links_in, least_numbers}
use Rattle.tables.proofs.Regions.{region_set-inside, region_set-behind}

module _ (l : Limits) (numbers : List ℕ) where
  module _ (k p : ℕ) (few : k < l.edges) where
    -- edge k's list starts at p
    pub listed : list_places_in l (set numbers (4 * l.edges + k) p) ≡ set (list_places_in l numbers) k p
    listed = region_set-inside (4 * l.edges) l.edges numbers k p few

    -- the half-edges start where they did
    pub listed-sources : sources_in l (set numbers (4 * l.edges + k) p) ≡ sources_in l numbers
    listed-sources = take-set-le (2 * l.edges) numbers (4 * l.edges + k) p (omega arith)

    -- and end where they did
    pub listed-targets : targets_in l (set numbers (4 * l.edges + k) p) ≡ targets_in l numbers
    listed-targets = region_set-behind (2 * l.edges) (2 * l.edges) numbers (4 * l.edges + k) p (omega arith)

    -- the links stay
    pub listed_links : links_in l (set numbers (4 * l.edges + k) p) ≡ links_in l numbers
    listed_links = drop-set-lt (5 * l.edges) numbers (4 * l.edges + k) p (omega arith)

  module _ (p n : ℕ) where
    -- the pair at p leads to n
    pub linked : links_in l (set numbers (5 * l.edges + p) n) ≡ set (links_in l numbers) p n
    linked = drop-set-add (5 * l.edges) numbers p n

    -- the half-edges start where they did
    pub linked_sources : sources_in l (set numbers (5 * l.edges + p) n) ≡ sources_in l numbers
    linked_sources = take-set-le (2 * l.edges) numbers (5 * l.edges + p) n (omega arith)

    -- and end where they did
    pub linked_targets : targets_in l (set numbers (5 * l.edges + p) n) ≡ targets_in l numbers
    linked_targets = region_set-behind (2 * l.edges) (2 * l.edges) numbers (5 * l.edges + p) n (omega arith)

    -- the lists start where they did
    pub linked_places : list_places_in l (set numbers (5 * l.edges + p) n) ≡ list_places_in l numbers
    linked_places = region_set-behind (4 * l.edges) l.edges numbers (5 * l.edges + p) n (omega arith)

  module _ (room : least_numbers l ≤ length numbers) where
    -- where edge k's list starts, as the code reads it
    pub place_read : (k : ℕ) → k < l.edges → get_or numbers (4 * l.edges + k) 0 ≡ get_or (list_places_in l numbers) k list_end
    place_read k few =
        get_d_any numbers (4 * l.edges + k) 0 list_end (omega arith)
        ∙ sym (get_or-take l.edges (drop (4 * l.edges) numbers) k list_end few ∙ get_or-drop (4 * l.edges) numbers k list_end)

    -- where the pair at p leads, as the code reads it
    pub link_read : (p : ℕ) → p < l.pairs → get_or numbers (5 * l.edges + p) 0 ≡ get_or (links_in l numbers) p list_end
    link_read p space = get_d_any numbers (5 * l.edges + p) 0 list_end (omega arith) ∙ sym (get_or-drop (5 * l.edges) numbers p list_end)
