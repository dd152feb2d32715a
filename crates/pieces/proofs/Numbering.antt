-- Piece numbers in every state that has the tables: fills from the seeds that the tables give number its pieces.
use Prim.Native.Nat.{ℕ, suc, ◌+◌, ◌*◌, ◌<◌, ◌≤◌}
use native.Mathlib.Omega.{arith}
use mathlib.Core.Path.{◌≡◌, refl, ap, ◌∙◌, subst}
use mathlib.Core.Bool.{Bool, true, false, cond}
use mathlib.Core.List.{List, []}
use lib.Dec.{eqb, ltb}
use lib.Ieee.{Float}
use lib.ListN.{length, get_or, take}
use Rattle.lists.specs.Lists.{over}
use Rattle.lists.specs.Sort.{sorted}
use borrow.Author.Tests.{lt-ltb}
use Rattle.lists.proofs.Counts.{below_agree}
use Rattle.rules.specs.Euler.{touched, piece_count}
use Rattle.rules.specs.Pieces.{seed_before}
use Rattle.rules.specs.Sane.{Sane}
use Rattle.rules.specs.LineIds.{Tracings}
use Rattle.rules.specs.State.{arrangement, arrangement_in}
use Rattle.rules.proofs.Roots.{near, root_of}
use Rattle.tables.specs.Tables.{state_of}
use Rattle.tables.specs.declared.PlanarGraph.{PlanarGraph}
use Rattle.stars.specs.Grouped.{Grouped}
use Rattle.stars.specs.Groups.{InEach}
use Rattle.seeds.specs.Reach.{Filled}
use Rattle.seeds.specs.Seeds.{lying, is_low_lem, low_in, seeds_in}
use Rattle.seeds.specs.Numbers.{InEachState, seeds_of, Numbered, Swept}
use Rattle.seeds.proofs.SeedOrder.{seeds_front}
use Rattle.seeds.proofs.Stars.{ends_near}
use Rattle.pieces.proofs.Sweeping.{Sweeping, here, swept-first, swept-has, new-clear, swept-new, swept_all}

-- what a fill leaves, by the arrangement of a state
pub filled_in : (graph : PlanarGraph) (xs ys zs : List Float) (degrees : List ℕ) (node_marks : List Bool) (lines : List Float) (ids source target : List ℕ) (marks : List Bool) (star : List ℕ) (tracings : Tracings)
    → let s = state_of graph xs ys zs degrees node_marks lines ids source target marks star tracings in
    (offsets grouped : List ℕ) → Grouped s.nodes source (take (2 * s.edges) star) offsets grouped → Sane (arrangement s)
    → (seed piece : ℕ) (pieces pieces' : List ℕ) → Filled source marks offsets grouped seed piece pieces pieces' → seed < s.nodes → s.nodes ≤ length pieces
    → ((n : ℕ) → n < s.nodes → root_of (arrangement s) n ≡ root_of (arrangement s) seed → get_or pieces n 0 ≡ 0)
    → (n : ℕ) → n < s.nodes → get_or pieces' n 0 ≡ cond (eqb (root_of (arrangement s) n) (root_of (arrangement s) seed)) piece (get_or pieces n 0)
unfolding arrangement
filled_in graph xs ys zs degrees node_marks lines ids source target marks star tracings offsets grouped groups sane seed piece pieces pieces' f =
    f graph.node_count graph.edge_count star groups sane

-- what holds after the first i of the given seeds, in each state whose seeds in order they are, where no node had a number
abbrev pub SoFar : List ℕ → List Bool → List ℕ → List ℕ → List ℕ → List ℕ → List ℕ → ℕ → ℕ → Type 0
SoFar source marks offsets grouped seeds first pieces count i =
    (graph : PlanarGraph) (xs ys zs : List Float) (degrees : List ℕ) (node_marks : List Bool) (lines : List Float) (ids target star : List ℕ) (tracings : Tracings)
    → let s = state_of graph xs ys zs degrees node_marks lines ids source target marks star tracings in
    Grouped s.nodes source (take (2 * s.edges) star) offsets grouped → (sane : Sane (arrangement s))
    → seeds ≡ seeds_of s
    → s.nodes ≤ length first
    → ((n : ℕ) → n < s.nodes → get_or first n 0 ≡ 0)
    → Sweeping s sane pieces count i

module _ (source : List ℕ) (marks : List Bool) (offsets grouped seeds first : List ℕ) where
  module _ (pieces : List ℕ) (count i k : ℕ) (l : i < length seeds) (at : k ≡ get_or seeds i 0) (r : SoFar source marks offsets grouped seeds first pieces count i) where
    -- a seed that has a number
    pub far_has : (get_or pieces k 0 ≡ 0 → ⊥) → SoFar source marks offsets grouped seeds first pieces count (i + 1)
    far_has d graph xs ys zs degrees node_marks lines ids target star tracings groups sane e room clear =
        let s = state_of graph xs ys zs degrees node_marks lines ids source target marks star tracings in
        swept-has s sane pieces count i k (subst (λ t. i < length t) e l) (at ∙ ap (λ t. get_or t i 0) e)
        (r graph xs ys zs degrees node_marks lines ids target star tracings groups sane e room clear) d

    -- one that has none, from which its piece was filled
    pub far_new : get_or pieces k 0 ≡ 0 → length pieces ≡ length first → (pieces' : List ℕ) → Filled source marks offsets grouped k (count + 1) pieces pieces'
        → SoFar source marks offsets grouped seeds first pieces' (count + 1) (i + 1)
    far_new z same pieces' f graph xs ys zs degrees node_marks lines ids target star tracings groups sane e room clear =
        let s = state_of graph xs ys zs degrees node_marks lines ids source target marks star tracings in
        let h : i < length (seeds_of s) = subst (λ t. i < length t) e l in
        let q : k ≡ get_or (seeds_of s) i 0 = at ∙ ap (λ t. get_or t i 0) e in
        let g = r graph xs ys zs degrees node_marks lines ids target star tracings groups sane e room clear in
        swept-new s sane pieces count i k h q g z pieces'
        (filled_in graph xs ys zs degrees node_marks lines ids source target marks star tracings offsets grouped groups sane k (count + 1) pieces pieces' f
        (here s sane pieces count i k h q g).0 (omega (arith, room, same)) (new-clear s sane pieces count i k h q g z))

  -- none at first
  pub far_first : SoFar source marks offsets grouped seeds first first 0 0
  far_first graph xs ys zs degrees node_marks lines ids target star tracings groups sane e room clear =
      swept-first (state_of graph xs ys zs degrees node_marks lines ids source target marks star tracings) sane first clear

  -- all at last
  pub far_all : (pieces : List ℕ) (count i : ℕ) → i ≡ length seeds → SoFar source marks offsets grouped seeds first pieces count i
      → Swept source marks offsets grouped seeds first pieces count
  far_all pieces count i n r graph xs ys zs degrees node_marks lines ids target star tracings groups sane e room clear =
      swept_all (state_of graph xs ys zs degrees node_marks lines ids source target marks star tracings) sane pieces count i (n ∙ ap length e)
      (r graph xs ys zs degrees node_marks lines ids target star tracings groups sane e room clear)

-- the tables' seeds are the state's
seeds_same : (graph : PlanarGraph) (xs ys zs : List Float) (degrees : List ℕ) (node_marks : List Bool) (lines : List Float) (ids source target : List ℕ) (marks : List Bool) (star : List ℕ) (tracings : Tracings)
    → let s = state_of graph xs ys zs degrees node_marks lines ids source target marks star tracings in
    (offsets grouped : List ℕ) → Grouped s.nodes source (take (2 * s.edges) star) offsets grouped → Sane (arrangement s)
    → seeds_in s.nodes xs ys source marks offsets grouped ≡ seeds_of s
unfolding seeds_in seeds_of
seeds_same graph xs ys zs degrees node_marks lines ids source target marks star tracings offsets grouped groups sane =
    let nodes : ℕ = graph.node_count in
    ap (sorted (seed_before (lying xs ys))) (below_agree (low_in xs ys source marks offsets grouped)
    (λ n. is_low_lem (seed_before (lying xs ys)) n (near (arrangement_in nodes graph.edge_count source marks star) n)) nodes
    (λ n l. ap (is_low_lem (seed_before (lying xs ys)) n) (ends_near nodes graph.edge_count source marks offsets grouped star groups sane n l)))

-- fills from the tables' seeds, written over a row, number every state that has the tables
pub numbered : (graph : PlanarGraph) (xs ys : List Float) (source : List ℕ) (marks : List Bool) (offsets grouped row row₀ : List ℕ) (n : ℕ) (pieces pieces' : List ℕ) (count : ℕ)
    → n ≡ length (seeds_in graph.node_count xs ys source marks offsets grouped) → row ≡ over (seeds_in graph.node_count xs ys source marks offsets grouped) row₀
    → graph.node_count ≤ length pieces → ((k : ℕ) → k < graph.node_count → get_or pieces k 0 ≡ 0)
    → Swept source marks offsets grouped (take n row) pieces pieces' count → InEachState graph xs ys source marks offsets grouped (λ s. Numbered s pieces' count)
numbered graph xs ys source marks offsets grouped row row₀ n pieces pieces' count size stands room clear w zs degrees node_marks lines ids target star tracings groups sane =
    w graph xs ys zs degrees node_marks lines ids target star tracings groups sane
    (seeds_front graph.node_count xs ys source marks offsets grouped row row₀ n size stands ∙ seeds_same graph xs ys zs degrees node_marks lines ids source target marks star tracings offsets grouped groups sane)
    room clear

-- so the pieces of every arrangement of the tables are counted
pub count-each : (graph : PlanarGraph) (xs ys : List Float) (source : List ℕ) (marks : List Bool) (offsets grouped pieces : List ℕ) (count : ℕ)
    → InEachState graph xs ys source marks offsets grouped (λ s. Numbered s pieces count)
    → InEach graph.node_count graph.edge_count source marks offsets grouped (λ g. count ≡ piece_count g)
unfolding arrangement
count-each graph xs ys source marks offsets grouped pieces count r star groups sane = (r [] [] [] [] [] [] star (record { place = []; id = []; next = [] }) groups sane).number

-- a number is above 0 where there is one
some_number : (t : Bool) (k : ℕ) → ltb 0 (cond t (suc k) 0) ≡ t
some_number true k = lt-ltb 0 (suc k) (omega arith)
some_number false k = refl

-- and the nodes with an active half-edge are those that have a number
pub touched-each : (graph : PlanarGraph) (xs ys : List Float) (source : List ℕ) (marks : List Bool) (offsets grouped pieces : List ℕ) (count : ℕ)
    → InEachState graph xs ys source marks offsets grouped (λ s. Numbered s pieces count)
    → InEach graph.node_count graph.edge_count source marks offsets grouped (λ g. (n : ℕ) → n < graph.node_count → ltb 0 (get_or pieces n 0) ≡ touched g n)
unfolding arrangement
touched-each graph xs ys source marks offsets grouped pieces count r star groups sane n l =
    ap (ltb 0) ((r [] [] [] [] [] [] star (record { place = []; id = []; next = [] }) groups sane).each n l) ∙ some_number _ _
