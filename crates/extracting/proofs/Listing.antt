-- The rings that were listed, in any sound state that has the tables: how many half-edges they have, and that they can be numbered.
use Prim.Native.Nat.{ℕ, ◌*◌, ◌≤◌}
use native.Mathlib.Omega.{arith}
use mathlib.Core.Path.{◌≡◌, sym, ap, subst, ◌∙◌}
use mathlib.Core.Bool.{Bool, true}
use mathlib.Core.List.{List, map}
use lib.Ieee.{Float}
use lib.ListN.{length, take, replicate}
use Rattle.lists.specs.Lists.{flatten}
use Rattle.rules.specs.Limits.{limits}
use Rattle.rules.specs.Split.{minimal_rings}
use Rattle.rules.specs.LineIds.{Tracings}
use Rattle.rules.specs.State.{State, arrangement, node_key, sound}
use Rattle.rules.specs.Naming.{naming_comparisons}
use Rattle.rules.specs.Ringing.{rings_of}
use Rattle.rules.proofs.Histories.{fine_limits}
use Rattle.rules.proofs.Soundness.{is-sound}
use Rattle.tables.specs.Tables.{state_of}
use Rattle.tables.specs.declared.PlanarGraph.{PlanarGraph}
use Rattle.stars.specs.Grouped.{Grouped}
use Rattle.stars.specs.Groups.{InEach}
use Rattle.cycles.specs.Census.{census_of}
use Rattle.ring_tally.specs.Keys.{keys_y}
use Rattle.rings.specs.Listing.{RingRows}
use Rattle.faces.specs.Numbers.{comparisons_at, Numberable}
use Rattle.ring_listing.specs.Listing.{keys_x_of, keys_y_of, RingsListed}
use Rattle.ring_listing.specs.declared.listing.RingCount.{RingCount}
use Rattle.extracting.proofs.Numbering.{flat-few, comparisons-replied, numberable}
use Rattle.extracting.proofs.Outcome.{arrangement-is, held-sane, total-is}

-- the list of keys at first
abbrev pub zeros : List ℕ
zeros = replicate (2 * keys_y) 0

-- what a listing of the rings left, in each sane arrangement of which the groups are the stars
pub record Listing (graph : PlanarGraph) (xs ys : List Float) (source : List ℕ) (marks : List Bool) (offsets grouped halves₀ : List ℕ) (rows₀ : RingRows)
    (halves keys : List ℕ) (rows : RingRows) (listed : RingCount) : Type 0 where
  pub each : InEach graph.node_count graph.edge_count source marks offsets grouped (λ g. RingsListed g source xs ys halves₀ zeros rows₀ halves keys rows listed)

module _ {graph : PlanarGraph} {xs ys : List Float} {source : List ℕ} {marks : List Bool} {offsets grouped halves₀ : List ℕ} {rows₀ : RingRows}
    {halves keys : List ℕ} {rows : RingRows} {listed : RingCount} (l : Listing graph xs ys source marks offsets grouped halves₀ rows₀ halves keys rows listed)
    (zs : List Float) (ds : List ℕ) (nm : List Bool) (lines : List Float) (ids target star : List ℕ) (tr : Tracings) where
  -- the state with the tables that are not read
  abbrev held : State
  held = state_of graph xs ys zs ds nm lines ids source target marks star tr

  module _ (sense : sound limits held ≡ true) (gs : Grouped graph.node_count source (take (2 * graph.edge_count) star) offsets grouped) where
    -- the lists hold the rings
    pub got : RingsListed (arrangement held) source xs ys halves₀ zeros rows₀ halves keys rows listed
    got = subst (λ g. RingsListed g source xs ys halves₀ zeros rows₀ halves keys rows listed) (arrangement-is held) (l.each star gs (held-sane limits held sense))

    -- the keys of the rings fit the first half
    pub short : length (flatten (minimal_rings (arrangement held))) ≤ keys_y
    short = omega (arith, flat-few limits held sense, (is-sound limits held sense).edges)

    module _ (edges : ℕ) (e : edges ≡ listed.census.edges) where
      -- twice the edges of the census is how many half-edges the rings have
      pub whole : 2 * edges ≡ length (flatten (minimal_rings (arrangement held)))
      whole = ap (λ k. 2 * k) e ∙ total-is limits held sense (census_of listed.census) got.counted

      module _ (count : ℕ) (n : count ≡ listed.count) where
        -- the rings can be numbered
        pub able : Numberable limits (take (2 * edges) halves) (keys_x_of (take (2 * edges) halves) keys) (keys_y_of (take (2 * edges) halves) keys) rows.first rows.size count source xs ys rows.area
        able =
            subst (λ m. Numberable limits (take (2 * edges) halves) (keys_x_of (take (2 * edges) halves) keys) (keys_y_of (take (2 * edges) halves) keys) rows.first rows.size m source xs ys rows.area) (sym n)
            (numberable limits held sense halves₀ rows₀ halves rows listed.count got.listed (2 * edges) whole fine_limits zeros keys got.keyed short)

        -- the comparisons made are those of naming the rings
        pub made-is : (made : ℕ) → made ≡ comparisons_at (take (2 * edges) halves) rows.first rows.size count source xs ys
            → made ≡ naming_comparisons (node_key held) (arrangement held) (map (λ q. q.half_edges_lem) (rings_of held))
        made-is made m =
            m ∙ ap (λ k. comparisons_at (take (2 * edges) halves) rows.first rows.size k source xs ys) n
            ∙ comparisons-replied limits held sense halves₀ rows₀ halves rows listed.count got.listed (2 * edges) whole
