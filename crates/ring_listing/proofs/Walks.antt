-- The rings of an arrangement, for a walk along the successors that stand in a table.
use Prim.Native.Nat.{ℕ, ◌+◌, ◌*◌, ◌≤◌}
use native.Mathlib.Omega.{arith}
use mathlib.Core.Path.{sym, subst}
use mathlib.Core.Bool.{Bool}
use mathlib.Core.List.{List}
use lib.Ieee.{Float}
use lib.ListN.{length, get_or}
use Rattle.rules.specs.Limits.{limits}
use Rattle.rules.specs.Cycles.{Arrangement}
use Rattle.rules.specs.Split.{minimal_rings}
use Rattle.rules.specs.State.{arrangement_in}
use Rattle.rules.proofs.Counting.{minimal_few}
use Rattle.cycles.specs.Arranged.{Arranged}
use Rattle.seeds.specs.Seeds.{Placed}
use Rattle.ring_tally.specs.Keys.{keys_y}
use Rattle.rings.specs.Listing.{RingRows, RowsRoom, Listable}
use Rattle.rings.proofs.Rows.{table-permutes, table_rings_lem}
use Rattle.ring_listing.specs.Listing.{Successors}

-- what a walk asks
pub walk_asks : (nodes edges : ℕ) (source : List ℕ) (marks : List Bool) (offsets grouped : List ℕ) (xs ys : List Float) (p : Arranged limits nodes edges source marks offsets grouped) → Placed nodes xs ys
    → (next : List ℕ) (maximal : ℕ) → Successors (arrangement_in nodes edges source marks p.star) next maximal → 2 * edges ≤ length next
    → (half_edges_lem keys : List ℕ) (rows : RingRows) → 2 * edges ≤ length half_edges_lem → keys_y + 2 * edges ≤ length keys → RowsRoom (length (minimal_rings (arrangement_in nodes edges source marks p.star))) rows
    → Listable limits edges next source marks xs ys half_edges_lem keys rows
walk_asks nodes edges source marks offsets grouped xs ys p placed next maximal s long half_edges_lem keys rows in_halves in_keys in_rows = record {
  permutes = table-permutes nodes edges source marks p.star next p.sane s.split;
  few = p.few_edges;
  sited = record {
    in_source = p.in_source;
    in_x = λ h l. (placed (get_or source h 0) (p.sane.begins h l)).in_x;
    in_y = λ h l. (placed (get_or source h 0) (p.sane.begins h l)).in_y;
  };
  in_next = long;
  in_marks = p.in_marks;
  in_half_edges = in_halves;
  in_keys = in_keys;
  in_rows = subst (λ rs. RowsRoom (length rs) rows) (sym (table_rings_lem nodes edges source marks p.star next p.sane s.split)) in_rows;
}

-- rows with an entry for each half-edge have one for each ring
pub rows_enough : (g : Arrangement) (rows : RingRows) → RowsRoom (2 * g.edges) rows → RowsRoom (length (minimal_rings g)) rows
rows_enough g rows r =
    let few = minimal_few g in
    record { in_first = omega (arith, few, r.in_first); in_size = omega (arith, few, r.in_size); in_side = omega (arith, few, r.in_side); in_area = omega (arith, few, r.in_area) }
