-- The stores of a new node make the state with one node more.
use Prim.Native.Nat.{ℕ, ◌+◌, ◌*◌, ◌<◌}
use native.Mathlib.Omega.{arith}
use mathlib.Core.Path.{◌≡◌, ap, ◌∙◌}
use mathlib.Core.Bool.{Bool, true, false}
use mathlib.Core.List.{List}
use lib.Ieee.{Float}
use lib.ListN.{set}
use lib.Seq.{take-set-le, take-set-lt, drop-set-lt, drop-set-add}
use Rattle.geometry.specs.declared.Coord3D.{Coord3D}
use Rattle.rules.specs.Adding.{with_node}
use Rattle.rules.specs.Limits.{Limits}
use Rattle.tables.specs.Tables.{state_of}
use Rattle.tables.specs.Regions.{xs_in, ys_in, zs_in, segments_in, sources_in, targets_in, line_ids_in, tracings_in, state_in}
use Rattle.tables.specs.declared.PlanarGraph.{PlanarGraph}
use Rattle.tables.proofs.Regions.{region_set-inside, region_set-before, region_set-behind}
use Rattle.table_entries.specs.Written.{node_counted}

module _ (l : Limits) (n : ℕ) (p : Coord3D) (few : n < l.nodes) where
  -- the coordinates, each in its region
  module _ (floats : List Float) where
    abbrev placed-x : List Float
    placed-x = set floats n p.x

    abbrev placed-y : List Float
    placed-y = set placed-x (l.nodes + n) p.y

    abbrev placed : List Float
    placed = set placed-y (2 * l.nodes + n) p.z

    x-placed : xs_in l placed ≡ set (xs_in l floats) n p.x
    x-placed =
        take-set-le l.nodes placed-y (2 * l.nodes + n) p.z (omega arith)
        ∙ take-set-le l.nodes placed-x (l.nodes + n) p.y (omega arith)
        ∙ take-set-lt l.nodes floats n p.x few

    y-placed : ys_in l placed ≡ set (ys_in l floats) n p.y
    y-placed =
        region_set-behind l.nodes l.nodes placed-y (2 * l.nodes + n) p.z (omega arith)
        ∙ region_set-inside l.nodes l.nodes placed-x n p.y few
        ∙ ap (λ t. set t n p.y) (region_set-before l.nodes l.nodes floats n p.x few)

    z_placed : zs_in l placed ≡ set (zs_in l floats) n p.z
    z_placed =
        region_set-inside (2 * l.nodes) l.nodes placed-y n p.z few
        ∙ ap (λ t. set t n p.z)
        (region_set-before (2 * l.nodes) l.nodes placed-x (l.nodes + n) p.y (omega arith)
        ∙ region_set-before (2 * l.nodes) l.nodes floats n p.x (omega arith))

    segments-kept : segments_in l placed ≡ segments_in l floats
    segments-kept =
        drop-set-lt (3 * l.nodes) placed-y (2 * l.nodes + n) p.z (omega arith)
        ∙ drop-set-lt (3 * l.nodes) placed-x (l.nodes + n) p.y (omega arith)
        ∙ drop-set-lt (3 * l.nodes) floats n p.x (omega arith)

  -- with its degree and its mark
  node_made : (g : PlanarGraph) (floats : List Float) (numbers stars : List ℕ) (marks : List Bool) (ids : List ℕ)
      → state_in l (node_counted true n g) (placed floats) numbers (set stars (2 * l.edges + n) 0) (set marks n false) ids
      ≡ with_node true n p (state_in l g floats numbers stars marks ids)
  node_made g floats numbers stars marks ids =
      let star = take-set-le (2 * l.edges) stars (2 * l.edges + n) 0 (omega arith) in
      λ i. state_of (node_counted true n g)
      (x-placed floats i)
      (y-placed floats i)
      (z_placed floats i)
      (drop-set-add (2 * l.edges) stars n 0 i)
      (take-set-lt l.nodes marks n false few i)
      (segments-kept floats i)
      (line_ids_in l ids)
      (sources_in l numbers)
      (targets_in l numbers)
      (drop-set-lt l.nodes marks n false few i)
      (star i)
      (tracings_in l numbers ids)

  -- the same at the index that the code has of it, where it tested that the node is new
  pub node_stored : (g : PlanarGraph) (floats : List Float) (numbers stars : List ℕ) (marks : List Bool) (ids : List ℕ)
      (new : Bool) → new ≡ true → (at : ℕ) → at ≡ n
      → state_in l (node_counted new n g) (set (set (set floats at p.x) (l.nodes + at) p.y) (2 * l.nodes + at) p.z) numbers (set stars (2 * l.edges + at) 0) (set marks at false) ids
      ≡ with_node new n p (state_in l g floats numbers stars marks ids)
  node_stored g floats numbers stars marks ids new e at q = rw (e, q) (node_made g floats numbers stars marks ids)
