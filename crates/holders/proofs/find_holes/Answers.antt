-- `find_holes` meets its contract: the tables of whole numbers place the nodes where the floats do.
use Prim.Native.Nat.{ℕ, ◌*◌}
use native.Mathlib.Omega.{arith}
use mathlib.Core.Path.{◌≡◌, sym, ap, subst, ◌∙◌}
use mathlib.Core.List.{List, map}
use lib.IntN.{ℤ, pos}
use lib.ListN.{take, replicate}
use Rattle.lists.specs.Lists.{over}
use Rattle.geometry.specs.Coordinate.{value}
use Rattle.rules.specs.Limits.{limits}
use Rattle.rules.specs.State.{point_in}
use Rattle.rules.specs.Face.{Ring}
use Rattle.rules.specs.Holes.{holes_of}
use Rattle.inside.specs.Spots.{spot_in}
use Rattle.holding.specs.Maps.{origins, Map, map_of}
use Rattle.holders.specs.Asked.{Asked, Ready}
use Rattle.holders.proofs.Agreeing.{holes-within, whole_spots}
use Rattle.holders.proofs.Asking.{asked_ready}
use Rattle.holders.proofs.find_holes.Goals as goal
use Rattle.holders.proofs.find_holes.Goals.{Start, After-write_nodes}

-- zeros, over which is written
abbrev no_numbers : List ℤ
no_numbers = replicate limits.nodes (pos 0)

abbrev no_nodes : List ℕ
no_nodes = replicate (2 * limits.edges) 0

-- what was asked, by some rings
abbrev AskedAt : Start → List Ring → Type 0
AskedAt c rs =
    let a = c.args in
    Asked rs a.node_count a.nodes_x.now a.nodes_y.now a.dir_edges_src.now a.half_edges.now a.ring_first.now a.ring_length.now a.ring_face.now a.ring_side.now a.ring_area.now a.ring_count

-- x and y as whole numbers
xs_are : (c : After-write_nodes) → c.write_whole.new.out ≡ over (take c.args.node_count (map value c.args.nodes_x.now)) no_numbers
xs_are c = c.write_whole.ensures ∙ ap (λ n. over (take n (map value c.args.nodes_x.now)) no_numbers) c.from.ensures

ys_are : (c : After-write_nodes) → c.write_whole-2.new.out ≡ over (take c.args.node_count (map value c.args.nodes_y.now)) no_numbers
ys_are c = c.write_whole-2.ensures ∙ ap (λ n. over (take n (map value c.args.nodes_y.now)) no_numbers) c.from-2.ensures

-- the map of them
abbrev map_with : Start → List ℤ → List ℤ → List ℕ → Map
map_with c xs ys nodes = let a = c.args in map_of a.dir_edges_src.now xs ys a.half_edges.now nodes a.ring_first.now a.ring_length.now a.ring_face.now

-- it is ready
readied : (c : After-write_nodes) (rs : List Ring) → let s = (goal.at.After-write_nodes c).Start in let a = c.args in AskedAt s rs
    → Ready rs a.node_count (map_with s c.write_whole.new.out c.write_whole-2.new.out c.write_nodes.new.nodes) a.ring_side.now a.ring_area.now a.ring_count
readied c rs asked =
    let s = (goal.at.After-write_nodes c).Start in
    let a = c.args in
    let r = asked_ready rs a.node_count a.nodes_x.now a.nodes_y.now a.dir_edges_src.now a.half_edges.now a.ring_first.now a.ring_length.now a.ring_face.now a.ring_side.now a.ring_area.now a.ring_count asked
    no_numbers no_numbers no_nodes in
    subst (λ m. Ready rs a.node_count m a.ring_side.now a.ring_area.now a.ring_count) (λ i. map_with s (sym (xs_are c) i) (sym (ys_are c) i) (sym c.write_nodes.ensures i)) r

-- and its nodes lie where the floats say
spots : (c : After-write_nodes) (rs : List Ring) → let a = c.args in AskedAt (goal.at.After-write_nodes c).Start rs
    → holes_of (spot_in c.write_whole.new.out c.write_whole-2.new.out) (origins a.dir_edges_src.now) rs ≡ holes_of (point_in a.nodes_x.now a.nodes_y.now) (origins a.dir_edges_src.now) rs
spots c rs asked =
    let a = c.args in
    (λ i. holes_of (spot_in (xs_are c i) (ys_are c i)) (origins a.dir_edges_src.now) rs)
    ∙ holes-within a.dir_edges_src.now rs a.node_count _ _ (λ i l. (asked.closed i l).within)
    (whole_spots a.nodes_x.now a.nodes_y.now a.node_count asked.placed.in_xs asked.placed.in_ys no_numbers no_numbers)

pub write_whole-requires : goal.write_whole-requires
write_whole-requires c =
    let p = c.requires.1.placed in
    let e = c.from.ensures in
    (omega (arith, e, p.in_xs), omega (arith, e, p.few), λ n l. p.whole_x n (omega (arith, e, l)))

pub write_whole-requires-2 : goal.write_whole-requires-2
write_whole-requires-2 c =
    let p = c.requires.1.placed in
    let e = c.from-2.ensures in
    (omega (arith, e, p.in_ys), omega (arith, e, p.few), λ n l. p.whole_y n (omega (arith, e, l)))

pub write_nodes-requires : goal.write_nodes-requires
write_nodes-requires c = let p = c.requires.1 in (omega (arith, p.short), λ k l. (p.starts k l).0)

pub choose_slope-slope-requires : goal.choose_slope-slope-requires
choose_slope-slope-requires c = let p = c.requires.1 in (c.args.node_count, p.placed.in_xs, p.placed.in_ys, p.starts)

pub holes_of_map-requires : goal.holes_of_map-requires
holes_of_map-requires c = let p = c.requires in (p.0, readied (goal.at.holes_of_map-requires c).After-write_nodes p.0 p.1)

pub returns : goal.returns
returns c =
    let w = (goal.at.returns c).After-write_nodes in
    record {
      holes = λ rs asked. c.holes_of_map.ensures.holes rs (readied w rs asked) ∙ spots w rs asked;
      few = c.holes_of_map.ensures.few;
    }
