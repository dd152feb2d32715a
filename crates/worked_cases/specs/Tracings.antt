-- The tracings of document 01 that are worked by hand, P1 to P10: one table of what the definitions give and what is expected, and one proof.
use Rattle.std.specs.Prelude.{ℕ, ◌*◌, ◌≡◌, refl, Bool, true, false, cond, ◌&&◌, eqb, List, [], ◌∷◌, ◌++◌, map, length, get_or, take, drop, replicate, ℤ, pos, negsuc, Float}
use Rattle.std.specs.Float.{nan, fin, binary64}
use Rattle.std.specs.Float.Ieee.{of_int, to_bits}
use Rattle.lists.specs.Lists.{flatten}
use Rattle.rotation.specs.Rotation.{Key, least_rotation_lem}
use Rattle.rules.specs.Euler.{Census}
use Rattle.rules.specs.Limits.{Limits, limits}
use Rattle.rules.specs.State.{State}
use Rattle.geometry.specs.declared.Coord3D.{Coord3D}
use Rattle.geometry.specs.declared.Line3D.{Line3D}
use Rattle.geometry.specs.Reply.{Reply, refused, success}
use Rattle.rules.specs.Adding.{Outcome, Added, add}
use Rattle.rules.specs.Stages.{sort, prune_step, cut_step, Cutting}
use Rattle.rules.specs.Ringing.{ring_step, rings_of, RingLists, Ringing}
use Rattle.file_rules.specs.Decimal.{ascii, decimal}
use Rattle.file_rules.specs.Lines.{head_line, ring_line}
use Rattle.rules.specs.Listing.{listing}

-- a newly created graph over tables that are just long enough and hold anything
abbrev pub empty_for : Limits → State
empty_for l = record {
  nodes = 0;
  edges = 0;
  stage = 0;
  node_x = replicate l.nodes nan;
  node_y = replicate l.nodes nan;
  node_z = replicate l.nodes nan;
  degree = replicate l.nodes 7;
  node_mark = replicate l.nodes true;
  segment = replicate (6 * l.edges) nan;
  line_id = replicate l.edges 7;
  source = replicate (2 * l.edges) 7;
  target = replicate (2 * l.edges) 7;
  half_mark = replicate (2 * l.edges) true;
  star = replicate (2 * l.edges) 7;
  tracings = record { place = replicate l.edges 7; id = replicate l.pairs 7; next = replicate l.pairs 7 };
}

-- one with this library's limits
abbrev empty : State
empty = empty_for limits

-- result lists that hold anything
abbrev pub lists : RingLists
lists = record {
  half_edges_lem = replicate (2 * limits.edges) 9;
  first = replicate (2 * limits.edges) 9;
  length = replicate (2 * limits.edges) 9;
  face = replicate (2 * limits.edges) 9;
  side = replicate (2 * limits.edges) 9;
  area = replicate (2 * limits.edges) nan;
}

-- the point (x, y), z 0
abbrev pub at : ℤ → ℤ → Coord3D
at x y = record { x = of_int binary64 x; y = of_int binary64 y; z = fin false 0 (pos 0) }

-- the segment from (a, b) to (c, d)
abbrev pub line : ℤ → ℤ → ℤ → ℤ → Line3D
line a b c d = record { start = at a b; end = at c d; line_id = 1 }

-- a reply as whole numbers: -1 and the number of a refusal, or the values of the success
abbrev pub show_added : Reply Added → List ℤ
show_added (refused n) = negsuc 0 ∷ pos n ∷ []
show_added (success a) = pos a.edge ∷ pos (cond a.new 1 0) ∷ []

-- V, E, cycles, C, and 1 for yes
abbrev show_census : Census → List ℤ
show_census c = pos c.vertices ∷ pos c.edges ∷ pos c.cycles ∷ pos c.pieces ∷ pos (cond c.verdict 1 0) ∷ []

-- the count, the edges, the census
abbrev show_cut : Reply Cutting → List ℕ → List ℤ
show_cut (refused n) l = negsuc 0 ∷ pos n ∷ []
show_cut (success c) l = pos c.count ∷ map pos (take c.count l) ++ show_census c.census

-- the count, the edges
abbrev show_pruned : Reply ℕ → List ℕ → List ℤ
show_pruned (refused n) l = negsuc 0 ∷ pos n ∷ []
show_pruned (success c) l = pos c ∷ map pos (take c l)

-- the count, the doubled areas, the face numbers, the census
abbrev show_rings : State → Reply Ringing → RingLists → List ℤ
show_rings s (refused n) l = negsuc 0 ∷ pos n ∷ []
show_rings s (success r) l =
    pos r.count ∷ map (λ g. g.doubled) (rings_of s) ++ map pos (take r.count l.face) ++ show_census r.census

-- segments added one after another
abbrev build : State → List Line3D → State
build s [] = s
build s (g ∷ gs) = build (add limits g s).state gs

-- then sorted
abbrev sorted_from : List Line3D → State
sorted_from gs = (sort limits (build empty gs)).state

-- then pruned
abbrev pruned_from : List Line3D → Outcome ℕ (List ℕ)
pruned_from gs = prune_step limits (sorted_from gs) (replicate limits.edges 9)

-- then cut
abbrev pub cut_from : List Line3D → Outcome Cutting (List ℕ)
cut_from gs = cut_step limits (pruned_from gs).state (replicate limits.edges 9)

-- what ring extraction says after all of these
abbrev rings_from : List Line3D → List ℤ
rings_from gs = let c = (cut_from gs).state in let o = ring_step limits c lists in show_rings c o.reply o.lists

-- the first places of the rings, their lengths, their face numbers
abbrev show_places : Reply Ringing → RingLists → List ℤ
show_places (refused n) l = negsuc 0 ∷ pos n ∷ []
show_places (success r) l = map pos (take r.count l.first ++ take r.count l.length ++ take r.count l.face)

-- where the rings stand in their list
abbrev places_from : List Line3D → List ℤ
places_from gs = let o = ring_step limits (cut_from gs).state lists in show_places o.reply o.lists

-- what is printed, byte by byte
abbrev printed_from : List Line3D → List ℤ
printed_from gs = map pos (listing (build empty gs))

-- the counts of nodes and edges, and the starting nodes of each ring
abbrev nodes_from : List Line3D → List ℤ
nodes_from gs =
    let c = (cut_from gs).state in
    pos c.nodes ∷ pos c.edges ∷ map (λ h. pos (get_or c.source h 0)) (flatten (map (λ r. r.half_edges_lem) (rings_of c)))

-- what pruning says
abbrev dangles_from : List Line3D → List ℤ
dangles_from gs = let o = pruned_from gs in show_pruned o.reply o.lists

-- what cutting says
abbrev cuts_from : List Line3D → List ℤ
cuts_from gs = let o = cut_from gs in show_cut o.reply o.lists

-- what an addition says after others
abbrev added_last : List Line3D → Line3D → List ℤ
added_last gs g = show_added (add limits g (build empty gs)).reply

-- the first n node marks
abbrev marks : State → ℕ → List ℤ
marks s n = map (λ b. pos (cond b 1 0)) (take n s.node_mark)

-- keys with y 0
abbrev keys : List ℕ → List Key
keys [] = []
keys (n ∷ ns) = record { x = n; y = 0 } ∷ keys ns

-- ---- the inputs

-- the listing of document 01
abbrev pub triangle : List Line3D
triangle = line (pos 0) (pos 0) (pos 4) (pos 0) ∷ line (pos 4) (pos 0) (pos 0) (pos 3) ∷ line (pos 0) (pos 3) (pos 0) (pos 0) ∷ line (pos 4) (pos 0) (pos 6) (pos 0) ∷ []

-- P5: two triangles that share a corner
abbrev butterfly : List Line3D
butterfly =
    line (pos 0) (pos 0) (pos 2) (negsuc 0) ∷ line (pos 2) (negsuc 0) (pos 2) (pos 1) ∷ line (pos 2) (pos 1) (pos 0) (pos 0)
    ∷ line (pos 0) (pos 0) (negsuc 1) (pos 1) ∷ line (negsuc 1) (pos 1) (negsuc 1) (negsuc 0) ∷ line (negsuc 1) (negsuc 0) (pos 0) (pos 0) ∷ []

-- P6: a square with both diagonals
abbrev crossed_square : List Line3D
crossed_square =
    line (pos 0) (pos 0) (pos 2) (pos 0) ∷ line (pos 2) (pos 0) (pos 2) (pos 2) ∷ line (pos 2) (pos 2) (pos 0) (pos 2) ∷ line (pos 0) (pos 2) (pos 0) (pos 0)
    ∷ line (pos 0) (pos 0) (pos 2) (pos 2) ∷ line (pos 2) (pos 0) (pos 0) (pos 2) ∷ []

-- P3: a path of three nodes
abbrev path : List Line3D
path = line (pos 0) (pos 0) (pos 1) (pos 0) ∷ line (pos 1) (pos 0) (pos 2) (pos 0) ∷ []

-- -0.0
abbrev minus_zero : Float
minus_zero = fin true 0 (pos 0)

-- P7: from (-0.0, 0) to (0, 1)
abbrev from_minus_zero : Line3D
from_minus_zero = record { start = record { x = minus_zero; y = of_int binary64 (pos 0); z = minus_zero }; end = at (pos 0) (pos 1); line_id = 2 }

-- P9: from (0.5, 0)
abbrev from_half : Line3D
from_half = record { start = record { x = fin false 1 (negsuc 0); y = of_int binary64 (pos 0); z = minus_zero }; end = at (pos 0) (pos 1); line_id = 2 }

-- ---- the table

-- what the definitions give, and what is expected
pub record Row : Type 0 where
  pub given : List ℤ
  pub expected : List ℤ

-- a row
abbrev pub row : List ℤ → List ℤ → Row
row g e = record { given = g; expected = e }

-- P1 to P10
abbrev table : List Row
table =
    -- P1
    row (rings_from []) (pos 0 ∷ pos 0 ∷ pos 0 ∷ pos 0 ∷ pos 0 ∷ pos 1 ∷ [])
    -- P2
    ∷ row (dangles_from (line (pos 0) (pos 0) (pos 1) (pos 0) ∷ [])) (pos 1 ∷ pos 0 ∷ [])
    ∷ row (marks (pruned_from (line (pos 0) (pos 0) (pos 1) (pos 0) ∷ [])).state 2) (pos 0 ∷ pos 1 ∷ [])
    -- P3
    ∷ row (dangles_from path) (pos 2 ∷ pos 1 ∷ pos 0 ∷ [])
    -- P4
    ∷ row (dangles_from triangle) (pos 1 ∷ pos 3 ∷ [])
    ∷ row (cuts_from triangle) (pos 0 ∷ pos 3 ∷ pos 3 ∷ pos 2 ∷ pos 1 ∷ pos 1 ∷ [])
    ∷ row (rings_from triangle) (pos 2 ∷ pos 12 ∷ negsuc 11 ∷ pos 1 ∷ pos 0 ∷ pos 3 ∷ pos 3 ∷ pos 2 ∷ pos 1 ∷ pos 1 ∷ [])
    ∷ row (nodes_from triangle) (pos 4 ∷ pos 4 ∷ pos 0 ∷ pos 1 ∷ pos 2 ∷ pos 1 ∷ pos 0 ∷ pos 2 ∷ [])
    ∷ row (places_from triangle) (pos 0 ∷ pos 3 ∷ pos 3 ∷ pos 3 ∷ pos 1 ∷ pos 0 ∷ [])
    ∷ row (printed_from triangle)
    (map pos (
    ascii "nodes 4 edges 4 dangles 1 cuts 0 rings 2 euler yes\n"
    ++ ascii "ring 0 face 1 doubled 12 nodes 0 1 2\n"
    ++ ascii "ring 1 face 0 doubled -12 nodes 1 0 2\n"
    ))
    -- P5
    ∷ row (take 5 (rings_from butterfly)) (pos 4 ∷ pos 4 ∷ negsuc 3 ∷ pos 4 ∷ negsuc 3 ∷ [])
    ∷ row (drop 9 (rings_from butterfly)) (pos 5 ∷ pos 6 ∷ pos 3 ∷ pos 1 ∷ pos 1 ∷ [])
    -- P6
    ∷ row (cuts_from crossed_square) (pos 2 ∷ pos 4 ∷ pos 5 ∷ pos 4 ∷ pos 6 ∷ pos 2 ∷ pos 1 ∷ pos 0 ∷ [])
    ∷ row (rings_from crossed_square) (pos 2 ∷ pos 8 ∷ negsuc 7 ∷ pos 1 ∷ pos 0 ∷ pos 4 ∷ pos 4 ∷ pos 2 ∷ pos 1 ∷ pos 1 ∷ [])
    -- P7
    ∷ row (let s = build empty (line (pos 0) (pos 0) (pos 1) (pos 0) ∷ from_minus_zero ∷ []) in pos s.nodes ∷ pos (to_bits binary64 (get_or s.node_x 0 nan)) ∷ []) (pos 3 ∷ pos 0 ∷ [])
    -- P8
    ∷ row (added_last path (line (pos 2) (pos 0) (pos 1) (pos 0))) (pos 1 ∷ pos 0 ∷ [])
    -- P9
    ∷ row (added_last [] (line (pos 1048576) (pos 0) (pos 0) (pos 0))) (pos 0 ∷ pos 1 ∷ [])
    ∷ row (added_last [] (line (pos 1048577) (pos 0) (pos 0) (pos 0))) (negsuc 0 ∷ pos 1 ∷ [])
    ∷ row (added_last [] from_half) (negsuc 0 ∷ pos 1 ∷ [])
    -- P10
    ∷ row (pos (least_rotation_lem (keys (2 ∷ 1 ∷ 2 ∷ 1 ∷ []))) ∷ pos (least_rotation_lem (keys (5 ∷ 5 ∷ []))) ∷ pos (least_rotation_lem []) ∷ []) (pos 1 ∷ pos 0 ∷ pos 0 ∷ [])
    ∷ []

-- equal whole numbers
abbrev same_z : ℤ → ℤ → Bool
same_z (pos a) (pos b) = eqb a b
same_z (pos a) (negsuc b) = false
same_z (negsuc a) (pos b) = false
same_z (negsuc a) (negsuc b) = eqb a b

-- equal lists
abbrev same_list : List ℤ → List ℤ → Bool
same_list [] [] = true
same_list [] (y ∷ ys) = false
same_list (x ∷ xs) [] = false
same_list (x ∷ xs) (y ∷ ys) = same_z x y && same_list xs ys

-- row by row
abbrev pub holds : List Row → List Bool
holds [] = []
holds (r ∷ rs) = same_list r.given r.expected ∷ holds rs

-- every row holds
worked : holds table ≡ replicate 20 true
unfolding add sort prune_step cut_step ring_step rings_of of_int to_bits least_rotation_lem head_line ring_line decimal
worked = refl
