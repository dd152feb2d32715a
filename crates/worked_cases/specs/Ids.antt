-- Line ids worked by hand, on small limits: one table of what the definitions give and what is expected, and one proof.
use Rattle.std.specs.Prelude.{ℕ, ◌≡◌, refl, true, List, [], ◌∷◌, ◌++◌, map, get_or, replicate, ℤ, pos, negsuc}
use Rattle.std.specs.Float.{nan, binary64}
use Rattle.std.specs.Float.Ieee.{of_int, to_bits}
use Rattle.geometry.specs.Coordinate.{coordinate_bound}
use Rattle.geometry.specs.declared.Line3D.{Line3D}
use Rattle.rules.specs.Limits.{Limits}
use Rattle.rules.specs.LineIds.{places_of, ids_of}
use Rattle.rules.specs.State.{State}
use Rattle.rules.specs.Adding.{add}
use Rattle.worked_cases.specs.Tracings.{empty_for, at, show_added, Row, row, holds}

-- four nodes, three edges, four pairs
abbrev few : Limits
few = record { nodes = 4; edges = 3; pairs = 4; bound = coordinate_bound }

-- the segment from (a, 0) to (b, 0) with an id
abbrev line : ℕ → ℕ → ℕ → Line3D
line a b i = record { start = at (pos a) (pos 0); end = at (pos b) (pos 0); line_id = i }

-- segments added one after another
abbrev build : State → List Line3D → State
build s [] = s
build s (g ∷ gs) = build (add few g s).state gs

-- from a new graph
abbrev built : List Line3D → State
built gs = build (empty_for few) gs

-- what an addition says after others
abbrev added : List Line3D → Line3D → List ℤ
added gs g = show_added (add few g (built gs)).reply

-- edge k's line id and ids, and its places
abbrev ids_at_lem : ℕ → State → List ℤ
ids_at_lem k s = pos (get_or s.line_id k 0) ∷ map pos (ids_of 4 s.tracings k)

-- the places of its list
abbrev places_at : ℕ → State → List ℤ
places_at k s = map pos (places_of 4 s.tracings k)

-- all that an addition may write of an edge that was found, and its start
abbrev tables : State → List ℤ
tables s =
    map pos (s.line_id ++ s.tracings.place ++ s.tracings.id ++ s.tracings.next) ++ (pos (to_bits binary64 (get_or s.segment 0 nan)) ∷ [])

-- ids 5, 3, 4 on one edge, from either end
abbrev three : List Line3D
three = line 0 1 5 ∷ line 1 0 3 ∷ line 0 1 4 ∷ []

-- and a second edge: all four pairs are in use
abbrev full : List Line3D
full = three ++ (line 1 2 9 ∷ [])

-- the table
abbrev table : List Row
table =
    -- the pairs stand where they were entered, and the list begins with the lowest id
    row (places_at 0 (built three)) (pos 1 ∷ pos 2 ∷ pos 0 ∷ [])
    ∷ row (ids_at_lem 0 (built three)) (pos 3 ∷ pos 3 ∷ pos 4 ∷ pos 5 ∷ [])
    -- what the tables then hold; the stored segment is the first one's, which starts at 0.0
    ∷ row (tables (built three)) (map pos (3 ∷ 7 ∷ 7 ∷ 1 ∷ 7 ∷ 7 ∷ 5 ∷ 3 ∷ 4 ∷ 7 ∷ 65535 ∷ 2 ∷ 0 ∷ 7 ∷ 0 ∷ []))
    -- a repeat with a known id changes nothing, also where all pairs are in use
    ∷ row (added three (line 1 0 4)) (pos 0 ∷ pos 0 ∷ [])
    ∷ row (tables (built (three ++ (line 1 0 4 ∷ [])))) (tables (built three))
    ∷ row (added full (line 1 0 4)) (pos 0 ∷ pos 0 ∷ [])
    -- the next edge takes the lowest free place
    ∷ row (places_at 1 (built full)) (pos 3 ∷ [])
    ∷ row (ids_at_lem 1 (built full)) (pos 9 ∷ pos 9 ∷ [])
    -- with all pairs in use: 12 for a new id of an edge that was found and for a new edge, and nothing changes
    ∷ row (added full (line 0 1 7)) (negsuc 0 ∷ pos 12 ∷ [])
    ∷ row (tables (built (full ++ (line 0 1 7 ∷ [])))) (tables (built full))
    ∷ row (added full (line 0 2 7)) (negsuc 0 ∷ pos 12 ∷ [])
    -- 3 comes before 12
    ∷ row (added full (line 3 4 7)) (negsuc 0 ∷ pos 3 ∷ [])
    -- 4 too
    ∷ row (added (line 0 1 5 ∷ line 1 2 5 ∷ line 2 0 5 ∷ line 0 1 6 ∷ []) (line 2 3 7)) (negsuc 0 ∷ pos 4 ∷ [])
    ∷ []

-- every row holds
worked-ids : holds table ≡ replicate 13 true
unfolding add of_int to_bits places_of ids_of
worked-ids = refl
