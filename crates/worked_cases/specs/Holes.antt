-- Holes of small maps (§2): one table of what the definitions give and what is expected, and one proof.
use Rattle.std.specs.Prelude.{ℕ, ◌≡◌, refl, true, List, [], ◌∷◌, ◌++◌, take, replicate, ℤ, pos, negsuc}
use Rattle.std.specs.Float.Ieee.{of_int}
use Rattle.geometry.specs.declared.Line3D.{Line3D}
use Rattle.geometry.specs.Reply.{Reply, refused, success}
use Rattle.rules.specs.Limits.{limits}
use Rattle.rules.specs.Adding.{add}
use Rattle.rules.specs.Stages.{sort, prune_step, cut_step}
use Rattle.rules.specs.Ringing.{RingLists}
use Rattle.rules.specs.Holes.{Hole}
use Rattle.rules.specs.Extraction.{RingAnswer, extract}
use Rattle.worked_cases.specs.Tracings.{lists, line, cut_from, triangle, Row, row, holds}

-- the records: ring, holder, doubled area
abbrev show_holes : List Hole → List ℤ
show_holes [] = []
show_holes (h ∷ hs) = pos h.ring ∷ pos h.holder ∷ h.doubled ∷ show_holes hs

-- -1 and the number of a refusal; or how many rings, half-edges and holes were written, and the holes
abbrev show_extracted : Reply RingAnswer → List Hole → List ℤ
show_extracted (refused n) hs = negsuc 0 ∷ pos n ∷ []
show_extracted (success r) hs = pos r.ringing.count ∷ pos r.half_edges_lem ∷ pos r.holes ∷ show_holes (take r.holes hs)

-- ring extraction into ring lists and a hole list of k records that hold anything
abbrev holes_into : RingLists → List Line3D → ℕ → List ℤ
holes_into rings gs k =
    let o = extract limits (cut_from gs).state (record { rings = rings; holes = replicate k (record { ring = 9; holder = 9; doubled = pos 9 }) }) in
    show_extracted o.reply o.lists.holes

-- into ring lists that are long enough
abbrev holes_from : List Line3D → ℕ → List ℤ
holes_from = holes_into lists

-- ring lists without entries
abbrev no_lists : RingLists
no_lists = record { half_edges_lem = []; first = []; length = []; face = []; side = []; area = [] }

-- the square with corners (a, a) and (b, b)
abbrev square : ℕ → ℕ → List Line3D
square a b =
    line (pos a) (pos a) (pos b) (pos a) ∷ line (pos b) (pos a) (pos b) (pos b) ∷ line (pos b) (pos b) (pos a) (pos b) ∷ line (pos a) (pos b) (pos a) (pos a) ∷ []

-- a square inside a square
abbrev island : List Line3D
island = square 0 6 ++ square 2 4

-- a triangle inside a square, from the corner that is its own least node
abbrev touching : List Line3D
touching = square 0 6 ++ (line (pos 0) (pos 0) (pos 4) (pos 1) ∷ line (pos 4) (pos 1) (pos 1) (pos 4) ∷ line (pos 1) (pos 4) (pos 0) (pos 0) ∷ [])

-- a square inside a square inside a square
abbrev nested : List Line3D
nested = square 0 10 ++ square 2 8 ++ square 4 6

-- a triangle inside a square, with a corner on the lowest line of the square but on no node of it; one line crosses to its right
abbrev border : List Line3D
border = square 0 6 ++ (line (pos 1) (pos 0) (pos 3) (pos 1) ∷ line (pos 3) (pos 1) (pos 3) (pos 3) ∷ line (pos 3) (pos 3) (pos 1) (pos 0) ∷ [])

-- a triangle in the middle of a star that crosses itself, which is outside by the even-odd rule
abbrev starred : List Line3D
starred =
    line (pos 0) (pos 4) (pos 2) (negsuc 2) ∷ line (pos 2) (negsuc 2) (negsuc 3) (pos 1) ∷ line (negsuc 3) (pos 1) (pos 4) (pos 1) ∷ line (pos 4) (pos 1) (negsuc 1) (negsuc 2)
    ∷ line (negsuc 1) (negsuc 2) (pos 0) (pos 4) ∷ line (pos 0) (pos 1) (negsuc 0) (pos 0) ∷ line (negsuc 0) (pos 0) (pos 1) (pos 0) ∷ line (pos 1) (pos 0) (pos 0) (pos 1) ∷ []

-- a triangle inside two equal squares that cross; the later square has the lower face numbers
abbrev tied : List Line3D
tied = square 1 7 ++ square 0 6 ++ (line (pos 3) (pos 3) (pos 4) (pos 3) ∷ line (pos 4) (pos 3) (pos 3) (pos 4) ∷ line (pos 3) (pos 4) (pos 3) (pos 3) ∷ [])

-- three lines on one: both rings are flat
abbrev flat : List Line3D
flat = line (pos 0) (pos 0) (pos 1) (pos 0) ∷ line (pos 1) (pos 0) (pos 2) (pos 0) ∷ line (pos 2) (pos 0) (pos 0) (pos 0) ∷ []

-- ---- the table

abbrev table : List Row
table =
    -- a triangle and its outside
    row (holes_from triangle 2) (pos 2 ∷ pos 6 ∷ pos 1 ∷ pos 1 ∷ pos 65535 ∷ negsuc 11 ∷ [])
    -- the hole list is too short
    ∷ row (holes_from triangle 0) (negsuc 0 ∷ pos 13 ∷ [])
    -- so are the ring lists, which comes first
    ∷ row (holes_into no_lists triangle 0) (negsuc 0 ∷ pos 8 ∷ [])
    -- flat rings are no holes
    ∷ row (holes_from flat 0) (pos 2 ∷ pos 6 ∷ pos 0 ∷ [])
    -- the inner square's outside is a hole of the outer square, ring 0
    ∷ row (holes_from island 2) (pos 4 ∷ pos 16 ∷ pos 2 ∷ pos 1 ∷ pos 65535 ∷ negsuc 71 ∷ pos 3 ∷ pos 0 ∷ negsuc 7 ∷ [])
    -- the triangle touches its holder
    ∷ row (holes_from touching 9) (pos 4 ∷ pos 14 ∷ pos 2 ∷ pos 1 ∷ pos 65535 ∷ negsuc 71 ∷ pos 3 ∷ pos 0 ∷ negsuc 14 ∷ [])
    -- the innermost square is held by the middle one
    ∷ row (holes_from nested 9) (pos 6 ∷ pos 24 ∷ pos 3 ∷ pos 1 ∷ pos 65535 ∷ negsuc 199 ∷ pos 3 ∷ pos 0 ∷ negsuc 71 ∷ pos 5 ∷ pos 2 ∷ negsuc 7 ∷ [])
    -- a test point on the line is not inside
    ∷ row (holes_from border 9) (pos 4 ∷ pos 14 ∷ pos 2 ∷ pos 1 ∷ pos 65535 ∷ negsuc 71 ∷ pos 3 ∷ pos 65535 ∷ negsuc 3 ∷ [])
    -- nor is the middle of the star
    ∷ row (holes_from starred 9) (pos 4 ∷ pos 16 ∷ pos 2 ∷ pos 0 ∷ pos 65535 ∷ negsuc 43 ∷ pos 3 ∷ pos 65535 ∷ negsuc 1 ∷ [])
    -- of two holders with one area that with the lower face number
    ∷ row (holes_from tied 9) (pos 6 ∷ pos 22 ∷ pos 3 ∷ pos 1 ∷ pos 2 ∷ negsuc 71 ∷ pos 3 ∷ pos 65535 ∷ negsuc 71 ∷ pos 5 ∷ pos 2 ∷ negsuc 0 ∷ [])
    ∷ []

-- every row holds
worked : holds table ≡ replicate 10 true
unfolding add sort prune_step cut_step extract of_int
worked = refl
