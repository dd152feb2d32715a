-- Marks that are lent as bytes. A byte other than 0 is a mark, so that every byte means something; a byte in use must be 0 or 1.
use Rattle.std.specs.Prelude.{ℕ, ◌*◌, Bool, ◌&&◌, cond, not, List, [], ◌∷◌, ◌++◌, map, eqb, ltb, leb, get_or, take, drop, Float}
use Rattle.std.specs.Bool.{beq}
use Rattle.lists.specs.Lists.{upto, all}
use Rattle.rules.specs.Limits.{Limits}
use Rattle.rules.specs.State.{State}
use Rattle.tables.specs.Regions.{state_in, least_marks}
use Rattle.tables.specs.declared.PlanarGraph.{PlanarGraph}

-- a byte as a mark
abbrev pub is_set : ℕ → Bool
is_set b = not (eqb b 0)

-- the marks that bytes hold: as many as the limits need
abbrev pub marks_in : Limits → List ℕ → List Bool
marks_in l bytes = take (least_marks l) (map is_set bytes)

-- the small state and the slices as the state of the rules
abbrev pub lent_state : Limits → PlanarGraph → List Float → List ℕ → List ℕ → List ℕ → List ℕ → State
lent_state l g floats numbers stars bytes ids = state_in l g floats numbers stars (marks_in l bytes) ids

-- ---- bytes in use

-- byte i is 0 or 1
abbrev pub mark_at_lem : List ℕ → ℕ → Bool
mark_at_lem bytes i = ltb (get_or bytes i 0) 2

-- the counts are within the limits, and so many marks of nodes and of half-edges are 0 or 1; bytes behind them may hold anything
abbrev pub plain : Limits → ℕ → ℕ → List ℕ → Bool
plain l nodes edges bytes =
    leb nodes l.nodes
    && (leb edges l.edges && (all (mark_at_lem bytes) (upto nodes) && all (mark_at_lem (drop l.nodes bytes)) (upto (2 * edges))))

-- ---- writing marks

-- a byte that says its mark already keeps what it holds
abbrev pub blend : Bool → ℕ → ℕ
blend mark b = cond (beq (is_set b) mark) b (cond mark 1 0)

-- a row of marks over bytes; bytes behind the row stay
abbrev pub blended : List Bool → List ℕ → List ℕ
blended [] bytes = bytes
blended (m ∷ row) [] = []
blended (m ∷ row) (b ∷ bytes) = blend m b ∷ blended row bytes

-- all marks of a state, in the order in which they are lent
abbrev pub marks_of : State → List Bool
marks_of s = s.node_mark ++ s.half_mark
