-- The soundness list test by test, each over the tables that it reads. proofs/SoundTests.antt has the law that these are the rules' own.
use Rattle.std.specs.Prelude.{ℕ, ◌+◌, ◌*◌, Bool, true, ◌&&◌, not, List, eqb, ltb, leb, length, get_or, take, Float}
use Rattle.std.specs.Bool.{beq}
use Rattle.std.specs.Float.{nan}
use Rattle.lists.specs.Lists.{upto, below, all, count_of}
use Rattle.geometry.specs.Coordinate.{coordinate}
use Rattle.rules.specs.Limits.{Limits}

-- counts are within the limits, and the stage is one of 0 to 4
abbrev pub counts_within_lem : Limits → ℕ → ℕ → ℕ → Bool
counts_within_lem l nodes edges stage = leb nodes l.nodes && (leb edges l.edges && leb stage 4)

-- edge k's half-edges swap two different nodes below the node count
abbrev pub ends_swap_lem : ℕ → List ℕ → List ℕ → ℕ → Bool
ends_swap_lem nodes source target k =
    ltb (get_or source (2 * k) 0) nodes
    && (ltb (get_or target (2 * k) 0) nodes
    && (not (eqb (get_or source (2 * k) 0) (get_or target (2 * k) 0))
    && (eqb (get_or source (2 * k + 1) 0) (get_or target (2 * k) 0) && eqb (get_or target (2 * k + 1) 0) (get_or source (2 * k) 0))))

-- the two halves of edge k are marked alike
abbrev pub twins_alike : List Bool → ℕ → Bool
twins_alike marks k = beq (get_or marks (2 * k) true) (get_or marks (2 * k + 1) true)

-- half-edge h stands once among the first entries of the star table
abbrev pub stands_once : ℕ → List ℕ → ℕ → Bool
stands_once halves star h = eqb (count_of h (take halves star)) 1

-- node n lies at whole numbers within the bound
abbrev pub lies_whole : ℕ → List Float → List Float → ℕ → Bool
lies_whole bound xs ys n = coordinate bound (get_or xs n nan) && coordinate bound (get_or ys n nan)

-- the four tests of every state: ends, twins, stars and coordinates
abbrev pub listed_tables : ℕ → ℕ → ℕ → List Float → List Float → List ℕ → List ℕ → List Bool → List ℕ → Bool
listed_tables bound nodes edges xs ys source target half_marks star =
    all (ends_swap_lem nodes source target) (upto edges)
    && (all (twins_alike half_marks) (upto edges)
    && (all (stands_once (2 * edges) star) (upto (2 * edges)) && all (lies_whole bound xs ys) (upto nodes)))

-- how many of the first half-edges start at node n
abbrev pub starts_at : List ℕ → ℕ → ℕ → ℕ
starts_at source halves n = length (below (λ h. eqb (get_or source h 0) n) halves)

-- ---- stages 0 and 1

-- place i is not marked
abbrev pub unmarked : List Bool → ℕ → Bool
unmarked marks i = not (get_or marks i true)

-- node n is not marked, and its degree is its entry of the counts
abbrev pub node_fresh : List Bool → List ℕ → List ℕ → ℕ → Bool
node_fresh marks degrees counts n = unmarked marks n && eqb (get_or degrees n 0) (get_or counts n 0)

-- nothing is marked, and each degree is the number of half-edges that start at the node
abbrev pub fresh_tables : ℕ → ℕ → List ℕ → List Bool → List ℕ → List Bool → Bool
fresh_tables nodes halves degrees node_marks source half_marks =
    all (λ n. unmarked node_marks n && eqb (get_or degrees n 0) (starts_at source halves n)) (upto nodes) && all (unmarked half_marks) (upto halves)
