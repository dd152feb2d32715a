-- The lines of the listing. A line feed (10) ends each.
use Rattle.std.specs.Prelude.{ℕ, Bool, true, false, List, [], ◌∷◌, ◌++◌, map, get_or, take, drop, ℤ}
use Rattle.file_rules.specs.Decimal.{ascii, decimal, signed_decimal}

-- a text and then a number
abbrev pub labelled : List ℕ → ℕ → List ℕ
labelled text n = text ++ decimal n

-- the rings' verdict
abbrev pub verdict : Bool → List ℕ
verdict true = ascii " euler yes"
verdict false = ascii " euler no"

-- line one: five counts and the verdict
unfoldable pub head_line : ℕ → ℕ → ℕ → ℕ → ℕ → Bool → List ℕ
head_line nodes edges dangles cuts rings euler =
    labelled (ascii "nodes ") nodes
    ++ (labelled (ascii " edges ") edges
    ++ (labelled (ascii " dangles ") dangles
    ++ (labelled (ascii " cuts ") cuts
    ++ (labelled (ascii " rings ") rings
    ++ (verdict euler ++ ascii "\n")))))

-- numbers, a space before each
abbrev pub spaced : List ℕ → List ℕ
spaced [] = []
spaced (n ∷ ns) = labelled (ascii " ") n ++ spaced ns

-- the nodes at which half-edges start, by the table of sources
abbrev pub starting_nodes : List ℕ → List ℕ → List ℕ
starting_nodes source ring = map (λ h. get_or source h 0) ring

-- the nodes of the ring of `size` half-edges that stands in the list from `first` on
abbrev pub ring_nodes : List ℕ → List ℕ → ℕ → ℕ → List ℕ
ring_nodes source half_edges_lem first size = starting_nodes source (take size (drop first half_edges_lem))

-- a ring's line: its number, its face number, its doubled area, its starting nodes
unfoldable pub ring_line : ℕ → ℕ → ℤ → List ℕ → List ℕ
ring_line ring face doubled nodes =
    labelled (ascii "ring ") ring
    ++ (labelled (ascii " face ") face
    ++ (ascii " doubled " ++ (signed_decimal doubled ++ (ascii " nodes" ++ (spaced nodes ++ ascii "\n")))))

-- the line of a refusal: its number, and which record met it, from 0
unfoldable pub refusal_line : ℕ → ℕ → List ℕ
refusal_line number place =
    labelled (ascii "refused ") number ++ (labelled (ascii " record ") place ++ ascii "\n")
