-- The codes by which nodes and half-edges are chained. Any codes would give the same answers; these spread the points and edges of a tracing well.
use Rattle.std.specs.Prelude.{ℕ, ◌+◌, ◌*◌, ◌/◌, ◌%◌, List, Float, get_or}
use Rattle.rotation.specs.Rotation.{Key}
use Rattle.rules.specs.Limits.{limits}
use Rattle.rules.specs.State.{key_in_lem}

-- how many chains of nodes there are: two for each node that there may be
abbrev pub node_heads : ℕ
node_heads = 2 * limits.nodes

-- how many of half-edges: two for each of these
abbrev pub half_heads : ℕ
half_heads = 2 * (2 * limits.edges)

-- of a key: the upper halves of its bits, which alone differ among whole numbers within the bound, multiplied by two odd numbers
unfoldable pub key_code_lem : Key → ℕ
key_code_lem k = (k.x / 4294967296 * 1540483477 + k.y / 4294967296 * 1640531527) / 4294967296 % node_heads

-- of two nodes, from one to the other
unfoldable pub pair_code_lem : ℕ → ℕ → ℕ
pair_code_lem u v = (300 * u + v) % half_heads

-- of node n
abbrev pub node_code_lem : List Float → List Float → ℕ → ℕ
node_code_lem xs ys n = key_code_lem (key_in_lem xs ys n)

-- of the half-edge at entry i of the star table
abbrev pub half_code_lem : List ℕ → List ℕ → List ℕ → ℕ → ℕ
half_code_lem source target star i = let h = get_or star i 0 in pair_code_lem (get_or source h 0) (get_or target h 0)
