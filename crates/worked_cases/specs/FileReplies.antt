-- Answers that the definition gives by computation: a file, its parts and bad records, and the refusals of the call.
use Rattle.std.specs.Prelude.{ℕ, ◌-◌, ◌*◌, ◌≡◌, refl, true, List, [], ◌∷◌, ◌++◌, take, set, replicate}
use Rattle.std.specs.Float.{nan}
use Rattle.geometry.specs.Reply.{Reply, refused, success}
use Rattle.rules.specs.Limits.{limits}
use Rattle.rules.specs.State.{State}
use Rattle.file_taking.specs.FileAdding.{Records, add_records_lem}

-- a graph with no node and no edge in a stage, over tables that hold anything; the first table with so many entries
abbrev empty : ℕ → ℕ → State
empty stage length = record {
  nodes = 0;
  edges = 0;
  stage = stage;
  node_x = replicate length nan;
  node_y = replicate limits.nodes nan;
  node_z = replicate limits.nodes nan;
  degree = replicate limits.nodes 7;
  node_mark = replicate limits.nodes true;
  segment = replicate (6 * limits.edges) nan;
  line_id = replicate limits.edges 7;
  source = replicate (2 * limits.edges) 7;
  target = replicate (2 * limits.edges) 7;
  half_mark = replicate (2 * limits.edges) true;
  star = replicate (2 * limits.edges) 7;
  tracings = record { place = replicate limits.edges 7; id = replicate limits.pairs 7; next = replicate limits.pairs 7 };
}

-- the bytes of a record from (0, 0) to a point with y 0: its x is 4.0 or 6.0 by a byte, 16 or 24
abbrev record_of : ℕ → List ℕ
record_of byte = 54 ∷ 0 ∷ 0 ∷ 0 ∷ 1 ∷ 0 ∷ 1 ∷ 0 ∷ 0 ∷ 0 ∷ (replicate 30 0 ++ byte ∷ 64 ∷ replicate 16 0)

-- a record of kind 3 that says nothing
abbrev skipped : List ℕ
skipped = 2 ∷ 0 ∷ 0 ∷ 0 ∷ 3 ∷ 0 ∷ []

-- two segments, and the first again
abbrev file : List ℕ
file = record_of 16 ++ record_of 24 ++ record_of 16

abbrev answer : List ℕ → State → Reply Records
answer bytes s = (add_records_lem limits bytes s).reply

-- the same for an empty graph, with a table of so many pairs
abbrev paired : ℕ → List ℕ → Reply Records
paired pairs bytes =
    (add_records_lem (record { nodes = limits.nodes; edges = limits.edges; pairs = pairs; bound = limits.bound }) bytes (empty 0 limits.nodes)).reply

abbrev taken : ℕ → ℕ → Reply Records
taken n number = success (record { taken = n; number = number })

-- the file, none, the file without its last byte, with another length and with kinds 16 and 2 in record 1, with a skipped record before and behind, and
-- without that one's last byte, with -0.0 for its first x and 0.0 for the second; then a stage that is not 0, a stage that is none, and a table too short; then two pairs, which do for the same id again and not for another
-- one, and one pair, which does not do for a second edge
abbrev found : List (Reply Records)
found =
    answer file (empty 0 limits.nodes)
    ∷ answer [] (empty 0 limits.nodes)
    ∷ answer (take 173 file) (empty 0 limits.nodes)
    ∷ answer (set file 58 53) (empty 0 limits.nodes)
    ∷ answer (set file 62 16) (empty 0 limits.nodes)
    ∷ answer (set file 62 2) (empty 0 limits.nodes)
    ∷ answer (skipped ++ file ++ skipped) (empty 0 limits.nodes)
    ∷ answer (skipped ++ file ++ take 5 skipped) (empty 0 limits.nodes)
    ∷ answer (set (set (set file 17 128) 40 0) 41 0) (empty 0 limits.nodes)
    ∷ answer file (empty 1 limits.nodes)
    ∷ answer file (empty 5 limits.nodes)
    ∷ answer file (empty 5 (limits.nodes - 1))
    ∷ paired 2 file
    ∷ paired 2 (set file 122 2)
    ∷ paired 1 file
    ∷ []

abbrev expected : List (Reply Records)
expected = taken 3 0 ∷ taken 0 0 ∷ taken 2 9 ∷ taken 1 10 ∷ taken 1 11 ∷ taken 3 0 ∷ taken 5 0 ∷ taken 4 9 ∷ taken 0 2 ∷ refused 5 ∷ refused 7 ∷ refused 6 ∷ taken 3 0 ∷ taken 2 12 ∷ taken 1 12 ∷ []

pub as_answered : found ≡ expected
unfolding add_records_lem
as_answered = refl
