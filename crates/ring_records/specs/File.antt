-- The ring file of a graph that was cut: a record for each ring, in ring order.
use Rattle.std.specs.Prelude.{ℕ, ◌+◌, ◌*◌, List, map}
use Rattle.rules.specs.Face.{Ring, face_number_lem}
use Rattle.rules.specs.Limits.{Limits}
use Rattle.rules.specs.State.{State}
use Rattle.rules.specs.Ringing.{rings_of}
use Rattle.file_rules.specs.Lines.{starting_nodes}
use Rattle.file_rules.specs.RingFile.{RingRecord, ring_file_lem}

-- a ring's record: its face number, its doubled area, and the nodes where its half-edges start
abbrev pub record_of_lem : List ℕ → List Ring → Ring → RingRecord
record_of_lem source rings r = record { face = face_number_lem rings r; doubled = r.doubled; nodes = starting_nodes source r.half_edges_lem }

-- the file of these rings
abbrev pub file_of : List ℕ → List Ring → List ℕ
file_of source rings = ring_file_lem (map (record_of_lem source rings) rings)

-- the file of a graph that was cut
abbrev pub cut_file : State → List ℕ
cut_file s = file_of s.source (rings_of s)

-- room for every such file: a record has 18 bytes and 2 for each node, and there are no more rings than half-edges, nor more nodes in all of them
abbrev pub file_room : Limits → ℕ
file_room l = (18 + 2) * (2 * l.edges)
