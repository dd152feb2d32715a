-- What each part of the writer writes, and the tests before it, by the places of the rings in the lent lists.
use Rattle.std.specs.Prelude.{ℕ, ◌+◌, ◌*◌, Bool, ◌&&◌, List, ◌++◌, map, get_or, take, drop, ℤ, ltb, leb}
use Rattle.std.specs.Int.{w64}
use Rattle.std.proofs.Common.{of_z}
use Rattle.lists.specs.Lists.{sum}
use Rattle.file_rules.specs.Records.{little_bytes}
use Rattle.file_rules.specs.RingFile.{FileRing, FileRings, ring_at, cut_out, ring_file_lem}

-- so many node numbers from a place on
abbrev pub nodes_in : List ℕ → ℕ → ℕ → List ℕ
nodes_in nodes first count = take count (drop first nodes)

-- a ring's record before its node numbers
abbrev pub head_bytes : ℕ → ℤ → ℕ → List ℕ
head_bytes face doubled count = little_bytes 4 (14 + 2 * count) ++ little_bytes 2 2 ++ little_bytes 2 face ++ little_bytes 2 count ++ little_bytes 8 (of_z w64 doubled)

-- a ring by its numbers
abbrev pub ring_of : ℕ → ℕ → ℕ → ℤ → FileRing
ring_of first size face doubled = record { first = first; length = size; face = face; doubled = doubled }

-- the bytes of the rings at these places
abbrev pub bytes_at : FileRings → List ℕ → List ℕ
bytes_at t places = ring_file_lem (map (λ i. cut_out t.nodes (ring_at t i)) places)

-- the ring at a place can be written, over so many node numbers
abbrev pub writable_at : List ℕ → List ℕ → ℕ → ℕ → Bool
writable_at first size nodes i = ltb 0 (get_or size i 0) && (leb (get_or size i 0) 65535 && leb (get_or first i 0 + get_or size i 0) nodes)

-- how many bytes the records of the rings at these places have
abbrev pub sizes_at : List ℕ → List ℕ → ℕ
sizes_at size places = sum (map (λ i. 18 + 2 * get_or size i 0) places)
