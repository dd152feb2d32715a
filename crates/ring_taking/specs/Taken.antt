-- What the reader writes into the lent lists.
use Rattle.std.specs.Prelude.{ℕ, ◌+◌, ◌*◌, List, map, set}
use Rattle.std.specs.Int.{w64}
use Rattle.std.proofs.Common.{to_z}
use Rattle.lists.specs.Lists.{upto}
use Rattle.file_rules.specs.Records.{field}
use Rattle.file_rules.specs.RingFile.{FileRing, FileRings}

-- so many 16-bit numbers from a place on
abbrev pub words_from : List ℕ → ℕ → ℕ → List ℕ
words_from bytes at n = map (λ i. field bytes (at + 2 * i) 2) (upto n)

-- a ring of so many nodes from a place on, by its record's bytes
abbrev pub entry_of : List ℕ → ℕ → ℕ → FileRing
entry_of s place n = record { first = place; length = n; face = field s 6 2; doubled = to_z w64 (field s 10 8) }

-- a ring put at a place of the lists
abbrev pub ring_set : ℕ → FileRing → FileRings → FileRings
ring_set i r t = record {
  first = set t.first i r.first;
  length = set t.length i r.length;
  face = set t.face i r.face;
  doubled = set t.doubled i r.doubled;
  nodes = t.nodes;
}
