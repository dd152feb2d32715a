-- Room in a buffer that is always enough for a line.
use Rattle.std.specs.Prelude.{ℕ, ◌+◌, ◌*◌}

-- room that is always enough for line one: its numbers have 64 bits, so at most 20 digits; a node or a face has 16, so at most 5
abbrev pub head_room : ℕ
head_room = 146

-- the same for the line of a ring of so many half-edges
abbrev pub ring_room_lem : ℕ → ℕ
ring_room_lem size = 72 + 6 * size

-- and for a refusal's
abbrev pub refusal_room : ℕ
refusal_room = 57
