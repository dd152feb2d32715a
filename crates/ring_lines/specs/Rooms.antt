-- Room in a buffer that is always enough for a listing.
use Rattle.std.specs.Prelude.{ℕ, ◌+◌, ◌*◌}
use Rattle.rules.specs.Limits.{Limits}
use Rattle.listing_text.specs.Rooms.{head_room, ring_room_lem}

-- room for the lines of the rings: there are no more of them than half-edges, and no more nodes in all of them
abbrev pub lines_room : Limits → ℕ
lines_room l = ring_room_lem 1 * (2 * l.edges)

-- room for every listing: line one and the lines of the rings
abbrev pub listing_room : Limits → ℕ
listing_room l = head_room + lines_room l
