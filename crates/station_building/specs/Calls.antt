-- What creating and adding leave, by the outcome of the public entry that each calls.
use Rattle.std.specs.Prelude.{ℕ, Float}
use Rattle.geometry.specs.declared.Line3D.{Line3D}
use Rattle.rules.specs.Limits.{limits}
use Rattle.rules.specs.Adding.{Nothing, add}
use Rattle.rules.specs.Stages.{create}
use Rattle.replies.specs.Values.{no_values, added_values}
use Rattle.replies.specs.Left.{Lent, held_in, Left, handed, asked}

-- no byte is read
abbrev pub created : Lent Nothing → Left Nothing
created k = handed no_values k (create limits (held_in k))

-- a line by its numbers
abbrev pub line_from_lem : Float → Float → Float → Float → Float → Float → ℕ → Line3D
line_from_lem x1 y1 z1 x2 y2 z2 id = record { start = record { x = x1; y = y1; z = z1 }; end = record { x = x2; y = y2; z = z2 }; line_id = id }

abbrev pub added : Line3D → Lent Nothing → Left Nothing
added line k = asked added_values k (add limits line (held_in k))
