-- What each step leaves, by the outcome of the public entry that it calls.
use Rattle.rules.specs.Limits.{limits}
use Rattle.rules.specs.Adding.{Nothing}
use Rattle.rules.specs.Stages.{sort, reset}
use Rattle.replies.specs.Values.{no_values}
use Rattle.replies.specs.Left.{Lent, held_in, Left, asked}

abbrev pub sorted : Lent Nothing → Left Nothing
sorted k = asked no_values k (sort limits (held_in k))

abbrev pub was_reset : Lent Nothing → Left Nothing
was_reset k = asked no_values k (reset limits (held_in k))
