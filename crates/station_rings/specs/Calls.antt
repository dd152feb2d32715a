-- What ring extraction leaves, by the outcome of the public entry for it.
use Rattle.rules.specs.Limits.{limits}
use Rattle.rules.specs.Extraction as rules
use Rattle.rules.specs.Extraction.{extract}
use Rattle.ring_replies.specs.Values.{ring_values}
use Rattle.replies.specs.Left.{Lent, held_in, Left, asked}

abbrev pub ringed : Lent rules.Lent → Left rules.Lent
ringed k = asked ring_values k (extract limits (held_in k) k.lists)
