-- What each step leaves, by the outcome of the public entry that it calls.
use Rattle.std.specs.Prelude.{ℕ, List}
use Rattle.rules.specs.Limits.{limits}
use Rattle.rules.specs.Stages.{prune_step, cut_step}
use Rattle.replies.specs.Values.{count_value_lem, cut_values}
use Rattle.replies.specs.Left.{Lent, held_in, Left, asked}

abbrev pub pruned : Lent (List ℕ) → Left (List ℕ)
pruned k = asked count_value_lem k (prune_step limits (held_in k) k.lists)

abbrev pub cut : Lent (List ℕ) → Left (List ℕ)
cut k = asked cut_values k (cut_step limits (held_in k) k.lists)
