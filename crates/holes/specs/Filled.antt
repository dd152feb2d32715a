-- A list whose first entries are written.
use Rattle.std.specs.Prelude.{ℕ, List, ◌++◌, take, drop}

-- the first n entries are those of `new`, and the others are as they were
abbrev pub filled : {A : Type 0} → List A → ℕ → List A → List A
filled new n old = take n new ++ drop n old
