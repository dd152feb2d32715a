-- How much of a slice is lent.
use Rattle.std.specs.Prelude.{ℕ, ◌+◌, ◌≤◌, List, length}

-- the slice is whole, or one entry short
abbrev pub IsLent : {A : Type 0} → ℕ → List A → Type 0
IsLent full slice = (length slice ≤ full) × (full ≤ length slice + 1)
