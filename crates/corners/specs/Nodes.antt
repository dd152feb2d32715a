-- Nodes of rings: where they lie, which are stamped, and the test point among the others.
use Rattle.std.specs.Prelude.{ℕ, ◌<◌, ◌≡◌, ◌⊎◌, Bool, false, cond, not, List, length, get_or, eqb}
use Rattle.lists.specs.Lists.{pick, member, In}
use Rattle.geometry.specs.Angle.{Point}
use Rattle.std.specs.declared.option.Option.{Option}
use Rattle.std.specs.declared.option.Option.TheVariants.{None, Some}
use Rattle.rules.specs.Holes.{left_of}

-- the nodes of a list have the stamp, and the others what they had
pub record Stamped (nodes : List ℕ) (stamp : ℕ) (before after : List ℕ) : Type 0 where
  pub size : length after ≡ length before
  pub each : (n : ℕ) → n < length before → get_or after n 0 ≡ cond (member n nodes) stamp (get_or before n 0)

-- the nodes without the stamp
abbrev pub unstamped : ℕ → List ℕ → List ℕ → List ℕ
unstamped stamp stamps nodes = pick (λ n. not (eqb (get_or stamps n 0) stamp)) nodes

-- one of two, before which neither comes
pub record FirstOf (before : ℕ → ℕ → Bool) (a b r : ℕ) : Type 0 where
  pub one : (r ≡ a) ⊎ (r ≡ b)
  pub left : before a r ≡ false
  pub right : before b r ≡ false

-- a node of the list to whose left none of the list lies; none where the list is empty
abbrev pub Leftmost : (ℕ → Point) → List ℕ → Option ℕ → Type 0
Leftmost at nodes None = (w : ℕ) → In w nodes → ⊥
Leftmost at nodes (Some n) = In n nodes × ((w : ℕ) → In w nodes → left_of at w n ≡ false)

-- the test point: the leftmost node without the stamp
abbrev pub TestPoint : (ℕ → Point) → List ℕ → ℕ → List ℕ → Option ℕ → Type 0
TestPoint at nodes stamp stamps n = Leftmost at (unstamped stamp stamps nodes) n
