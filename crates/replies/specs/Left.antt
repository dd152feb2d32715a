-- All that a call is lent, and all that it leaves.
use Rattle.std.specs.Prelude.{ℕ, List, [], ◌∷◌, Float}
use Rattle.geometry.specs.Reply.{Reply, refused, success}
use Rattle.rules.specs.Limits.{limits}
use Rattle.rules.specs.State.{State}
use Rattle.rules.specs.Adding.{Outcome, Nothing}
use Rattle.lent_marks.specs.Marks.{lent_state, blended, marks_of}
use Rattle.lent_marks.specs.Checks.{marks_tested}
use Rattle.replies.specs.Lent.{graph_in}

-- the small state, the slices with the marks as bytes, the lists, and the array for a reply's values
pub record Lent (L : Type 0) : Type 0 where
  pub small : List ℕ
  pub floats : List Float
  pub numbers : List ℕ
  pub stars : List ℕ
  pub bytes : List ℕ
  pub ids : List ℕ
  pub lists : L
  pub reply : List ℕ

abbrev pub lent : {L : Type 0} → List ℕ → List Float → List ℕ → List ℕ → List ℕ → List ℕ → L → List ℕ → Lent L
lent small floats numbers stars bytes ids lists reply =
    record { small = small; floats = floats; numbers = numbers; stars = stars; bytes = bytes; ids = ids; lists = lists; reply = reply }

-- where no list is lent
abbrev pub none : Nothing
none = record {}

-- the state of the rules that the small state and the slices hold
abbrev pub held_in : {L : Type 0} → Lent L → State
held_in k = lent_state limits (graph_in k.small) k.floats k.numbers k.stars k.bytes k.ids

-- what a call leaves: the number that it answers, 0 for success, and everything lent to it
pub record Left (L : Type 0) : Type 0 where
  pub number : ℕ
  pub small : List ℕ
  pub state : State
  pub bytes : List ℕ
  pub lists : L
  pub reply : List ℕ

abbrev pub gives : {L : Type 0} → ℕ → Lent L → Left L
gives number k = record { number = number; small = k.small; state = held_in k; bytes = k.bytes; lists = k.lists; reply = k.reply }

-- the three numbers of a state
abbrev pub counts_of : State → List ℕ
counts_of s = s.nodes ∷ s.edges ∷ s.stage ∷ []

-- a refusal leaves everything; a success leaves the state that the rules give, its counts in the small state, its marks in the bytes that
-- changed, and the values of the reply
abbrev pub handed_by : {A L : Type 0} → (A → List ℕ) → Lent L → Reply A → State → L → Left L
handed_by values k (refused n) s lists = gives n k
handed_by values k (success a) s lists =
    record { number = 0; small = counts_of s; state = s; bytes = blended (marks_of s) k.bytes; lists = lists; reply = values a }

-- an outcome of the rules, handed over
abbrev pub handed : {A L : Type 0} → (A → List ℕ) → Lent L → Outcome A L → Left L
handed values k o = handed_by values k o.reply o.state o.lists

-- the same of a call that reads marks: numbers 6 and 7 of the bytes come first
abbrev pub asked : {A L : Type 0} → (A → List ℕ) → Lent L → Outcome A L → Left L
asked values k o = handed values k (marks_tested limits k.bytes (held_in k) k.lists o)
