-- The documents' number of each refusal, and a reply by these numbers.
use Rattle.std.specs.Prelude.{ℕ, Result}
use Rattle.std.specs.Prelude.{Ok, Err}
use Rattle.geometry.specs.Reply.{Reply, refused, success}
use Rattle.tables.specs.declared.Refusal.{Refusal}
use Rattle.tables.specs.declared.Refusal.TheVariants.{NotWhole, SameNode, TooManyNodes, TooManyEdges, WrongStage, TableTooShort, Unsound, ListTooShort, TooManyPairs, TooFewHoles}

abbrev pub refusal_number_lem : Refusal → ℕ
refusal_number_lem NotWhole = 1
refusal_number_lem SameNode = 2
refusal_number_lem TooManyNodes = 3
refusal_number_lem TooManyEdges = 4
refusal_number_lem WrongStage = 5
refusal_number_lem TableTooShort = 6
refusal_number_lem Unsound = 7
refusal_number_lem ListTooShort = 8
refusal_number_lem TooManyPairs = 12
refusal_number_lem TooFewHoles = 13

-- what a call answers: the value, as `says` has it, or the number of the refusal
abbrev pub reply_by : {A B : Type 0} → (A → B) → Result A Refusal → Reply B
reply_by says (Ok a) = success (says a)
reply_by says (Err why) = refused (refusal_number_lem why)
