-- Lent arrays of numbers, each of exactly its size: the small state and the values of a reply. What an answer writes into them.
use Rattle.std.specs.Prelude.{ℕ, ◌<◌, ◌≡◌, cond, List, [], ◌∷◌, ltb, get_or}
use Rattle.geometry.specs.Reply.{Reply, refused, success}
use Rattle.tables.specs.declared.PlanarGraph.{PlanarGraph}

-- the stage that a number says: 255, which is no stage, where the number is more than a byte
abbrev pub stage_in : ℕ → ℕ
stage_in n = cond (ltb n 256) n 255

-- node count, edge count and stage, in this order
abbrev pub graph_in : List ℕ → PlanarGraph
graph_in small = record { node_count = get_or small 0 0; edge_count = get_or small 1 0; stage = stage_in (get_or small 2 0) }

-- the same three as numbers
abbrev pub numbers_of : PlanarGraph → List ℕ
numbers_of g = g.node_count ∷ g.edge_count ∷ g.stage ∷ []

-- ---- what an answer writes

-- the number answered, 0 for success
abbrev pub number_of : {A : Type 0} → Reply A → ℕ
number_of (refused n) = n
number_of (success a) = 0

-- an array of numbers after a reply: a refusal leaves it
abbrev pub after : {A : Type 0} → (A → List ℕ) → Reply A → List ℕ → List ℕ
after values (refused n) old = old
after values (success a) old = values a

-- a stage that was written is a byte
abbrev pub Fits : {A : Type 0} → Reply A → PlanarGraph → Type 0
Fits (refused n) g = Unit
Fits (success a) g = g.stage < 256

-- an answer: its number, the small state with the counts and the stage of g, and the values of the reply
pub record Answered {A : Type 0} (values : A → List ℕ) (reply : Reply A) (g : PlanarGraph) (small out : List ℕ) (number : ℕ) (small' out' : List ℕ) : Type 0 where
  pub told : number ≡ number_of reply
  pub counted : small' ≡ after (λ a. numbers_of g) reply small
  pub fits : Fits reply g
  pub written : out' ≡ after values reply out
