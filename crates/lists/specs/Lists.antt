-- Lists of numbers: counting up, picking by a test, and the few folds that the rules use.
use Rattle.std.specs.Prelude.{ℕ, zero, suc, ◌+◌, ◌<◌, ◌≤◌, min, Bool, true, false, cond, ◌&&◌, not, List, [], ◌∷◌, ◌++◌, eqb, ltb, length, drop}

-- 0, 1, .., n - 1
abbrev pub upto : ℕ → List ℕ
upto zero = []
upto (suc n) = upto n ++ (n ∷ [])

-- the numbers below n that pass the test, rising
abbrev pub below : (ℕ → Bool) → ℕ → List ℕ
below p zero = []
below p (suc n) = below p n ++ cond (p n) (n ∷ []) []

-- x in front where the test says so
abbrev pub keep : Bool → ℕ → List ℕ → List ℕ
keep true x xs = x ∷ xs
keep false x xs = xs

-- the members that pass the test, in their order
abbrev pub pick : (ℕ → Bool) → List ℕ → List ℕ
pick p [] = []
pick p (x ∷ xs) = keep (p x) x (pick p xs)

-- the least of d and the members
abbrev pub least : ℕ → List ℕ → ℕ
least d [] = d
least d (x ∷ xs) = min x (least d xs)

-- the last member, or d
abbrev pub last_of : ℕ → List ℕ → ℕ
last_of d [] = d
last_of d (x ∷ xs) = last_of x xs

-- every member passes the test
abbrev pub all : (ℕ → Bool) → List ℕ → Bool
all p [] = true
all p (x ∷ xs) = p x && all p xs

-- x is below the first member, and each member below the next
abbrev pub rises_from : ℕ → List ℕ → Bool
rises_from x [] = true
rises_from x (y ∷ ys) = ltb x y && rises_from y ys

-- each member is below the next
abbrev pub rising : List ℕ → Bool
rising [] = true
rising (x ∷ xs) = rises_from x xs

-- a test as a number
abbrev pub bit : Bool → ℕ
bit true = 1
bit false = 0

-- how often x stands in the list
abbrev pub count_of : ℕ → List ℕ → ℕ
count_of x [] = 0
count_of x (y ∷ ys) = bit (eqb x y) + count_of x ys

-- x stands in the list, as a test
abbrev pub member : ℕ → List ℕ → Bool
member x xs = ltb 0 (count_of x xs)

-- each member once
abbrev pub once : List ℕ → List ℕ
once [] = []
once (x ∷ xs) = keep (not (member x xs)) x (once xs)

-- x stands in the list, as a fact
abbrev pub In : ℕ → List ℕ → Type 0
In x xs = 0 < count_of x xs

-- no number stands in the list twice
abbrev pub Distinct : List ℕ → Type 0
Distinct xs = (x : ℕ) → count_of x xs ≤ 1

-- the first member that passes the test, or d
abbrev pub first_where : (ℕ → Bool) → ℕ → List ℕ → ℕ
first_where p d [] = d
first_where p d (x ∷ xs) = cond (p x) x (first_where p d xs)

-- the sum of the members
abbrev pub sum : List ℕ → ℕ
sum [] = 0
sum (x ∷ xs) = x + sum xs

-- one list after another
abbrev pub flatten : List (List ℕ) → List ℕ
flatten [] = []
flatten (xs ∷ xss) = xs ++ flatten xss

-- the fact holds of each list
abbrev pub Each : (List ℕ → Type 0) → List (List ℕ) → Type 0
Each fact [] = Unit {0}
Each fact (xs ∷ xss) = fact xs × Each fact xss

-- the member before h in the list; p before the first
abbrev pub before : ℕ → ℕ → List ℕ → ℕ
before p h [] = p
before p h (x ∷ xs) = cond (eqb x h) p (before x h xs)

-- a list written over the front of a lent one: entries past it keep their contents
abbrev pub over : {A : Type 0} → List A → List A → List A
over xs out = xs ++ drop (length xs) out
