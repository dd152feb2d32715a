-- Frames worked by hand: which record some bytes begin with, by 9, 10 and 11 as document 02 (§4) words them.
use Rattle.std.specs.Prelude.{◌≡◌, refl, List, [], ◌∷◌, ℕ, replicate}
use Rattle.file_rules.specs.Records.{Found, taken, wrong, end, frame}

-- bytes that begin with a length and a kind, with n zeroes behind them
abbrev begun : ℕ → ℕ → ℕ → List ℕ
begun size kind n = size ∷ 0 ∷ 0 ∷ 0 ∷ kind ∷ 0 ∷ replicate n 0

-- what bytes are found to begin with
abbrev found : List (Found ℕ)
found =
    -- no byte; fewer than 4; 4 that ask for one more; 9 comes before 10, whatever length and kind say
    frame []
    ∷ frame (2 ∷ 0 ∷ 0 ∷ [])
    ∷ frame (1 ∷ 0 ∷ 0 ∷ 0 ∷ [])
    ∷ frame (begun 13 2 0)
    ∷ frame (begun 54 1 51)
    ∷ frame (begun 55 1 52)
    -- a length below 2, whatever follows
    ∷ frame (0 ∷ 0 ∷ 0 ∷ 0 ∷ [])
    ∷ frame (1 ∷ 0 ∷ 0 ∷ 0 ∷ 3 ∷ [])
    ∷ frame (begun 1 1 52)
    -- a segment has 54, a ring 14 or more, odd ones too
    ∷ frame (begun 53 1 52)
    ∷ frame (begun 54 1 52)
    ∷ frame (begun 55 1 53)
    ∷ frame (begun 13 2 12)
    ∷ frame (begun 14 2 12)
    ∷ frame (begun 15 2 13)
    ∷ frame (begun 54 2 52)
    -- kinds 3 to 15 with any length from 2 on, all others 11; what follows the record does not count
    ∷ frame (begun 2 3 0)
    ∷ frame (begun 2 15 58)
    ∷ frame (begun 2 0 0)
    ∷ frame (begun 2 16 0)
    ∷ frame (2 ∷ 0 ∷ 0 ∷ 0 ∷ 1 ∷ 1 ∷ [])
    ∷ []

abbrev expected : List (Found ℕ)
expected =
    end
    ∷ wrong 9
    ∷ wrong 9
    ∷ wrong 9
    ∷ wrong 9
    ∷ wrong 9
    ∷ wrong 10
    ∷ wrong 10
    ∷ wrong 10
    ∷ wrong 10
    ∷ taken 1 58
    ∷ wrong 10
    ∷ wrong 10
    ∷ taken 2 18
    ∷ taken 2 19
    ∷ taken 2 58
    ∷ taken 3 6
    ∷ taken 15 6
    ∷ wrong 11
    ∷ wrong 11
    ∷ wrong 11
    ∷ []

pub as_worked : found ≡ expected
unfolding frame
as_worked = refl
