-- Lines that the definitions give beside those of the table P1 to P10 (worked_cases/specs/Tracings.antt): large numbers, a verdict of no, and what bytes are.
use Rattle.std.specs.Prelude.{ℕ, ◌≡◌, refl, false, List, [], ◌∷◌, negsuc}
use Rattle.file_rules.specs.Decimal.{ascii, decimal, signed_decimal}
use Rattle.file_rules.specs.Lines.{head_line, ring_line, refusal_line}

-- what the definitions give: a refusal at the largest number, a verdict of no, and whole numbers
abbrev found : List (List ℕ)
found =
    refusal_line 11 0xffff_ffff_ffff_ffff
    ∷ head_line 0 0 0 0 0 false
    ∷ decimal 1024
    ∷ signed_decimal (negsuc 0x7fff_ffff_ffff_ffff)
    ∷ []

abbrev expected : List (List ℕ)
expected =
    ascii "refused 11 record 18446744073709551615\n"
    ∷ ascii "nodes 0 edges 0 dangles 0 cuts 0 rings 0 euler no\n"
    ∷ ascii "1024"
    ∷ ascii "-9223372036854775808"
    ∷ []

pub as_printed : found ≡ expected
unfolding head_line refusal_line decimal
as_printed = refl

-- the bytes of document 01's third line, so that what `ascii` means is plain
pub third-line : ring_line 1 0 (negsuc 11) (1 ∷ 0 ∷ 2 ∷ [])
    ≡ 114 ∷ 105 ∷ 110 ∷ 103 ∷ 32 ∷ 49 ∷ 32 ∷ 102 ∷ 97 ∷ 99 ∷ 101 ∷ 32 ∷ 48 ∷ 32 ∷ 100 ∷ 111 ∷ 117 ∷ 98 ∷ 108 ∷ 101 ∷ 100 ∷ 32 ∷ 45 ∷ 49 ∷ 50 ∷ 32 ∷ 110 ∷ 111 ∷ 100 ∷ 101 ∷ 115 ∷ 32 ∷ 49 ∷ 32 ∷ 48 ∷ 32 ∷ 50 ∷ 10 ∷ []
unfolding ring_line decimal
third-line = refl
