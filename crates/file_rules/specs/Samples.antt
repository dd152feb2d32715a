-- Facts of single definitions that no law says, by computation. Whole files that are worked by hand stand in worked_cases.
use Rattle.std.specs.Prelude.{ℕ, ◌≡◌, refl, List, [], ◌∷◌}
use Rattle.file_rules.specs.Decimal.{decimal}
use Rattle.file_rules.specs.Records.{read_file}
use Rattle.file_rules.specs.SegmentFile.{segment_next}

-- the highest digit comes first
digits-in_order : decimal 120 ≡ 49 ∷ 50 ∷ 48 ∷ []
unfolding decimal
digits-in_order = refl

-- a record of kind 3, which is passed over
abbrev skipped : List ℕ
skipped = 2 ∷ 0 ∷ 0 ∷ 0 ∷ 3 ∷ 0 ∷ []

-- it is counted
passed-counts : (read_file segment_next skipped).records ≡ 1
unfolding read_file segment_next
passed-counts = refl
