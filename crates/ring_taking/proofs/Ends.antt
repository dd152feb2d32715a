-- Reading on while a record is found: the first that is refused ends it, as the end of the file does.
use Prim.Native.Nat.{ℕ}
use native.Mathlib.Omega.{arith}
use mathlib.Core.Path.{◌≡◌, refl, sym, ap, ◌∙◌}
use mathlib.Core.List.{List}
use lib.ListN.{drop}
use Rattle.std.specs.Prelude.{Result, Ok, Err, Option, Some, None}
use Rattle.std.specs.Result.{result_unwrap_or}
use Rattle.file_rules.specs.Records.{Found, read_file}
use Rattle.file_rules.specs.RingFile.{RingRecord, ring_next}
use Rattle.ring_reading.specs.declared.RingFileRefusal.{RingFileRefusal}
use Rattle.ring_reading.specs.declared.RingFound.{RingFound}
use Rattle.ring_reading.specs.Found.{number_of, record_of, found_of}
use Rattle.ring_reading.proofs.Progress.{Progress, progress_end, progress_stop}

-- what a record says, or the definition where none was found
abbrev told : List ℕ → Option RingFound → Found RingRecord
told s (Some f) = record_of s f
told s None = ring_next s

told-next : (s : List ℕ) (r : Result (Option RingFound) RingFileRefusal) → found_of s r ≡ ring_next s → told s (result_unwrap_or r None) ≡ ring_next s
told-next s (Ok (Some f)) p = p
told-next s (Ok None) p = refl
told-next s (Err why) p = refl

-- a record that is found is what the definition finds
pub found_next : (s : List ℕ) (r : Result (Option RingFound) RingFileRefusal) (f : RingFound) → result_unwrap_or r None ≡ Some f → found_of s r ≡ ring_next s → record_of s f ≡ ring_next s
found_next s r f e p = sym (ap (told s) e) ∙ told-next s r p

-- 1 for a record
abbrev is_some : Option RingFound → ℕ
is_some (Some f) = 1
is_some None = 0

-- where none is found, nothing more is read
pub found_none : (bytes : List ℕ) (at : ℕ) (done : List RingRecord) → Progress bytes at done → (r : Result (Option RingFound) RingFileRefusal)
    → result_unwrap_or r None ≡ None → found_of (drop at bytes) r ≡ ring_next (drop at bytes) → (read_file ring_next bytes).holds ≡ done
found_none bytes at done way (Ok (Some f)) e p = absurd (omega (arith, ap is_some e))
found_none bytes at done way (Ok None) e p = progress_end bytes at done way (sym p)
found_none bytes at done way (Err why) e p = progress_stop bytes at done way (number_of why) (sym p)
