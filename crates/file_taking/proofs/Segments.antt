-- The call adds the file's segments one after another, as single additions would: it leaves what they leave, and of the records that its reply counts
-- as many are segments as were accepted.
use Prim.Native.Nat.{ℕ}
use mathlib.Core.Path.{refl, sym}
use mathlib.Core.List.{List}
use Rattle.rules.specs.Limits.{Limits}
use Rattle.rules.specs.State.{State}
use Rattle.rules.specs.Filing.{filed, file_segments, segments_among}
use Rattle.rules.proofs.FileTests.{Tells, filed_tested}
use Rattle.taking.proofs.Segments.{file-filed}
use Rattle.file_taking.specs.FileAdding.{taken_of, add_records_lem}

pub records-filed : (l : Limits) (bytes : List ℕ) (s : State) → Tells (λ r. segments_among bytes (taken_of r)) (add_records_lem l bytes s) (filed l (file_segments bytes) s)
unfolding add_records_lem
records-filed l bytes s =
    let f = file-filed l bytes s in
    filed_tested (λ r. segments_among bytes (taken_of r)) (λ n. refl) l (file_segments bytes) s (record {}) _ (record { state = f.0; accepted = sym f.1 })
