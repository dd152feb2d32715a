-- `put_refusal` meets its contract: the parts of the line in a row.
use mathlib.Core.List.{List, ◌++◌}
use Prim.Native.Nat.{ℕ, ◌+◌, ◌^◌, ◌<◌, ◌≤◌}
use native.Mathlib.Omega.{arith}
use lib.ListN.{length}
use Rattle.file_rules.specs.Decimal.{ascii}
use Rattle.file_rules.specs.Lines.{labelled, refusal_line}
use Rattle.listing_text.specs.Rooms.{refusal_room}
use Rattle.listing_text.proofs.Lengths.{refusal-short}
use Rattle.lists.proofs.Buffers.{Left, left-all, left-room, left-fits, left_put, left-last}
use Rattle.listing_text.proofs.put_refusal.Goals as goal

-- what is left behind the refusal's number
abbrev from_record : ℕ → List ℕ
from_record place = labelled (ascii " record ") place ++ ascii "\n"

start : (at number place : ℕ) (out : List ℕ) → number < 2 ^ 64 → place < 2 ^ 64 → at + refusal_room ≤ length out
    → Left at (refusal_line number place) out at (labelled (ascii "refused ") number ++ from_record place) out
unfolding refusal_line
start at number place out hn hp room =
    let s = refusal-short number place hn hp in
    left-all at (refusal_line number place) out (omega (arith, room, s))

pub put_labelled-place-requires : goal.put_labelled-place-requires
put_labelled-place-requires c =
    let a = c.args in
    left-fits (labelled (ascii "refused ") a.number) (from_record a.record_number)
    (start a.at a.number a.record_number a.out.now c.ranges.number.fits c.ranges.record_number.fits c.requires)

pub put_labelled-place-requires-2 : goal.put_labelled-place-requires-2
put_labelled-place-requires-2 c =
    let a = c.args in
    left-fits (labelled (ascii " record ") a.record_number) (ascii "\n")
    (left_put c.put_labelled-place.ensures (start a.at a.number a.record_number a.out.now c.ranges.number.fits c.ranges.record_number.fits c.requires))

pub put_text-requires : goal.put_text-requires
put_text-requires c =
    let a = c.args in
    left-room {rest = ascii "\n"}
    (left_put c.put_labelled-place-2.ensures (left_put c.put_labelled-place.ensures (start a.at a.number a.record_number a.out.now c.ranges.number.fits c.ranges.record_number.fits c.requires)))

pub returns : goal.returns
returns c =
    let a = c.args in
    left-last c.put_text.ensures
    (left_put c.put_labelled-place-2.ensures (left_put c.put_labelled-place.ensures (start a.at a.number a.record_number a.out.now c.ranges.number.fits c.ranges.record_number.fits c.requires)))
