-- `put_head` meets its contract: the parts of the line in a row.
use mathlib.Core.Path.{◌≡◌, subst}
use mathlib.Core.Bool.{Bool, true, false}
use mathlib.Core.List.{List, ◌++◌}
use Prim.Native.Nat.{ℕ, ◌+◌, ◌^◌, ◌<◌, ◌≤◌}
use native.Mathlib.Omega.{arith}
use lib.ListN.{length}
use Rattle.file_rules.specs.Decimal.{ascii}
use Rattle.file_rules.specs.Lines.{labelled, verdict, head_line}
use Rattle.listing_text.specs.Rooms.{head_room}
use Rattle.listing_text.proofs.Lengths.{head-short}
use Rattle.lists.proofs.Buffers.{Left, left-all, left-room, left-fits, left_put, left-last}
use Rattle.listing_text.proofs.put_head.Goals as goal
use Rattle.listing_text.proofs.put_head.Goals.{Start, After-put_labelled-place-5}

-- what is left on the way
abbrev from_verdict : Bool → List ℕ
from_verdict euler = verdict euler ++ ascii "\n"

abbrev from_rings : ℕ → Bool → List ℕ
from_rings rings euler = labelled (ascii " rings ") rings ++ from_verdict euler

abbrev from_cuts : ℕ → ℕ → Bool → List ℕ
from_cuts cuts rings euler = labelled (ascii " cuts ") cuts ++ from_rings rings euler

abbrev from_dangles : ℕ → ℕ → ℕ → Bool → List ℕ
from_dangles dangles cuts rings euler = labelled (ascii " dangles ") dangles ++ from_cuts cuts rings euler

abbrev from_edges : ℕ → ℕ → ℕ → ℕ → Bool → List ℕ
from_edges edges dangles cuts rings euler = labelled (ascii " edges ") edges ++ from_dangles dangles cuts rings euler

abbrev To : (at nodes edges dangles cuts rings : ℕ) → Bool → List ℕ → ℕ → List ℕ → List ℕ → Type 0
To at nodes edges dangles cuts rings euler old place rest new = Left at (head_line nodes edges dangles cuts rings euler) old place rest new

whole : (at nodes edges dangles cuts rings : ℕ) (euler : Bool) (out : List ℕ) → at + length (head_line nodes edges dangles cuts rings euler) ≤ length out
    → To at nodes edges dangles cuts rings euler out at (labelled (ascii "nodes ") nodes ++ from_edges edges dangles cuts rings euler) out
unfolding head_line
whole at nodes edges dangles cuts rings euler out h = left-all at (head_line nodes edges dangles cuts rings euler) out h

start : (c : Start)
    → let a = c.args in
    To a.at a.nodes a.edges a.dangles a.cuts a.rings a.euler a.out.now a.at (labelled (ascii "nodes ") a.nodes ++ from_edges a.edges a.dangles a.cuts a.rings a.euler) a.out.now
start c =
    let a = c.args in
    let f = c.ranges in
    let s = head-short a.nodes a.edges a.dangles a.cuts a.rings a.euler f.nodes.fits f.edges.fits f.dangles.fits f.cuts.fits f.rings.fits in
    whole a.at a.nodes a.edges a.dangles a.cuts a.rings a.euler a.out.now (omega (arith, c.requires, s))

-- after the last count
counted : (c : After-put_labelled-place-5)
    → let a = c.args in
    To a.at a.nodes a.edges a.dangles a.cuts a.rings a.euler a.out.now a.at (labelled (ascii "nodes ") a.nodes ++ from_edges a.edges a.dangles a.cuts a.rings a.euler) a.out.now
    → To a.at a.nodes a.edges a.dangles a.cuts a.rings a.euler a.out.now c.put_labelled-place-5.result (from_verdict a.euler) c.put_labelled-place-5.new.out
counted c s =
    left_put c.put_labelled-place-5.ensures
    (left_put c.put_labelled-place-4.ensures
    (left_put c.put_labelled-place-3.ensures (left_put c.put_labelled-place-2.ensures (left_put c.put_labelled-place.ensures s))))

-- with the verdict known
decided : (b : Bool) {at place : ℕ} {text old new : List ℕ} {euler : Bool} → euler ≡ b
    → Left at text old place (from_verdict euler) new → Left at text old place (from_verdict b) new
decided b {at} {place} {text} {old} {new} e l = subst (λ (t : Bool). Left at text old place (from_verdict t) new) e l

pub put_labelled-place-requires : goal.put_labelled-place-requires
put_labelled-place-requires c =
    let a = c.args in
    left-fits (labelled (ascii "nodes ") a.nodes) (from_edges a.edges a.dangles a.cuts a.rings a.euler) (start (goal.at.put_labelled-place-requires c).Start)

pub put_labelled-place-requires-2 : goal.put_labelled-place-requires-2
put_labelled-place-requires-2 c =
    let a = c.args in
    left-fits (labelled (ascii " edges ") a.edges) (from_dangles a.dangles a.cuts a.rings a.euler)
    (left_put c.put_labelled-place.ensures (start (goal.at.put_labelled-place-requires-2 c).Start))

pub put_labelled-place-requires-3 : goal.put_labelled-place-requires-3
put_labelled-place-requires-3 c =
    let a = c.args in
    left-fits (labelled (ascii " dangles ") a.dangles) (from_cuts a.cuts a.rings a.euler)
    (left_put c.put_labelled-place-2.ensures (left_put c.put_labelled-place.ensures (start (goal.at.put_labelled-place-requires-3 c).Start)))

pub put_labelled-place-requires-4 : goal.put_labelled-place-requires-4
put_labelled-place-requires-4 c =
    let a = c.args in
    let l = left_put c.put_labelled-place-2.ensures (left_put c.put_labelled-place.ensures (start (goal.at.put_labelled-place-requires-4 c).Start)) in
    left-fits (labelled (ascii " cuts ") a.cuts) (from_rings a.rings a.euler) (left_put c.put_labelled-place-3.ensures l)

pub put_labelled-place-requires-5 : goal.put_labelled-place-requires-5
put_labelled-place-requires-5 c =
    let a = c.args in
    let l = left_put c.put_labelled-place-2.ensures (left_put c.put_labelled-place.ensures (start (goal.at.put_labelled-place-requires-5 c).Start)) in
    left-fits (labelled (ascii " rings ") a.rings) (from_verdict a.euler) (left_put c.put_labelled-place-4.ensures (left_put c.put_labelled-place-3.ensures l))

pub put_text-requires : goal.put_text-requires
put_text-requires c =
    let w = goal.at.put_text-requires c in
    left-room (decided true c.if-euler.true (counted w.After-put_labelled-place-5 (start w.Start)))

pub returns-then-euler : goal.returns-then-euler
returns-then-euler c =
    let w = goal.at.returns-then-euler c in
    left-last c.put_text.ensures (decided true c.if-euler.true (counted w.After-put_labelled-place-5 (start w.Start)))

pub put_text-requires-2 : goal.put_text-requires-2
put_text-requires-2 c =
    let w = goal.at.put_text-requires-2 c in
    left-room (decided false c.if-euler.false (counted w.After-put_labelled-place-5 (start w.Start)))

pub returns : goal.returns
returns c =
    let w = goal.at.returns c in
    left-last c.put_text-2.ensures (decided false c.if-euler.false (counted w.After-put_labelled-place-5 (start w.Start)))
