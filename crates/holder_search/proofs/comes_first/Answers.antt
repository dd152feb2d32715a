-- `comes_first` meets its contract: by the doubled areas, then by the face numbers.
use native.Mathlib.Omega.{arith}
use mathlib.Core.Path.{◌≡◌, refl, sym, ap₂, ◌∙◌}
use mathlib.Core.Bool.{false}
use lib.ListN.{get_or}
use lib.Dec.{eqb, ltb}
use lib.Signed.{lt_z}
use mir.Syntax.{w64}
use mir.Val.{to_z, of_z}
use borrow.Author.Tests.{ne_eqb}
use Rattle.candidates.specs.Candidates.{number_at}
use Rattle.candidates.proofs.Numbers.{compared}
use Rattle.holder_search.proofs.Searching.{first_of_none}
use Rattle.holder_search.proofs.comes_first.Goals as goal
use Rattle.holder_search.proofs.comes_first.Goals.{After-doubled_of-other}

pub returns-then-best-count : goal.returns-then-best-count
returns-then-best-count c =
    let a = c.args in
    sym (first_of_none a.rings.now a.numbers.now a.ring_face.now a.count a.j a.best c.if-best-count.true)

-- there is a best so far
one : (c : After-doubled_of-other) → eqb c.args.best c.args.count ≡ false
one c = ne_eqb c.args.best c.args.count c.if-best-count.false

-- candidate j's area is compared with the best one's
mine_first : (c : After-doubled_of-other) → let a = c.args in
    lt_z (to_z w64 (of_z w64 c.doubled_of-mine.result)) (to_z w64 (of_z w64 c.doubled_of-other.result)) ≡ lt_z (number_at a.numbers.now a.j 4) (number_at a.numbers.now a.best 4)
mine_first c =
    let d = c.doubled_of-mine in
    let e = c.doubled_of-other in
    compared d.result e.result (record { sfits = d.type_inv }) (record { sfits = e.type_inv }) ∙ ap₂ lt_z d.ensures e.ensures

-- and the other way
other_first : (c : After-doubled_of-other) → let a = c.args in
    lt_z (to_z w64 (of_z w64 c.doubled_of-other.result)) (to_z w64 (of_z w64 c.doubled_of-mine.result)) ≡ lt_z (number_at a.numbers.now a.best 4) (number_at a.numbers.now a.j 4)
other_first c =
    let d = c.doubled_of-mine in
    let e = c.doubled_of-other in
    compared e.result d.result (record { sfits = e.type_inv }) (record { sfits = d.type_inv }) ∙ ap₂ lt_z e.ensures d.ensures

pub returns-then-smaller : goal.returns-then-smaller
returns-then-smaller c =
    let d = (goal.at.returns-then-smaller c).After-doubled_of-other in
    rw (one d, sym (mine_first d) ∙ c.if-smaller.true) refl

pub returns-then-larger : goal.returns-then-larger
returns-then-larger c =
    let d = (goal.at.returns-then-larger c).After-doubled_of-other in
    rw (one d, sym (mine_first d) ∙ c.if-smaller.false, sym (other_first d) ∙ c.if-larger.true) refl

pub bounds-ring_face-from : goal.bounds-ring_face-from
bounds-ring_face-from c = omega (arith, c.from.ensures, c.requires.4 c.args.j c.requires.0)

pub bounds-ring_face-from-2 : goal.bounds-ring_face-from-2
bounds-ring_face-from-2 c = omega (arith, c.from-2.ensures, c.requires.4 c.args.best (omega (arith, c.requires.1, c.if-best-count.false)))

pub returns : goal.returns
returns c =
    let d = (goal.at.returns c).After-doubled_of-other in
    let face = c.args.ring_face.now in
    rw (one d, sym (mine_first d) ∙ c.if-smaller.false, sym (other_first d) ∙ c.if-larger.false)
    (ap₂ (λ v w. ltb (get_or face v 0) (get_or face w 0)) c.from.ensures c.from-2.ensures)
