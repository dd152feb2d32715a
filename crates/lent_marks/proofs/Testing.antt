-- The tests of bytes: number 6 by the number of bytes, and the order of the two numbers.
use Prim.Native.Nat.{ℕ, ◌≤◌}
use native.Mathlib.Omega.{arith}
use mathlib.Core.Path.{◌≡◌, refl, sym, ap, ◌∙◌}
use mathlib.Core.Bool.{Bool, true, false, ◌&&◌, cond}
use mathlib.Core.List.{List, map}
use lib.Dec.{leb}
use lib.Ieee.{Float}
use lib.ListN.{length, length-take, length-map}
use borrow.Author.Tests.{le-leb, lt-leb}
use Rattle.lists.proofs.Counts.{by_lt}
use Rattle.rules.specs.Limits.{Limits}
use Rattle.rules.specs.State.{State, roomy}
use Rattle.rules.specs.Adding.{Outcome, demand}
use Rattle.tables.specs.declared.PlanarGraph.{PlanarGraph}
use Rattle.tables.specs.Regions.{least_floats, least_numbers, least_stars, least_marks, least_ids}
use Rattle.tables.proofs.SliceRoom.{room-is, room_of}
use Rattle.tables.specs.declared.Refusal.{Refusal}
use Rattle.tables.specs.declared.Refusal.TheVariants.{TableTooShort, Unsound}
use Rattle.calls.specs.Checks.{Checked, passed, due}
use Rattle.calls.proofs.Shells.{turned_down_lem, never}
use Rattle.lent_marks.specs.Marks.{is_set, marks_in, lent_state}

-- how many marks the bytes hold
marks-long : (l : Limits) (bytes : List ℕ) → leb (least_marks l) (length bytes) ≡ leb (least_marks l) (length (marks_in l bytes))
marks-long l bytes =
    let n = least_marks l in
    let m = length (marks_in l bytes) in
    let size = length-take n (map is_set bytes) in
    let all = length-map bytes is_set in
    by_lt (length bytes) n
    (λ h. lt-leb n (length bytes) h ∙ sym (lt-leb n m (omega arith)))
    (λ h. le-leb n (length bytes) h ∙ sym (le-leb n m (omega arith)))

module _ (l : Limits) (g : PlanarGraph) (floats : List Float) (numbers stars bytes ids : List ℕ) where
  -- number 6 is the lengths of the slices, the bytes' among them
  pub lent-room-is : (leb (least_floats l) (length floats)
      && leb (least_numbers l) (length numbers)
      && leb (least_stars l) (length stars)
      && leb (least_marks l) (length bytes)
      && leb (least_ids l) (length ids))
      ≡ roomy l (lent_state l g floats numbers stars bytes ids)
  lent-room-is =
      (λ i. leb (least_floats l) (length floats)
      && leb (least_numbers l) (length numbers)
      && leb (least_stars l) (length stars)
      && marks-long l bytes i
      && leb (least_ids l) (length ids))
      ∙ room-is l g floats numbers stars (marks_in l bytes) ids

  -- where it passes, there are bytes enough
  pub bytes-room : roomy l (lent_state l g floats numbers stars bytes ids) ≡ true → least_marks l ≤ length bytes
  bytes-room e =
      let r = room_of l g floats numbers stars (marks_in l bytes) ids e in
      omega (arith, r.mark_room, length-take (least_marks l) (map is_set bytes), length-map bytes is_set)

-- ---- the order of the two numbers

-- what is due, by what the two tests came to
abbrev pub checked_by : Bool → Bool → Checked
checked_by roomy plain = cond roomy (cond plain passed (due Unsound)) (due TableTooShort)

-- one that was refused has one reason
same : {why why' : Refusal} → due why ≡ due why' → why ≡ why'
same q = cc

-- the tests passed
pub checked_passed : (a b : Bool) → passed ≡ checked_by a b → (a ≡ true) × (b ≡ true)
checked_passed false b e = absurd (never e)
checked_passed true false e = absurd (never e)
checked_passed true true e = (refl, refl)

-- the first that failed gives its refusal and leaves everything
pub checked_refused : {A L : Type 0} (s : State) (lists : L) (o : Outcome A L) (a b : Bool) (why : Refusal) → due why ≡ checked_by a b
    → turned_down_lem why s lists ≡ demand a 6 s lists (demand b 7 s lists o)
checked_refused s lists o false b why e = ap (λ z. turned_down_lem z s lists) (same e)
checked_refused s lists o true false why e = ap (λ z. turned_down_lem z s lists) (same e)
checked_refused s lists o true true why e = absurd (never (sym e))
