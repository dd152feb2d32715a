-- A part of a list, from its first entry on, and what is picked of it; the stars of nodes as such parts.
use Prim.Native.Nat.{ℕ, suc, ◌+◌, ◌-◌, ◌*◌, ◌<◌, ◌≤◌}
use native.Mathlib.Omega.{arith}
use native.Mathlib.Numerals.{add-one}
use mathlib.Core.Path.{◌≡◌, ap, ◌∙◌, subst}
use mathlib.Core.Bool.{Bool, true, false}
use mathlib.Core.List.{List, [], ◌∷◌}
use lib.ListN.{length, get_or, take, drop, length-take, length-drop}
use lib.Seq.{drop-cons, get_or-take, get_or-drop}
use Rattle.lists.specs.Lists.{pick, In}
use Rattle.lists.proofs.Members.{in_at}
use Rattle.rules.specs.Cycles.{Arrangement, active_star}
use Rattle.rules.specs.Sane.{Sane}
use Rattle.rules.specs.State.{arrangement_in}
use Rattle.stars.specs.Grouped.{Grouped}
use Rattle.stars.specs.Groups.{unmarked, part, group_of, PartWithin, GroupsWithin}

-- nothing is left at the end
pub part_end : (from to : ℕ) (l : List ℕ) → to ≤ from → part from to l ≡ []
part_end from to l h = let e : to - from ≡ 0 = omega arith in rw e

-- the first entry, and the part from the next one on
pub part-cons : (from to : ℕ) (l : List ℕ) → from < to → to ≤ length l → part from to l ≡ get_or l from 0 ∷ part (from + 1) to l
part-cons from to l h k =
    let e : to - from ≡ suc (to - (from + 1)) = omega arith in
    rw (e, drop-cons l from 0 (omega arith), add-one from)

-- what stands within the part is a member of it
pub part_in : (from to i : ℕ) (l : List ℕ) → from ≤ i → i < to → to ≤ length l → In (get_or l i 0) (part from to l)
part_in from to i l a b k =
    let e : from + (i - from) ≡ i = omega arith in
    let s : get_or (part from to l) (i - from) 0 ≡ get_or l i 0 =
    get_or-take (to - from) (drop from l) (i - from) 0 (omega arith) ∙ get_or-drop from l (i - from) 0 ∙ ap (λ j. get_or l j 0) e in
    subst (λ x. In x (part from to l)) s
    (in_at (part from to l) (i - from) (omega (arith, length-take (to - from) (drop from l), length-drop from l)))

module _ (p : ℕ → Bool) (from to : ℕ) (l : List ℕ) (h : from < to) (k : to ≤ length l) where
  -- an entry that passes is picked
  pub part_yes : p (get_or l from 0) ≡ true → pick p (part from to l) ≡ get_or l from 0 ∷ pick p (part (from + 1) to l)
  part_yes e = ap (pick p) (part-cons from to l h k) ∙ rw e

  -- one that does not is passed over
  pub part_no : p (get_or l from 0) ≡ false → pick p (part from to l) ≡ pick p (part (from + 1) to l)
  part_no e = ap (pick p) (part-cons from to l h k) ∙ rw e

-- a part below a count is below every greater one
pub within_more : (a b from to : ℕ) (l : List ℕ) → a ≤ b → PartWithin a from to l → PartWithin b from to l
within_more a b from to l h w = record { rises = w.rises; ends = w.ends; low = λ x m. omega (arith, w.low x m) }

-- a node's part, by the two places that were read
module _ (offsets grouped : List ℕ) (n from to : ℕ) (a : from ≡ get_or offsets n 0) (b : to ≡ get_or offsets (n + 1) 0) where
  -- it is the node's group
  pub group_part : part from to grouped ≡ group_of offsets grouped n
  group_part = rw (a, b, add-one n)

  -- it lies within the groups
  pub group_within : (nodes count : ℕ) → GroupsWithin nodes count offsets grouped → n < nodes → PartWithin count from to grouped
  group_within nodes count w l = rw (a, b, add-one n) (w.each n l)

module _ (nodes edges : ℕ) (source : List ℕ) (marks : List Bool) (star offsets grouped : List ℕ)
    (groups : Grouped nodes source (take (2 * edges) star) offsets grouped) (sane : Sane (arrangement_in nodes edges source marks star)) where
  -- the arrangement of the tables
  abbrev held : Arrangement
  held = arrangement_in nodes edges source marks star

  -- what is picked of a node's group is its active star
  pub group_active : (n : ℕ) → n < nodes → pick (unmarked marks) (group_of offsets grouped n) ≡ active_star held n
  unfolding active_star
  group_active n l = ap (pick (unmarked marks)) (groups.stars n l)

  -- groups are parts of half-edges
  pub groups-within : GroupsWithin nodes (2 * edges) offsets grouped
  groups-within = record {
    room = groups.room;
    each = λ n l. record {
      rises = groups.rises n l;
      ends = groups.ends (suc n) l;
      low = λ h m. (sane.only n h l (subst (λ s. In h s) (groups.stars n l) m)).0;
    };
  }
