-- The list of holes, which grows by one open ring at a time.
use Prim.Native.Nat.{ℕ, zero, suc, ◌+◌, ◌<◌, ◌≤◌}
use native.Mathlib.Omega.{arith}
use native.Mathlib.Numerals.{add-one}
use mathlib.Core.Path.{◌≡◌, refl, sym, ap, ◌∙◌}
use mathlib.Core.Bool.{Bool, true, false}
use mathlib.Core.List.{List, [], ◌∷◌, ◌++◌, map, map-append}
use lib.IntN.{ℤ}
use lib.ListN.{length, get_or, take, set, replicate, length-set, length-replicate, length-append}
use lib.Seq.{take-suc-set}
use lib.Dec.{eqb}
use lib.Ieee.{Float, nan}
use Rattle.lists.specs.Lists.{below}
use Rattle.lists.proofs.Counts.{below_yes, below_no, below_less, below_mono}
use Rattle.rules.specs.Limits.{limits, shaped_rings}
use Rattle.rules.specs.Face.{Ring}
use Rattle.rules.specs.Holes as rules
use Rattle.rules.specs.Holes.{is_open_lem, ring_at, holder_of_lem, holes_of}
use Rattle.holes.specs.declared.Hole.{Hole}
use Rattle.holes.specs.Lent.{hole_of}
use Rattle.ring_lists.specs.Shown.{HalfOf}
use Rattle.inside.specs.Spots.{spot_in}
use Rattle.holding.specs.Maps.{origins, Map}
use Rattle.holding.specs.Holding.{Stamps}
use Rattle.holder_search.specs.Search.{Field}
use Rattle.hole_listing.specs.Listing.{OpenListed}

-- zeros read 0 wherever they are read
pub zeros_read : (n i : ℕ) → ◌≡◌ {A = ℕ} (get_or (replicate n 0) i 0) 0
zeros_read zero i = refl
zeros_read (suc n) zero = refl
zeros_read (suc n) (suc i) = zeros_read n i

-- ---- the list

-- the rings to record
abbrev chosen : List Ring → ℕ → Bool
chosen rs i = is_open_lem (ring_at rs i)

-- the number of ring i's holder
abbrev pub holder_at : Map → List Ring → ℕ → ℕ
holder_at m rs i = holder_of_lem (spot_in m.xs m.ys) (origins m.source) rs (ring_at rs i)

-- the hole of ring i
abbrev hole_at : Map → List Ring → ℕ → rules.Hole
hole_at m rs i = record { ring = i; holder = holder_at m rs i; doubled = (ring_at rs i).doubled }

-- the first k records are the holes of the open ones among the first i rings, and every stamp is a ring's
pub record Listed (rs : List Ring) (m : Map) (bound i : ℕ) (list : List Hole) (stamps : List ℕ) (k : ℕ) : Type 0 where
  pub many : k ≡ length (below (chosen rs) i)
  pub holes : map hole_of (take k list) ≡ map (hole_at m rs) (below (chosen rs) i)
  pub stamped : Stamps rs m.source bound stamps

-- before the first ring: no record, and no stamp
listed-none : {rs : List Ring} {m : Map} {bound : ℕ} → bound ≤ limits.nodes → (list : List Hole) → Listed rs m bound 0 list (replicate limits.nodes 0) 0
listed-none small list = record {
  many = refl;
  holes = refl;
  stamped = record {
    room = omega (arith, length-replicate {A = ℕ} limits.nodes 0);
    few = omega (arith, length-replicate {A = ℕ} limits.nodes 0);
    mine = λ n i e. absurd (omega (arith, e, zeros_read limits.nodes n));
  };
}

module _ {rs : List Ring} {m : Map} {bound : ℕ} {side : List ℕ} {area : List Float} {count i k : ℕ} {list : List Hole} {stamps : List ℕ}
    (given : OpenListed rs side area count) (old : Listed rs m bound i list stamps k) where
  -- there are never more records than rings with an area
  pub listed-few : i ≤ count → k ≤ shaped_rings limits
  listed-few low = omega (arith, below_mono (chosen rs) i count low, old.many, given.few)

  -- once all rings are gone through, the records are the holes
  pub listed-all : i ≡ count → map hole_of (take k list) ≡ holes_of (spot_in m.xs m.ys) (origins m.source) rs
  unfolding holes_of
  listed-all e = old.holes ∙ ap (λ n. map (hole_at m rs) (below (chosen rs) n)) (e ∙ given.counted)

  -- a ring that is not open is passed over
  listed-other : i < count → eqb (get_or side i 0) 2 ≡ false → Listed rs m bound (i + 1) list stamps k
  listed-other low e =
      let same : below (chosen rs) (i + 1) ≡ below (chosen rs) i = ap (below (chosen rs)) (add-one i) ∙ below_no (chosen rs) i (sym (given.sided i low) ∙ e) in
      record { many = old.many ∙ ap length (sym same); holes = old.holes ∙ ap (map (hole_at m rs)) (sym same); stamped = old.stamped }

  module _ (low : i < count) (e : eqb (get_or side i 0) 2 ≡ true) where
    -- for an open ring's record there is room
    pub listed-room : k < shaped_rings limits
    listed-room = omega (arith, below_less (chosen rs) i count low (sym (given.sided i low) ∙ e), old.many, given.few)

    -- it comes last
    listed-one : length list ≡ shaped_rings limits → (h : Hole) → hole_of h ≡ hole_at m rs i → {after : List ℕ} → Stamps rs m.source bound after
        → Listed rs m bound (i + 1) (set list k h) after (k + 1)
    listed-one long h new marked =
        let more : below (chosen rs) (i + 1) ≡ below (chosen rs) i ++ (i ∷ []) = ap (below (chosen rs)) (add-one i) ∙ below_yes (chosen rs) i (sym (given.sided i low) ∙ e) in
        record {
          many = omega (arith, ap length more, length-append (below (chosen rs) i) (i ∷ []), old.many);
          holes =
              ap (λ n. map hole_of (take n (set list k h))) (add-one k)
              ∙ ap (map hole_of) (take-suc-set list k h (omega (arith, listed-room)))
              ∙ map-append hole_of (take k list) (h ∷ [])
              ∙ (λ t. old.holes t ++ (new t ∷ []))
              ∙ sym (map-append (hole_at m rs) (below (chosen rs) i) (i ∷ []))
              ∙ ap (map (hole_at m rs)) (sym more);
          stamped = marked;
        }

-- ---- the loop

-- the open ones of the first i rings are recorded, whatever rings these are
pub record Gone (m : Map) (slope : ℕ) (rings : List ℕ) (numbers : List ℤ) (candidates : ℕ) (side : List ℕ) (area : List Float) (count i : ℕ) (list : List Hole) (stamps : List ℕ) (k : ℕ) : Type 0 where
  pub goes : i ≤ count
  pub same_list : length list ≡ shaped_rings limits
  pub same_stamps : length stamps ≡ limits.nodes
  pub listed : (rs : List Ring) (bound : ℕ) → Field rs m bound slope rings numbers candidates → OpenListed rs side area count → bound ≤ limits.nodes → Listed rs m bound i list stamps k

module _ {m : Map} {slope : ℕ} {rings : List ℕ} {numbers : List ℤ} {candidates : ℕ} {side : List ℕ} {area : List Float} {count : ℕ} where
  -- before the first turn
  pub gone_none : {list : List Hole} → length list ≡ shaped_rings limits → Gone m slope rings numbers candidates side area count 0 list (replicate limits.nodes 0) 0
  gone_none {list} e = record {
    goes = omega arith;
    same_list = e;
    same_stamps = length-replicate {A = ℕ} limits.nodes 0;
    listed = λ rs bound field given small. listed-none small list;
  }

  module _ {i k : ℕ} {list : List Hole} {stamps : List ℕ} (low : i < count) (old : Gone m slope rings numbers candidates side area count i list stamps k) where
    -- a turn at another ring
    pub gone_other : eqb (get_or side i 0) 2 ≡ false → Gone m slope rings numbers candidates side area count (i + 1) list stamps k
    gone_other e = record {
      goes = omega arith;
      same_list = old.same_list;
      same_stamps = old.same_stamps;
      listed = λ rs bound field given small. listed-other given (old.listed rs bound field given small) low e;
    }

    -- a turn at an open ring, whose holder and doubled area were found
    pub gone_one : eqb (get_or side i 0) 2 ≡ true → (holder : ℕ) (doubled : ℤ) (after : List ℕ) → length after ≡ length stamps
        → ((rs : List Ring) (bound : ℕ) → Field rs m bound slope rings numbers candidates → i < length rs → holder ≡ holder_at m rs i)
        → ((z : ℤ) → HalfOf (get_or area i nan) z → doubled ≡ z)
        → ((rs : List Ring) (bound : ℕ) → Field rs m bound slope rings numbers candidates → Stamps rs m.source bound stamps → Stamps rs m.source bound after)
        → Gone m slope rings numbers candidates side area count (i + 1) (set list k (record { ring = i; holder = holder; doubled = doubled })) after (k + 1)
    gone_one e holder doubled after same found half kept = record {
      goes = omega arith;
      same_list = length-set list k _ ∙ old.same_list;
      same_stamps = same ∙ old.same_stamps;
      listed = λ rs bound field given small.
          let l = old.listed rs bound field given small in
          let f = found rs bound field (omega (arith, low, given.counted)) in
          let d = half (ring_at rs i).doubled (given.halved i low) in
          listed-one given l low e old.same_list (record { ring = i; holder = holder; doubled = doubled })
          (λ t. record { ring = i; holder = f t; doubled = d t })
          (kept rs bound field l.stamped);
    }
