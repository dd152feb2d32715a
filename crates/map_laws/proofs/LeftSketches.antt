-- The arrangement of every sketch that calls make has its stars in angular order and their ends apart; so have the tables once they are
-- sorted, and sorting puts the stars of every sound state in order. So the successor keeps the face on the left in all of them.
use Prim.Native.Nat.{ℕ, ◌*◌, ◌<◌}
use native.Mathlib.Omega.{arith}
use mathlib.Core.Path.{◌≡◌, refl, sym, ap, ◌∙◌}
use mathlib.Core.Bool.{Bool}
use mathlib.Core.List.{List, map}
use lib.Dec.{eqb}
use lib.ListN.{length, get_or}
use Rattle.lists.specs.Lists.{upto, below, flatten, over, In, count_of}
use Rattle.lists.specs.Sort.{sorted}
use Rattle.lists.proofs.Counts.{by_eq, true_is_false}
use Rattle.lists.proofs.Sorting.{count-sorted, sorted_agree, sorted_again}
use Rattle.geometry.specs.Angle.{Point}
use Rattle.rules.specs.HalfEdge.{twin}
use Rattle.rules.specs.Angle.{angle_before}
use Rattle.rules.specs.Cycles.{Arrangement, halves, successor}
use Rattle.rules.specs.Sane.{Sane}
use Rattle.map_laws.specs.LeftFace.{end_at, KeepsLeft, Angular, Apart}
use Rattle.rules.specs.Limits.{Limits, Fine}
use Rattle.rules.specs.State.{State, star_of, arrangement, point_of}
use Rattle.geometry.specs.Reply.{success}
use Rattle.rules.specs.Adding.{Nothing}
use Rattle.rules.specs.Stages.{next, sorted_star, sort}
use Rattle.rules.specs.Sketch.{Sketch, Call, origin_of, point_at_lem, same_point_lem, sketched}
use Rattle.rules.specs.Claim.{World, AllReal, history, empty_sketch}
use Rattle.rules.proofs.PointLaws.{same_point_self, angle_strict}
use Rattle.rules.proofs.Twin.{twin-below, twin-first, twin-second, by_halves}
use Rattle.rules.proofs.Successor.{ends}
use Rattle.rules.proofs.Agreement.{Agree}
use Rattle.rules.proofs.Soundness.{Sound, is-sound}
use Rattle.rules.proofs.Tables.{sound-sane, target-source, star_of_in}
use Rattle.rules.proofs.Sketches.{Good, good-sane, origin-first, origin-second}
use Rattle.rules.proofs.Following.{sketch_star-is, tracks_agree}
use Rattle.rules.proofs.Simple.{Simple, one_way, sorted_star-is}
use Rattle.rules.proofs.Sorting.{star-sorted}
use Rattle.rules.proofs.Replies.{step-passed}
use Rattle.rules.proofs.Claims.{nodes_are}
use Rattle.rules.proofs.Histories.{Together, history_together, start_together}
use Rattle.map_laws.proofs.LeftFaces.{left-face}

-- ---- sketches

-- the stars of a sketch are in angular order
pub sketch_angular : (k : Sketch) → Angular (point_at_lem k) (sketched k)
unfolding sketched
sketch_angular k n l =
    let p : ℕ → ℕ → Bool = λ g h. angle_before (point_at_lem k n) (point_at_lem k (origin_of k (twin g))) (point_at_lem k (origin_of k (twin h))) in
    ap (sorted p) (sketch_star-is k n)
    ∙ sorted_again (λ h. Unit {0}) p (angle_strict (λ h. Unit {0}) (point_at_lem k n) (λ h. point_at_lem k (origin_of k (twin h)))) (below (λ h. eqb (origin_of k h) n) (2 * length k.lines)) (λ x m. tt)
    ∙ sym (sketch_star-is k n)

-- points at one place are one
same_place : (k : Sketch) → Simple k → (m n : ℕ) → m < length k.points → n < length k.points → point_at_lem k m ≡ point_at_lem k n → m ≡ n
same_place k simple m n lm ln e = by_eq m n (λ q. q) (λ d.
    absurd (true_is_false (sym (same_point_self (point_at_lem k m)) ∙ ap (same_point_lem (point_at_lem k m)) e ∙ simple.apart m n lm ln d)))

-- no line joins a point to itself
two_ends : (k : Sketch) → Simple k → (h : ℕ) → h < 2 * length k.lines → origin_of k (twin h) ≡ origin_of k h → ⊥
two_ends k simple = by_halves (λ h. origin_of k (twin h) ≡ origin_of k h → ⊥) (length k.lines)
    (λ i l e. simple.loopless i l (sym (origin-first k i) ∙ sym e ∙ ap (origin_of k) (twin-first i) ∙ origin-second k i))
    (λ i l e. simple.loopless i l (sym (origin-first k i) ∙ ap (origin_of k) (sym (twin-second i)) ∙ e ∙ origin-second k i))

-- their ends are apart
pub sketch-apart : (k : Sketch) → Good k → Simple k → Apart (point_at_lem k) (sketched k)
unfolding sketched
sketch-apart k good simple =
    let sane = good-sane k good in
    record {
      away = λ h l e. two_ends k simple h l (same_place k simple (origin_of k (twin h)) (origin_of k h) (ends (sketched k) sane h l) (sane.begins h l) e);
      differ = λ h i lh li e f. one_way k simple h i lh li e
          (same_place k simple (origin_of k (twin h)) (origin_of k (twin i)) (ends (sketched k) sane h lh) (ends (sketched k) sane i li) f);
    }

-- so the successor keeps the face on the left
pub sketch-left : (k : Sketch) → Good k → KeepsLeft (point_at_lem k) (sketched k) (successor (sketched k))
sketch-left k good = left-face (point_at_lem k) (sketched k) (sketch_angular k) (good-sane k good)

-- ---- tables

-- stars with the same members
sane-same : (g k : Arrangement) → g.nodes ≡ k.nodes → g.edges ≡ k.edges → ((h : ℕ) → h < halves g → g.origin h ≡ k.origin h)
    → ((h : ℕ) → h < halves g → g.active h ≡ k.active h) → ((n h : ℕ) → n < g.nodes → count_of h (g.star n) ≡ count_of h (k.star n)) → Sane k → Sane g
sane-same g k en ee eo ea es sane =
    let low : (h : ℕ) → h < halves g → h < halves k = λ h l. omega arith in
    record {
      begins = λ h l. omega (arith, eo h l, sane.begins h (low h l));
      has = λ h l. omega (arith, es (g.origin h) h (omega (arith, eo h l, sane.begins h (low h l))), ap (λ n. count_of h (k.star n)) (eo h l), sane.has h (low h l));
      only = λ n h l m.
          let r = sane.only n h (omega arith) (omega (arith, es n h l)) in
          let q : h < halves g = omega (arith, r.0) in
          (q, eo h q ∙ r.1);
      once = λ n l h. omega (arith, es n h l, sane.once n (omega arith) h);
      alike = λ h l. ea (twin h) (twin-below g.edges h l) ∙ sane.alike h (low h l) ∙ sym (ea h l);
    }

module _ (g k : Arrangement) (same : Agree g k) (sane : Sane k) (at points : ℕ → Point) (placed : (n : ℕ) → n < g.nodes → at n ≡ points n) where
  -- arrangements that agree
  agree_sane : Sane g
  agree_sane = sane-same g k same.nodes same.edges same.origin same.active (λ n h l. ap (count_of h) (same.star n l)) sane

  -- their half-edges end at the same points
  agree_end : (h : ℕ) → h < halves g → end_at at g h ≡ end_at points k h
  agree_end h l = placed (g.origin (twin h)) (ends g agree_sane h l) ∙ ap points (same.origin (twin h) (twin-below g.edges h l))

  -- their stars are in angular order together
  agree_angular : Angular points k → Angular at g
  agree_angular angular n l =
      let q : ℕ → ℕ → Bool = λ h i. angle_before (points n) (end_at points k h) (end_at points k i) in
      sorted_agree (λ h. h < halves g) (λ h i. angle_before (at n) (end_at at g h) (end_at at g i)) q
      (λ h i lh li. rw (placed n l, agree_end h lh, agree_end i li)) (g.star n) (λ h m. (agree_sane.only n h l m).0)
      ∙ ap (sorted q) (same.star n l) ∙ angular n (omega (arith, same.nodes)) ∙ sym (same.star n l)

-- the tables that follow a sketch, once they are sorted
pub tables-left : (w : World) → Together w → 0 < w.state.stage
    → Angular (point_of w.state) (arrangement w.state) × KeepsLeft (point_of w.state) (arrangement w.state) (successor (arrangement w.state))
tables-left w r l =
    let g = arrangement w.state in
    let k = sketched w.sketch in
    let same = tracks_agree w.state w.sketch r.tracks l in
    let sane = good-sane w.sketch r.good in
    let placed : (n : ℕ) → n < g.nodes → point_of w.state n ≡ point_at_lem w.sketch n = λ n q. r.tracks.points n (omega (arith, nodes_are w.state)) in
    let angular = agree_angular g k same sane (point_of w.state) (point_at_lem w.sketch) placed (sketch_angular w.sketch) in
    (angular, left-face (point_of w.state) g angular (agree_sane g k same sane (point_of w.state) (point_at_lem w.sketch) placed))

-- ---- every sound state

-- whose stars are in angular order
pub sound-left : (l : Limits) (s : State) → Sound l s → Angular (point_of s) (arrangement s) → KeepsLeft (point_of s) (arrangement s) (successor (arrangement s))
sound-left l s ok angular = left-face (point_of s) (arrangement s) angular (sound-sane l s ok)

-- marks, degrees and the stage do not matter to that
pub angular_stays : (s : State) (stage : ℕ) (degree : List ℕ) (node_mark half_mark : List Bool) → Angular (point_of s) (arrangement s)
    → Angular (point_of (next s stage degree node_mark half_mark s.star)) (arrangement (next s stage degree node_mark half_mark s.star))
unfolding arrangement point_of
angular_stays s stage degree node_mark half_mark angular = angular

module _ (l : Limits) (s : State) (ok : Sound l s) where
  -- the state after sorting
  abbrev sorted_state : State
  sorted_state = next s 1 s.degree s.node_mark s.half_mark (over (flatten (map (sorted_star s) (upto s.nodes))) s.star)

  -- a star of it
  star-after : (n : ℕ) → n < s.nodes → (arrangement sorted_state).star n ≡ sorted_star s n
  unfolding arrangement star_of
  star-after n q = star-sorted l s ok 1 n q

  -- a sorted star holds what the star did
  sorted_in : (n h : ℕ) → In h (sorted_star s n) → (h < 2 * s.edges) × (get_or s.source h 0 ≡ n)
  sorted_in n h m = star_of_in l s ok n h (omega (arith, count-sorted (λ g i. angle_before (point_of s n) (point_of s (get_or s.target g 0)) (point_of s (get_or s.target i 0))) h (star_of s n), ap (count_of h) (sorted_star-is s n)))

  -- it is in angular order
  sorted_angular : Angular (point_of sorted_state) (arrangement sorted_state)
  unfolding arrangement point_of
  sorted_angular n q =
      let to : ℕ → Point = λ h. point_of s (get_or s.target h 0) in
      let p : ℕ → ℕ → Bool = λ g h. angle_before (point_of s n) (to g) (to h) in
      let r : ℕ → ℕ → Bool = λ g h. angle_before (point_of s n) (point_of s (get_or s.source (twin g) 0)) (point_of s (get_or s.source (twin h) 0)) in
      ap (sorted r) (star-after n q)
      ∙ sorted_agree (λ h. h < 2 * s.edges) r p (λ g h lg lh. rw (target-source l s ok g lg, target-source l s ok h lh)) (sorted_star s n) (λ h m. (sorted_in n h m).0)
      ∙ ap (sorted p) (sorted_star-is s n)
      ∙ sorted_again (λ h. Unit {0}) p (angle_strict (λ h. Unit {0}) (point_of s n) to) (star_of s n) (λ x m. tt)
      ∙ sym (sorted_star-is s n) ∙ sym (star-after n q)

  -- and in order
  sorted-sane : Sane (arrangement sorted_state)
  unfolding arrangement
  sorted-sane = sane-same (arrangement sorted_state) (arrangement s) refl refl (λ h q. refl) (λ h q. refl)
      (λ n h q. ap (count_of h) (star-after n q ∙ sorted_star-is s n) ∙ count-sorted (λ g i. angle_before (point_of s n) (point_of s (get_or s.target g 0)) (point_of s (get_or s.target i 0))) h (star_of s n))
      (sound-sane l s ok)

-- sorting that succeeds puts the stars of every sound state in angular order, and the successor keeps the face on the left
pub sort-left : (l : Limits) (s : State) (a : Nothing) → (sort l s).reply ≡ success a
    → Angular (point_of (sort l s).state) (arrangement (sort l s).state) × KeepsLeft (point_of (sort l s).state) (arrangement (sort l s).state) (successor (arrangement (sort l s).state))
unfolding sort
sort-left l s a e =
    let p = step-passed l 0 s (record {}) _ a e in
    let ok = is-sound l s p.sense in
    rw p.gives (sorted_angular l s ok, left-face (point_of (sorted_state l s ok)) (arrangement (sorted_state l s ok)) (sorted_angular l s ok) (sorted-sane l s ok))

-- ---- every list of calls

-- from a new graph on, in the sketch and, once they are sorted, in the tables
pub calls-left : (l : Limits) → Fine l → (s : State) → s.nodes ≡ 0 → s.edges ≡ 0 → s.stage ≡ 0 → (calls : List Call) → AllReal calls
    → let w = history l calls (record { state = s; sketch = empty_sketch }) in
    Apart (point_at_lem w.sketch) (sketched w.sketch)
    × KeepsLeft (point_at_lem w.sketch) (sketched w.sketch) (successor (sketched w.sketch))
    × (0 < w.state.stage → KeepsLeft (point_of w.state) (arrangement w.state) (successor (arrangement w.state)))
calls-left l fine s n e y calls real =
    let w = history l calls (record { state = s; sketch = empty_sketch }) in
    let r = history_together l fine calls real (record { state = s; sketch = empty_sketch }) (start_together l fine s n e y) in
    (sketch-apart w.sketch r.good r.simple, sketch-left w.sketch r.good, λ q. (tables-left w r q).1)
