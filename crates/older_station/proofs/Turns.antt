-- One sound segment at both stations: they say the same, and the drawing with it is within the older limits, or the older one refuses it
-- by 3 or 4 because the drawing with it is not.
use Prim.Native.Nat.{ℕ, suc, ◌<◌, ◌≤◌}
use native.Mathlib.Omega.{arith}
use mathlib.Core.Path.{◌≡◌, refl, sym, subst}
use mathlib.Core.Bool.{Bool, true, false, ◌||◌}
use lib.Dec.{ltb, leb}
use lib.ListN.{length}
use borrow.Author.Tests.{ltb-true, ltb-false, leb-true, leb-false, lt-ltb, le-leb}
use Rattle.geometry.specs.Reply.{success}
use Rattle.geometry.specs.declared.Line3D.{Line3D}
use Rattle.lists.proofs.Counts.{true_is_false}
use Rattle.rules.specs.Limits.{Limits, Fine}
use Rattle.rules.specs.State.{State}
use Rattle.rules.specs.Adding.{Outcome, demand, Added, Nothing, add}
use Rattle.rules.specs.Sketch.{Sketch, adding, feed}
use Rattle.rules.specs.Claim.{Given64}
use Rattle.rules.proofs.AddCases.{refusal, found, made, known}
use Rattle.rules.proofs.NodeSound.{Steady}
use Rattle.rules.proofs.Histories.{Together}
use Rattle.older_station.specs.Drawing.{Within, sound_segment}
use Rattle.older_station.proofs.Widening.{widened}
use Rattle.older_station.proofs.Searched.{free, on_found, on_new, nodes_with, there, either, tested, add_searched}
use Rattle.older_station.proofs.Counted.{found_draws, new-points, new-lines}

-- what an addition comes to at the older station (o) and at the newer one (n), with m drawn
pub data Turn (old : Limits) (g : Line3D) (s : State) (m : Sketch) (o n : Outcome Added Nothing) : Type 0 where
  goes : (a : Added) → o.reply ≡ success a → n ≡ o → Within old m → Turn old g s m o n
  lacking : o ≡ refusal old g s 12 → n ≡ o → Within old m → Turn old g s m o n
  many_points : o ≡ refusal old g s 3 → old.nodes < length m.points → Turn old g s m o n
  many_lines : o ≡ refusal old g s 4 → length m.points ≤ old.nodes → old.edges < length m.lines → Turn old g s m o n

-- ---- by the tests

module _ (old : Limits) (g : Line3D) (s : State) (m : Sketch) where
  -- a test of 12 that both make: the same comes of it
  by_twelve : (b : Bool) (o : Outcome Added Nothing) (a : Added) → o.reply ≡ success a → Within old m
      → Turn old g s m (demand b 12 s (record {}) o) (demand b 12 s (record {}) o)
  by_twelve true o a e w = goes a e refl w
  by_twelve false o a e w = lacking refl refl w

  -- 3 and 4: where the older station passes them, so does the newer one
  by_tests : (x y : Outcome Added Nothing) (there a c a₂ c₂ : Bool) → (a ≡ true → a₂ ≡ true) → (c ≡ true → c₂ ≡ true)
      → (there ≡ true → Turn old g s m x x)
      → (there ≡ false → a ≡ true → c ≡ true → Turn old g s m y y)
      → (there ≡ false → a ≡ false → old.nodes < length m.points)
      → (there ≡ false → a ≡ true → c ≡ false → (length m.points ≤ old.nodes) × (old.edges < length m.lines))
      → Turn old g s m (either s x y there a c) (either s x y there a₂ c₂)
  by_tests x y true a c a₂ c₂ p q f n t r = f refl
  by_tests x y false false c a₂ c₂ p q f n t r = many_points refl (t refl refl)
  by_tests x y false true false a₂ c₂ p q f n t r = let z = r refl refl refl in many_lines refl z.0 z.1
  by_tests x y false true true true true p q f n t r = n refl refl refl
  by_tests x y false true true false c₂ p q f n t r = absurd (true_is_false (sym (p refl)))
  by_tests x y false true true true false p q f n t r = absurd (true_is_false (sym (q refl)))

-- ---- a sound segment

module _ (old : Limits) (nodes edges : ℕ) (more : old.nodes ≤ nodes) (longer : old.edges ≤ edges) (fine : Fine old) where
  -- the newer limits
  abbrev new : Limits
  new = widened old nodes edges

  -- ONE SEGMENT AT BOTH STATIONS
  pub turn : (g : Line3D) → Given64 g → sound_segment old.bound g ≡ true → (s : State) (k : Sketch) → Steady old s → Steady new s
      → Together (record { state = s; sketch = k }) → Turn old g s (feed false (adding g) k) (add old g s) (add new g s)
  turn g real h s k t t₂ w =
      let m = feed false (adding g) k in
      let d = tested old g s t h in
      let fits : there g s ≡ true → Within old m = λ e.
      subst (Within old) (sym (found_draws old g s k fine real w d e)) (omega (arith, w.tracks.nodes, t.sense.nodes), omega (arith, w.tracks.edges, t.sense.edges)) in
      let points : there g s ≡ false → length m.points ≡ nodes_with g s = new-points old g s k fine real w d in
      let lines : there g s ≡ false → length m.lines ≡ suc s.edges = new-lines old g s k fine real w d in
      subst (λ o. Turn old g s m o (add new g s)) (sym (add_searched old g s t h))
      (subst (Turn old g s m _) (sym (add_searched new g s t₂ h))
      (by_tests old g s m (on_found old g s) (on_new old g s) (there g s)
      (leb (nodes_with g s) old.nodes) (ltb s.edges old.edges) (leb (nodes_with g s) nodes) (ltb s.edges edges)
      (λ e. le-leb (nodes_with g s) nodes (omega (arith, leb-true (nodes_with g s) old.nodes e)))
      (λ e. lt-ltb s.edges edges (omega (arith, ltb-true s.edges old.edges e)))
      (λ e. by_twelve old g s m (known old g s || free old g s) (found old g s) _ refl (fits e))
      (λ e a c. by_twelve old g s m (free old g s) (made old g s) _ refl
      (omega (arith, points e, leb-true (nodes_with g s) old.nodes a), omega (arith, lines e, ltb-true s.edges old.edges c)))
      (λ e a. omega (arith, points e, leb-false (nodes_with g s) old.nodes a))
      (λ e a c. (omega (arith, points e, leb-true (nodes_with g s) old.nodes a), omega (arith, lines e, ltb-false s.edges old.edges c)))))
