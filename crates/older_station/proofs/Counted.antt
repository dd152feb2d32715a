-- What a sound segment draws on the sketch that the tables follow: nothing where its edge is found, else its new ends and one line.
use Prim.Native.Nat.{suc, ◌+◌}
use native.Mathlib.Omega.{arith}
use mathlib.Core.Path.{◌≡◌, refl, sym, ap, subst, ◌∙◌}
use mathlib.Core.Bool.{Bool, true, false, cond}
use mathlib.Core.List.{[], ◌∷◌}
use lib.ListN.{length, length-append}
use Rattle.geometry.specs.Angle.{Point}
use Rattle.geometry.specs.Reply.{success}
use Rattle.geometry.specs.declared.Line3D.{Line3D}
use Rattle.rules.specs.Limits.{Limits, Fine}
use Rattle.rules.specs.State.{State}
use Rattle.rules.specs.Adding.{Added, add}
use Rattle.rules.specs.Sketch.{Sketch, adding, with_point, with_line, sketch_add, feed}
use Rattle.rules.specs.Claim.{is_refused, call, history, Given64}
use Rattle.rules.proofs.AddCases.{u, v, nu, nv, Tested}
use Rattle.rules.proofs.Joining.{half-joins}
use Rattle.rules.proofs.Additions.{P, Q, sketch-is, old-sketch}
use Rattle.rules.proofs.Histories.{Together, history_together}
use Rattle.older_station.proofs.Searched.{nodes_with, there}

-- ---- points and lines more

-- a point
points_with : (b : Bool) (p : Point) (k : Sketch) → length (with_point b p k).points ≡ length k.points + cond b 1 0
points_with true p k = length-append k.points (p ∷ [])
points_with false p k = omega arith

-- and no line
lines_with : (b : Bool) (p : Point) (k : Sketch) → (with_point b p k).lines ≡ k.lines
lines_with true p k = refl
lines_with false p k = refl

-- a segment that was not refused is drawn
drawn-is : (g : Line3D) (k : Sketch) → feed false (adding g) k ≡ sketch_add g k
unfolding feed
drawn-is g k = refl

-- ---- a sound segment

module _ (l : Limits) (g : Line3D) (s : State) (k : Sketch) (fine : Fine l) (real : Given64 g) (w : Together (record { state = s; sketch = k })) (d : Tested l g s) where
  -- its edge is found: nothing is new
  pub found_draws : there g s ≡ true → feed false (adding g) k ≡ k
  found_draws t =
      drawn-is g k
      ∙ old-sketch g s l k fine.keys real w.good w.simple w.tracks d (sym (half-joins l s d.ok k w.tracks (u g s) (v g s)) ∙ t)

  -- it is not: the sketch with both ends and the line
  abbrev ended : Sketch
  ended = with_point (nv g s) (Q g s) (with_point (nu g s) (P g s) k)

  new_is : there g s ≡ false → feed false (adding g) k ≡ with_line false (u g s) (v g s) ended
  new_is t =
      drawn-is g k ∙ sketch-is g s l k fine.keys real w.good w.simple w.tracks d
      ∙ ap (λ z. with_line z (u g s) (v g s) ended) (sym (half-joins l s d.ok k w.tracks (u g s) (v g s)) ∙ t)

  -- as many points as there would be nodes
  pub new-points : there g s ≡ false → length (feed false (adding g) k).points ≡ nodes_with g s
  new-points t =
      ap (λ z. length z.points) (new_is t)
      ∙ omega (arith, points_with (nv g s) (Q g s) (with_point (nu g s) (P g s) k), points_with (nu g s) (P g s) k, w.tracks.nodes)

  -- and one line more than there are edges
  pub new-lines : there g s ≡ false → length (feed false (adding g) k).lines ≡ suc s.edges
  new-lines t =
      ap (λ z. length z.lines) (new_is t)
      ∙ omega (
        arith,
        length-append ended.lines (record { from = u g s; to = v g s; marked = false } ∷ []),
        ap length (lines_with (nv g s) (Q g s) (with_point (nu g s) (P g s) k) ∙ lines_with (nu g s) (P g s) k),
        w.tracks.edges,
      )

-- ---- what it leaves

-- an addition keeps tables and sketch together
add_together : (l : Limits) → Fine l → (g : Line3D) → Given64 g → (s : State) (k : Sketch) → Together (record { state = s; sketch = k })
    → Together (record { state = (add l g s).state; sketch = feed (is_refused (add l g s).reply) (adding g) k })
unfolding history call
add_together l fine g real s k w = history_together l fine (adding g ∷ []) (real, tt) (record { state = s; sketch = k }) w

-- one that was not refused
pub added_together : (l : Limits) → Fine l → (g : Line3D) → Given64 g → (s : State) (k : Sketch) → Together (record { state = s; sketch = k })
    → (a : Added) → (add l g s).reply ≡ success a → Together (record { state = (add l g s).state; sketch = feed false (adding g) k })
added_together l fine g real s k w a e =
    subst (λ r. Together (record { state = (add l g s).state; sketch = feed (is_refused r) (adding g) k })) e (add_together l fine g real s k w)
