-- `is_planar` meets its contract.
use Rattle.std.proofs.Common.{◌≡◌, Bool, true, false, ◌&&◌, sym, ap, ◌∙◌}
use Rattle.geometry.specs.Angle.{planar}
use Rattle.geometry.proofs.coordinate.is_planar.Goals as goal

-- `a && b` from what the code returns
second : (r s a b : Bool) → r ≡ true → r ≡ a → s ≡ b → s ≡ (a && b)
second r s a b t p q = q ∙ ap (λ (u : Bool). u && b) (sym t ∙ p)

first : (r a b : Bool) → r ≡ false → r ≡ a → r ≡ (a && b)
first r a b t p = t ∙ ap (λ (u : Bool). u && b) (sym t ∙ p)

pub returns-then-is_coordinate : goal.returns-then-is_coordinate
unfolding planar
returns-then-is_coordinate c = second _ _ _ _ c.if-is_coordinate.true c.is_coordinate.ensures c.is_coordinate-then-is_coordinate.ensures

pub returns-else-is_coordinate : goal.returns-else-is_coordinate
unfolding planar
returns-else-is_coordinate c = first _ _ _ c.if-is_coordinate.false c.is_coordinate.ensures
