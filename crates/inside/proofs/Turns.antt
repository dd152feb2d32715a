-- The orientation of three points in signed 64 bits, for any bound on the coordinates whose products have room there.
use Rattle.std.proofs.Common.{◌≡◌, ℕ, zero, suc, ◌+◌, ◌*◌, ◌^◌, ◌<◌, ◌≤◌, ℤ, ◌-ℤ◌, ◌*ℤ◌, nat_abs, arith, w64, SFits}
use Rattle.geometry.specs.Angle.{Point, orientation}
use Rattle.inside.specs.Spots.{AllNear}
use Rattle.inside.proofs.Words.{word, Sized, given, fits, stored, minus, times}

-- the product of two differences, as the code computes it
abbrev product : ℤ → ℤ → ℤ → ℤ → ℤ
product x y z w = word (word x -ℤ word y) *ℤ word (word z -ℤ word w)

-- no number is above its square
square_above : (b : ℕ) → b ≤ b * b
square_above zero = omega arith
square_above (suc b) = omega arith

module _ (bound : ℕ) (room : 16 * (bound * bound) < 2 ^ 63) where
  -- the difference of two coordinates
  step : (x y : ℤ) → nat_abs x ≤ bound → nat_abs y ≤ bound → Sized (word x -ℤ word y) (x -ℤ y) (bound + bound)
  step x y h k =
      let l : bound < 2 ^ 63 = omega (arith, square_above bound) in
      minus (stored (given x bound h) l) (stored (given y bound k) l)

  -- it has room
  step_room : bound + bound < 2 ^ 63
  step_room = omega (arith, square_above bound)

  pub step_fits : (x y : ℤ) → nat_abs x ≤ bound → nat_abs y ≤ bound → SFits w64 (word x -ℤ word y)
  step_fits x y h k = fits (step x y h k) step_room

  module _ (a b p : Point) (near : AllNear bound a b p) where
    -- the two products, and their difference
    first : Sized (product b.x a.x p.y a.y) ((b.x -ℤ a.x) *ℤ (p.y -ℤ a.y)) ((bound + bound) * (bound + bound))
    first = times (stored (step b.x a.x near.1.0 near.0.0) step_room) (stored (step p.y a.y near.2.1 near.0.1) step_room)

    second : Sized (product b.y a.y p.x a.x) ((b.y -ℤ a.y) *ℤ (p.x -ℤ a.x)) ((bound + bound) * (bound + bound))
    second = times (stored (step b.y a.y near.1.1 near.0.1) step_room) (stored (step p.x a.x near.2.0 near.0.0) step_room)

    turn : Sized
        (word (product b.x a.x p.y a.y) -ℤ word (product b.y a.y p.x a.x))
        (orientation a b p)
        ((bound + bound) * (bound + bound) + (bound + bound) * (bound + bound))
    unfolding orientation
    turn = minus (stored first (omega arith)) (stored second (omega arith))

    -- they fit, and nothing is lost
    pub first_fits : SFits w64 (product b.x a.x p.y a.y)
    first_fits = fits first (omega arith)

    pub second_fits : SFits w64 (product b.y a.y p.x a.x)
    second_fits = fits second (omega arith)

    pub turn-fits : SFits w64 (word (product b.x a.x p.y a.y) -ℤ word (product b.y a.y p.x a.x))
    turn-fits = fits turn (omega arith)

    pub turn_is : word (word (product b.x a.x p.y a.y) -ℤ word (product b.y a.y p.x a.x)) ≡ orientation a b p
    turn_is = (stored turn (omega arith)).is
