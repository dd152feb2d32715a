-- What the entries leave that ask for an angular order or a least rotation.
use Prim.Native.Nat.{ℕ, Ordering}
use Rattle.std.specs.Prelude.{List, [], ◌∷◌, Float}
use Rattle.std.specs.Float.{binary64}
use Rattle.std.specs.Float.Ieee.{of_bits}
use Rattle.geometry.specs.Reply.{Reply, refused, success}
use Rattle.geometry.specs.declared.Coord3D.{Coord3D}
use Rattle.rotation.specs.Answers.{Start}

-- the number answered, and the values of the reply
pub record Told : Type 0 where
  pub number : ℕ
  pub reply : List ℕ

abbrev pub told_by : ℕ → List ℕ → Told
told_by number reply = record { number = number; reply = reply }

-- 0 before, 1 at one place, 2 after
abbrev pub order_number_lem : Ordering → ℕ
order_number_lem Ordering.lt = 0
order_number_lem Ordering.eq = 1
order_number_lem Ordering.gt = 2

abbrev pub told_order : List ℕ → Reply Ordering → Told
told_order reply (refused n) = told_by n reply
told_order reply (success o) = told_by 0 (order_number_lem o ∷ [])

-- the place and the comparisons
abbrev pub told_start : List ℕ → Reply Start → Told
told_start reply (refused n) = told_by n reply
told_start reply (success s) = told_by 0 (s.place ∷ s.compared ∷ [])

-- a point of the plane
abbrev pub flat : Float → Float → Coord3D
flat x y = record { x = x; y = y; z = of_bits binary64 0 }
