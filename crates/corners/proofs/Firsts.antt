-- The first of two by an order.
use Prim.Native.Nat.{ℕ}
use mathlib.Core.Path.{◌≡◌, refl}
use mathlib.Core.Logic.{inl, inr}
use mathlib.Core.Bool.{Bool, true, false}
use mathlib.Core.List.{List}
use lib.ListN.{get_or}
use lib.IntN.{ℤ, pos}
use lib.Signed.{lt_z}
use Rattle.lists.proofs.Counts.{by_test}
use Rattle.rules.proofs.Orders.{Order, order_int, order_by}
use Rattle.corners.specs.Nodes.{FirstOf}
use Rattle.corners.specs.Boxes.{lower, higher}

module _ (before : ℕ → ℕ → Bool) (order : Order before) (a b : ℕ) where
  -- nothing comes before itself
  pub before_self : (n : ℕ) → before n n ≡ false
  before_self n = by_test (before n n) (λ e. order.one_way n n e) (λ e. e)

  -- the second, where it comes before the first
  pub second-first : before b a ≡ true → FirstOf before a b b
  second-first e = record { one = inr refl; left = order.one_way b a e; right = before_self b }

  -- otherwise the first
  pub first-first : before b a ≡ false → FirstOf before a b a
  first-first e = record { one = inl refl; left = before_self a; right = e }

-- by the lesser entry
pub lower-order : (zs : List ℤ) → Order (lower zs)
lower-order zs = order_by (λ n. get_or zs n (pos 0)) lt_z order_int

-- by the greater entry
pub higher-order : (zs : List ℤ) → Order (higher zs)
higher-order zs = record {
  one_way = λ a b e. (lower-order zs).one_way b a e;
  goes_on_lem = λ a b c e f. (lower-order zs).goes_on_lem c b a f e;
}
