-- `is_marked` meets its contract: within the table it does not matter what stands past its end.
use Prim.Native.Nat.{ℕ, zero, suc, ◌<◌}
use native.Mathlib.Omega.{arith}
use mathlib.Core.Path.{◌≡◌, refl}
use mathlib.Core.Bool.{Bool, true, false}
use mathlib.Core.List.{[], List, ◌∷◌}
use lib.ListN.{length, get_or}
use Rattle.tables.proofs.is_marked.Goals as goal

-- one default or another
any-default : (l : List Bool) (i : ℕ) (d e : Bool) → i < length l → get_or l i d ≡ get_or l i e
any-default [] i d e h = absurd (omega arith)
any-default (x ∷ l) zero d e h = refl
any-default (x ∷ l) (suc i) d e h = any-default l i d e (omega arith)

pub returns : goal.returns
returns c = any-default c.args.marks.now c.args.i false true c.requires
