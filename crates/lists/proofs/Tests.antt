-- Laws of && and || : what a test of two parts says of each, and what each says of it.
use mathlib.Core.Path.{◌≡◌, refl, sym, ap, ◌∙◌}
use mathlib.Core.Bool.{Bool, true, false, ◌&&◌, ◌||◌, and-false}
use Rattle.lists.proofs.Counts.{true_is_false}

-- both parts of a test
pub both : (a b : Bool) → (a && b) ≡ true → (a ≡ true) × (b ≡ true)
both true b e = (refl, e)
both false b e = absurd (true_is_false (sym e))

-- both parts hold
pub both_true : (a b : Bool) → a ≡ true → b ≡ true → (a && b) ≡ true
both_true a b p q = λ i. p i && q i

-- the first part fails
pub no_left : (a b : Bool) → a ≡ false → (a && b) ≡ false
no_left a b e = ap (λ (t : Bool). t && b) e

-- the second part fails
pub no_right : (a b : Bool) → b ≡ false → (a && b) ≡ false
no_right a b e = ap (λ (t : Bool). a && t) e ∙ and-false a

-- the second of two holds
pub or_right : (a b : Bool) → b ≡ true → (a || b) ≡ true
or_right true b e = refl
or_right false b e = e

-- neither of two holds
pub neither : (a b : Bool) → (a || b) ≡ false → (a ≡ false) × (b ≡ false)
neither true b e = absurd (true_is_false e)
neither false b e = (refl, e)

-- a part without which the whole fails
pub part : (x whole : Bool) → whole ≡ true → (x ≡ false → whole ≡ false) → x ≡ true
part true whole e h = refl
part false whole e h = absurd (true_is_false (sym e ∙ h refl))
