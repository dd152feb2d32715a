-- `canonical_coordinate_bits` meets its contract, at every float: a zero's pattern is 0, a NaN is written as `to_bits` writes it, and any other is its own pattern.
--
use Rattle.std.proofs.Common.{◌≡◌, Bool, true, false, cond, not, T, pos, sym, refl, ap, ◌∙◌, subst}
use lib.Ieee.{Float, nan, inf, fin, binary64, eq, ne, is_nan, to_bits, of_bits}
use lib.Ieee.Compare.{differs_from_itself, nan_differs}
use Rattle.geometry.specs.Coordinate.{canonical_bits}
use Rattle.geometry.proofs.coordinate.canonical_coordinate_bits.Goals as goal

no_nan : (x : Float) → ne x x ≡ false → T (not (is_nan x))
unfolding is_nan
no_nan nan e = subst T (sym nan_differs ∙ e) tt
no_nan (inf s) e = tt
no_nan (fin s m e) e' = tt

of_zero : (x : Float) → eq x (fin false 0 (pos 0)) ≡ true → 0 ≡ canonical_bits x
unfolding canonical_bits
of_zero x e = sym (ap (λ (t : Bool). cond t 0 (to_bits binary64 x)) e)

of_other : (x : Float) → eq x (fin false 0 (pos 0)) ≡ false → to_bits binary64 x ≡ canonical_bits x
unfolding canonical_bits
of_other x e = sym (ap (λ (t : Bool). cond t 0 (to_bits binary64 x)) e)

nan_pattern : 0x7ff8_0000_0000_0000 ≡ canonical_bits nan
unfolding canonical_bits eq to_bits
nan_pattern = refl

of_nan : (x : Float) → ne x x ≡ true → 0x7ff8_0000_0000_0000 ≡ canonical_bits x
of_nan x e = nan_pattern ∙ ap canonical_bits (sym (differs_from_itself x (subst T (sym e) tt)))

pub returns-then-value : goal.returns-then-value
unfolding of_bits
returns-then-value c = of_zero c.args.value c.if-value.true

pub returns-then-value-2 : goal.returns-then-value-2
returns-then-value-2 c = of_nan c.args.value c.if-value-2.true

pub float_to_bits-result : goal.float_to_bits-result
float_to_bits-result c = no_nan c.args.value c.if-value-2.false

pub returns : goal.returns
unfolding of_bits
returns c = of_other c.args.value c.if-value.false
