-- `adding::same_key` meets its contract.
use borrow.Author.Tests.{eq-eqb, ne_eqb}
use mathlib.Core.Path.{sym}
use Rattle.rules.specs.Keys.{key_of}
use Rattle.adding.proofs.same_key.Goals as goal

pub returns-then-canonical_coordinate_bits : goal.returns-then-canonical_coordinate_bits
unfolding key_of
returns-then-canonical_coordinate_bits c = rw (sym c.canonical_coordinate_bits.ensures, sym c.canonical_coordinate_bits-2.ensures, sym c.canonical_coordinate_bits-then-canonical_coordinate_bits.ensures, sym c.canonical_coordinate_bits-then-canonical_coordinate_bits-2.ensures, eq-eqb _ _ c.if-canonical_coordinate_bits.true)

pub returns-else-canonical_coordinate_bits : goal.returns-else-canonical_coordinate_bits
unfolding key_of
returns-else-canonical_coordinate_bits c = rw (sym c.canonical_coordinate_bits.ensures, sym c.canonical_coordinate_bits-2.ensures, ne_eqb _ _ c.if-canonical_coordinate_bits.false)
