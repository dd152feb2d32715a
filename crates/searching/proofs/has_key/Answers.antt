-- `adding::search::has_key` meets its contract.
use borrow.Author.Tests.{eq-eqb, ne_eqb}
use mathlib.Core.Path.{sym}
use Rattle.rules.specs.Keys.{key_of}
use Rattle.searching.proofs.has_key.Goals as goal

pub returns-then-canonical_coordinate_bits-bits_x : goal.returns-then-canonical_coordinate_bits-bits_x
unfolding key_of
returns-then-canonical_coordinate_bits-bits_x c = rw (sym c.from-n.ensures, sym c.canonical_coordinate_bits.ensures, sym c.canonical_coordinate_bits-then-canonical_coordinate_bits-bits_x.ensures, eq-eqb _ _ c.if-canonical_coordinate_bits-bits_x.true)

pub returns-else-canonical_coordinate_bits-bits_x : goal.returns-else-canonical_coordinate_bits-bits_x
unfolding key_of
returns-else-canonical_coordinate_bits-bits_x c = rw (sym c.from-n.ensures, sym c.canonical_coordinate_bits.ensures, ne_eqb _ _ c.if-canonical_coordinate_bits-bits_x.false)
