-- `lookup::nodes::node_code` meets its contract.
use mathlib.Core.Path.{ap₂, ◌∙◌}
use Rattle.rules.specs.Keys.{key_of}
use Rattle.lookup.specs.Codes.{key_code_lem}
use Rattle.lookup.proofs.nodes.node_code.Goals as goal

pub returns : goal.returns
unfolding key_of
returns c =
    c.key_code.ensures
    ∙ ap₂ (λ x y. key_code_lem (record { x = x; y = y })) c.canonical_coordinate_bits-bits_x.ensures c.canonical_coordinate_bits-bits_y.ensures
