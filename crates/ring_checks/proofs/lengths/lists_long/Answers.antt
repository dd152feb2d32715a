-- `lists_long` meets its contract.
use mathlib.Core.Path.{◌≡◌}
use mathlib.Core.Bool.{Bool, ◌&&◌, and_assoc}
use lib.Dec.{leb}
use lib.ListN.{length}
use Rattle.ring_checks.proofs.lengths.lists_long.Goals as goal

-- a row of tests, from the left and from the right
regroup : (a b d e f g : Bool) → (a && b && d && e && f && g) ≡ (a && (b && (d && (e && (f && g)))))
regroup a b d e f g = simp and_assoc

pub returns : goal.returns
returns c =
    let a = c.args in
    regroup
    (leb a.halves (length a.half_edges.now))
    (leb a.halves (length a.ring_first.now))
    (leb a.halves (length a.ring_length.now))
    (leb a.halves (length a.ring_face.now))
    (leb a.halves (length a.ring_side.now))
    (leb a.halves (length a.ring_area.now))
