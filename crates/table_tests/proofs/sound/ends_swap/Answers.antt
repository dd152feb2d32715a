-- `ends_swap` meets its contract.
use Prim.Native.Nat.{◌+◌, ◌*◌}
use mathlib.Core.Path.{◌≡◌}
use mathlib.Core.Bool.{Bool, ◌&&◌, not, and_assoc}
use lib.ListN.{get_or}
use lib.Dec.{eqb, ltb}
use Rattle.table_tests.proofs.sound.ends_swap.Goals as goal

-- a row of tests, from the left and from the right
regroup : (a b d e f : Bool) → (a && b && d && e && f) ≡ (a && (b && (d && (e && f))))
regroup a b d e f = simp and_assoc

pub returns : goal.returns
returns c =
    let k = c.args.k in
    let source = c.args.dir_edges_src.now in
    let target = c.args.dir_edges_dst.now in
    regroup
    (ltb (get_or source (2 * k) 0) c.args.nodes)
    (ltb (get_or target (2 * k) 0) c.args.nodes)
    (not (eqb (get_or source (2 * k) 0) (get_or target (2 * k) 0)))
    (eqb (get_or source (2 * k + 1) 0) (get_or target (2 * k) 0))
    (eqb (get_or target (2 * k + 1) 0) (get_or source (2 * k) 0))
