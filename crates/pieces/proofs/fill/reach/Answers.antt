-- `pieces::fill::reach` meets its contract. A node that has no number gets it and is pushed; any other changes nothing.
use Prim.Native.Nat.{◌+◌, ◌<◌}
use native.Mathlib.Omega.{arith}
use mathlib.Core.Path.{◌≡◌, sym, ap, ◌∙◌, subst}
use mathlib.Core.List.{[], ◌∷◌}
use lib.ListN.{length, get_or, set}
use Rattle.seeds.specs.Reach.{Reached}
use Rattle.seeds.proofs.Reaching.{new_none}
use Rattle.seeds.proofs.Spreading.{reached-none, reached_has}
use Rattle.pieces.proofs.fill.reach.Goals as goal

-- the node has no number
none : (c : goal.Then-pieces-n-eq0) → let a = c.args in get_or a.pieces.now a.node.0 0 ≡ 0
none c = ap (λ k. get_or c.args.pieces.now k 0) (sym c.from-n.ensures) ∙ c.if-pieces-n-eq0.true

-- the stack has room for it
room : (c : goal.Then-pieces-n-eq0) → let a = c.args in a.top < length a.stack.now
room c = omega (arith, ap length (new_none c.args.piece c.args.node.0 [] c.args.pieces.now (none c)), c.requires.1)

pub bounds-stack-top : goal.bounds-stack-top
bounds-stack-top c = room c

pub returns-then-pieces-n-eq0 : goal.returns-then-pieces-n-eq0
returns-then-pieces-n-eq0 c =
    let a = c.args in
    let n = a.node.0 in
    let p = a.pieces.now in
    let t = a.stack.now in
    subst (λ k. Reached a.piece (n ∷ []) p t (set p k a.piece) (set t a.top n) a.top (a.top + 1)) (sym c.from-n.ensures) (reached-none a.piece n a.top p t (none c) (room c))

pub returns : goal.returns
returns c =
    let a = c.args in
    reached_has a.piece a.node.0 a.top a.pieces.now a.stack.now (λ z. c.if-pieces-n-eq0.false (ap (λ k. get_or a.pieces.now k 0) c.from-n.ensures ∙ z))
