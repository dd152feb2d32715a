-- `ring_keys::compare_at` meets its contract: by x, then y, of the entries that stand there.
-- Assumes nothing.
use native.Mathlib.Omega.{arith}
use mathlib.Core.Path.{ap₂, ◌∙◌}
use Rattle.std.specs.Ordering.{ordering_then}
use Rattle.ring_keys.proofs.KeyLists.{keys-within, keys-compare}
use Rattle.ring_keys.proofs.compare_at.Goals as goal

pub returns : goal.returns
returns c = c.then.ensures ∙ ap₂ ordering_then c.cmp.ensures c.cmp-2.ensures ∙ keys-compare c.args.xs.now c.args.ys.now c.args.p c.args.q c.requires.0 c.requires.1

pub offset_bounds-xs-p : goal.offset_bounds-xs-p
offset_bounds-xs-p c = omega (arith, keys-within c.args.xs.now c.args.ys.now)

pub bounds-xs-p : goal.bounds-xs-p
bounds-xs-p c = omega (arith, keys-within c.args.xs.now c.args.ys.now)

pub offset_bounds-xs-q : goal.offset_bounds-xs-q
offset_bounds-xs-q c = omega (arith, keys-within c.args.xs.now c.args.ys.now)

pub bounds-xs-q : goal.bounds-xs-q
bounds-xs-q c = omega (arith, keys-within c.args.xs.now c.args.ys.now)

pub offset_bounds-ys-p : goal.offset_bounds-ys-p
offset_bounds-ys-p c = omega (arith, keys-within c.args.xs.now c.args.ys.now)

pub bounds-ys-p : goal.bounds-ys-p
bounds-ys-p c = omega (arith, keys-within c.args.xs.now c.args.ys.now)

pub offset_bounds-ys-q : goal.offset_bounds-ys-q
offset_bounds-ys-q c = omega (arith, keys-within c.args.xs.now c.args.ys.now)

pub bounds-ys-q : goal.bounds-ys-q
bounds-ys-q c = omega (arith, keys-within c.args.xs.now c.args.ys.now)
