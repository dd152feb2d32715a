-- `naming::name_rings` meets its contract: the parts of the keys are those that numbering asks for.
use Prim.Native.Nat.{ℕ, ◌+◌, ◌-◌, ◌≤◌}
use native.Mathlib.Omega.{arith}
use mathlib.Core.Path.{sym, subst}
use mathlib.Core.List.{List}
use lib.Ieee.{Float}
use lib.ListN.{length, take, drop}
use lib.Seq.{length-take-le}
use Rattle.rules.specs.Limits.{limits}
use Rattle.ring_tally.specs.Keys.{keys_y}
use Rattle.faces.specs.Numbers.{Numberable, Nameable}
use Rattle.ring_listing.specs.Listing.{keys_x_of, keys_y_of}
use Rattle.extracting.proofs.naming.name_rings.Goals as goal

-- both parts are in the list
room : (c : goal.After-slice_known-1) → keys_y + length c.args.half_edges.now ≤ length c.args.keys.now
room c = c.requires.0

pub slice_bounds-xs-end : goal.slice_bounds-xs-end
slice_bounds-xs-end c = let a = c.args in sym (length-take-le (length a.half_edges.now) a.keys.now (omega (arith, room c)))

pub number_faces-requires : goal.number_faces-requires
number_faces-requires c =
    let a = c.args in
    (subst (λ n. Nameable limits a.half_edges.now (keys_x_of a.half_edges.now a.keys.now) (take n (drop keys_y a.keys.now)) a.firsts.now a.lengths.now a.count a.areas.now) (sym (omega arith)) c.requires.1, c.requires.2)

-- what is said of the second part is said of it as the code takes it
part : (c : goal.After-slice_known-2-1) (source : List ℕ) (X Y : List Float) → let a = c.args in
    Numberable limits a.half_edges.now (keys_x_of a.half_edges.now a.keys.now) (keys_y_of a.half_edges.now a.keys.now) a.firsts.now a.lengths.now a.count source X Y a.areas.now
    → Numberable limits a.half_edges.now (keys_x_of a.half_edges.now a.keys.now) (take (keys_y + length a.half_edges.now - keys_y) (drop keys_y a.keys.now)) a.firsts.now a.lengths.now a.count source X Y a.areas.now
part c source X Y =
    let a = c.args in
    subst (λ n. Numberable limits a.half_edges.now (keys_x_of a.half_edges.now a.keys.now) (take n (drop keys_y a.keys.now)) a.firsts.now a.lengths.now a.count source X Y a.areas.now) (sym (omega arith))

pub returns : goal.returns
returns c =
    record {
      faces = λ source X Y g. c.number_faces.ensures.faces source X Y (part c source X Y g);
      made = λ source X Y g. c.number_faces.ensures.made source X Y (part c source X Y g);
    }
