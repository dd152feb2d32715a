-- `doubled_area` meets its contract: the area twice is a whole number within the range of an i64.
use Rattle.std.proofs.Common.{T, sym, ap, ◌∙◌, subst, w64, to_z, of_z}
use Rattle.ring_lists.proofs.Halving.{twice-low, twice-high, twice_cast, back}
use Rattle.ring_lists.proofs.doubled_area.Goals as goal

pub truncating_f64_to_i64-requires : goal.truncating_f64_to_i64-requires
truncating_f64_to_i64-requires c =
    let a = c.args.area in
    let z = c.requires in
    record {
      lower_bound = subst T (sym (twice-low a z.0 z.1)) tt;
      upper_bound = subst T (sym (twice-high a z.0 z.1)) tt;
    }

pub returns : goal.returns
returns c =
    λ z h.
    ap (λ y. to_z w64 (of_z w64 y)) (c.truncating_f64_to_i64.ensures ∙ twice_cast c.args.area z h) ∙ back z h.small
