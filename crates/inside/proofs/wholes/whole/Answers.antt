-- `whole` meets its contract: a coordinate is an integer within the range of an i64.
use Rattle.std.proofs.Common.{T, sym, ap, ◌∙◌, subst, arith}
use Rattle.geometry.specs.Coordinate.{coordinate_bound}
use Rattle.geometry.proofs.Exact.{coordinate_whole, coordinate_bound_lem}
use Rattle.geometry.proofs.Casts.{cast_low, cast_high, cast_is}
use Rattle.inside.proofs.Words.{word, back}
use Rattle.inside.proofs.wholes.whole.Goals as goal

pub truncating_f64_to_i64-requires : goal.truncating_f64_to_i64-requires
truncating_f64_to_i64-requires c =
    let w = coordinate_whole coordinate_bound c.args.x c.requires in
    let l = coordinate_bound_lem coordinate_bound c.args.x c.requires in
    record {
      lower_bound = subst T (sym (cast_low w (omega arith))) tt;
      upper_bound = subst T (sym (cast_high w (omega arith))) tt;
    }

pub returns : goal.returns
returns c =
    let x = c.args.x in
    let w = coordinate_whole coordinate_bound x c.requires in
    let l = coordinate_bound_lem coordinate_bound x c.requires in
    ap word (c.truncating_f64_to_i64.ensures ∙ cast_is w (omega arith)) ∙ back _ (omega arith)
