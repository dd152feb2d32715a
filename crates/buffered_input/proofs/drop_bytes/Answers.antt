use Rattle.std.proofs.Common.{◌≡◌, ◌≤◌, length, ◌++◌, take, drop, arith}
use Rattle.std.proofs.Math.ListN.{length-append, length-drop}
use Rattle.std.proofs.Math.Seq.{length-take-le}
use Rattle.buffered_input.proofs.drop_bytes.Goals as goal

pub loop-left-preserved : goal.loop-left-preserved
loop-left-preserved g c =
    let q = c.loop-left in
    let r = c.read_some-brought in
    let fits : c.min-room.result ≤ length q.buffer = omega arith in
    let room : length (take c.min-room.result q.buffer) ≡ c.min-room.result = length-take-le c.min-room.result q.buffer fits in
    let filled : length r.new.room ≡ c.min-room.result = omega arith in
    let within : r.result.got ≤ length r.new.room = omega (arith, r.ensures.within) in
    let counted : length (take r.result.got r.new.room) ≡ r.result.got = length-take-le r.result.got r.new.room within in
    record {
      came = (q.invariant.came.0 ++ take r.result.got r.new.room, omega (arith, length-append q.invariant.came.0 (take r.result.got r.new.room), q.invariant.came.1));
      full = omega (arith, length-append r.new.room (drop c.min-room.result q.buffer), length-drop c.min-room.result q.buffer, q.invariant.full);
    }
