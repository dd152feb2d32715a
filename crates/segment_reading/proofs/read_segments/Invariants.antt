-- `read_segments` meets its contract. The bytes so far came to the graph as it is and to what is kept; a turn that goes on brings some more.
use Rattle.std.proofs.Common.{◌+◌, ◌-◌, ◌<◌, ◌≤◌, take}
use Rattle.adding.specs.Outcomes.{Ready}
use Rattle.rules.specs.Limits.{limits}
use Rattle.tables.specs.Regions.{state_in}
use Rattle.long_records.specs.Turns.{most_bytes, Kept}
use Rattle.segment_reading.proofs.InParts.{Gone}
use Rattle.segment_reading.proofs.read_segments.Given as goal

abbrev pub invariant-loop-buffer : goal.invariant-loop-buffer
invariant-loop-buffer g l = record {
  gone : Gone (state_in limits l.fn.graph l.fn.floats l.fn.numbers l.fn.stars l.fn.marks l.fn.ids) l.records l.bytes (take l.kept l.buffer) (state_in limits l.current l.floats l.numbers l.stars l.marks l.ids);
  ready : Ready limits (state_in limits l.current l.floats l.numbers l.stars l.marks l.ids);
  kept : Kept l.kept l.buffer;
  few : l.bytes < most_bytes;
  counted : l.records + l.kept ≤ l.bytes;
}

abbrev pub decreases-loop-buffer : goal.decreases-loop-buffer
decreases-loop-buffer g l = most_bytes - l.bytes
