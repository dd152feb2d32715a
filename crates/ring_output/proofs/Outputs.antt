-- What was written for a file, and how far it reaches.
use Prim.Native.Nat.{ℕ}
use mathlib.Core.List.{List}
use Rattle.std.specs.Prelude.{Some}
use Rattle.geometry.specs.Reply.{Reply, refused, success}
use Rattle.rules.specs.Limits.{limits}
use Rattle.rules.specs.State.{State}
use Rattle.rules.specs.Adding.{Nothing}
use Rattle.adding.specs.Outcomes.{Ready}
use Rattle.taking.specs.Taking.{take_file_lem}
use Rattle.map_steps.specs.Stands.{Stands}
use Rattle.taken_text.specs.File.{empty_graph_lem}
use Rattle.taken_text.proofs.Texts.{put_within}
use Rattle.ring_output.specs.Output.{Tells, TellsTaken, Writes, Ends}
use Rattle.ring_output.specs.declared.Output.{Output}
use Rattle.ring_output.specs.declared.Output.TheVariants.{File, Refusal}

-- a graph that can be added to can go through the steps
pub ready_stands : (s : State) → Ready limits s → Stands 0 s
ready_stands s ready = record { held = record { room = ready.room; sense = ready.sense }; here = ready.stage }

-- what is told ends within the buffer
pub tells_ends : (a : Reply Nothing) (k : ℕ) (s : State) (r : Output) (old new : List ℕ) → Tells a k s r old new → Ends (Some r) new
tells_ends (success none) k s (File size) old new p = put_within _ old new size p
tells_ends (success none) k s (Refusal size) old new p = absurd p
tells_ends (refused n) k s (File size) old new p = absurd p
tells_ends (refused n) k s (Refusal size) old new p = put_within _ old new size p

-- what the bytes came to is what is written for them
pub tells_writes : (bytes : List ℕ) (r : Output) (old new : List ℕ) → TellsTaken (take_file_lem limits bytes (empty_graph_lem limits)) r old new → Writes (Some r) old new
tells_writes bytes (File size) old new p = (bytes, p)
tells_writes bytes (Refusal size) old new p = (bytes, p)
