-- What is written for the input of the program.
use Rattle.std.specs.Prelude.{ℕ, ◌≤◌, ◌≡◌, List, length, Option, Some, None}
use Rattle.geometry.specs.Reply.{Reply, refused, success}
use Rattle.lists.specs.Buffer.{Put}
use Rattle.rules.specs.Limits.{limits}
use Rattle.rules.specs.State.{State}
use Rattle.rules.specs.Adding.{Nothing}
use Rattle.file_rules.specs.Lines.{refusal_line}
use Rattle.taking.specs.Taking.{Taking, take_file_lem}
use Rattle.taken_text.specs.File.{empty_graph_lem}
use Rattle.ring_steps.specs.File.{map_file}
use Rattle.ring_output.specs.declared.Output.{Output}
use Rattle.ring_output.specs.declared.Output.TheVariants.{File, Refusal}

-- where k records were taken: the ring file of the graph that they left, or the line of the refusal that record k met
abbrev pub Tells : Reply Nothing → ℕ → State → Output → List ℕ → List ℕ → Type 0
Tells (success none) k s (File size) old new = Put 0 (map_file s) old new size
Tells (success none) k s (Refusal size) old new = ⊥
Tells (refused n) k s (File size) old new = ⊥
Tells (refused n) k s (Refusal size) old new = Put 0 (refusal_line n k) old new size

-- the same of what a file came to
abbrev pub TellsTaken : Taking → Output → List ℕ → List ℕ → Type 0
TellsTaken t r old new = Tells t.reply t.count t.state r old new

-- what the bytes that were read come to as a file, from the empty graph; nothing where a read failed
abbrev pub Writes : Option Output → List ℕ → List ℕ → Type 0
Writes (Some (File size)) old new = (bytes : List ℕ) × TellsTaken (take_file_lem limits bytes (empty_graph_lem limits)) (File size) old new
Writes (Some (Refusal size)) old new = (bytes : List ℕ) × TellsTaken (take_file_lem limits bytes (empty_graph_lem limits)) (Refusal size) old new
Writes None old new = new ≡ old

-- what is written ends within the buffer
abbrev pub Ends : Option Output → List ℕ → Type 0
Ends (Some (File size)) new = size ≤ length new
Ends (Some (Refusal size)) new = size ≤ length new
Ends None new = Unit {0}
