-- A file that is taken to its end leaves a graph that can be listed.
use Prim.Native.Nat.{ℕ, ◌≤◌}
use native.Mathlib.Omega.{arith}
use mathlib.Core.Path.{◌≡◌}
use mathlib.Core.List.{List}
use lib.Dec.{ltb}
use lib.ListN.{length}
use borrow.Author.Tests.{le-ltb}
use Rattle.geometry.specs.Reply.{success}
use Rattle.rules.specs.Limits.{limits}
use Rattle.rules.specs.State.{State}
use Rattle.adding.specs.Outcomes.{Ready}
use Rattle.ring_lines.specs.Rooms.{listing_room}
use Rattle.listing_steps.specs.Due.{Due}
use Rattle.lists.specs.Buffer.{Put}
use Rattle.byte_listing.specs.Clause.{written_if}

-- a graph that can be added to can be listed
pub ready_due : (s : State) (out : List ℕ) → Ready limits s → listing_room limits ≤ length out → Due 0 s out
ready_due s out ready room = record { held = record { room = ready.room; sense = ready.sense }; here = ready.stage; room = room }

-- ---- the text in the buffer

pub put_lists : (text old new : List ℕ) (place : ℕ) → Put 0 text old new place → listing_room limits ≤ length old
    → record { reply = success place; buffer = new } ≡ written_if (ltb (length old) (listing_room limits)) text old
put_lists text old new place p room =
    let size : place ≡ length text = omega (arith, p.after) in
    rw (le-ltb (length old) (listing_room limits) room) (λ i. record { reply = success (size i); buffer = p.buffer i })
