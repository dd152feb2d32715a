-- A ring that may be walked: its half-edges are within the tables, and there is room for them and their keys.
use Prim.Native.Nat.{ℕ, ◌+◌, ◌<◌}
use native.Mathlib.Omega.{arith}
use mathlib.Core.Path.{ap}
use mathlib.Core.Bool.{Bool, ◌&&◌}
use mathlib.Core.List.{List}
use lib.Dec.{ltb}
use lib.ListN.{length}
use lib.Ieee.{Float}
use borrow.Author.Tests.{ltb-true}
use Rattle.lists.specs.Lists.{In}
use Rattle.lists.proofs.Tests.{both}
use Rattle.rules.specs.Cycles.{cycle}
use Rattle.rules.specs.Sane.{Live, Permutes}
use Rattle.rules.proofs.CycleLaws.{cycle-live}
use Rattle.rules.proofs.Framing.{permutes_wide, live_wide, cycle-frame}
use Rattle.splitting.specs.Splits.{entry_of}
use Rattle.ring_tally.specs.Keys.{keys_y}
use Rattle.ring_tally.specs.declared.tally.Tally.{Tally}
use Rattle.rings.specs.Listing.{Walkable}
use Rattle.rings.proofs.Walking.{Walking, walking_room}

module _ {next source : List ℕ} {xs ys : List Float} {seen : List Bool} {rows keys : List ℕ} {start at : ℕ} (w : Walkable next source xs ys seen rows keys start at) where
  -- which half-edges are active, among all that the table of successors has
  abbrev pub on : ℕ → Bool
  on h = ltb h w.count && w.active h

  -- they are permuted
  pub turns : Permutes (entry_of next) (length next) on
  turns = permutes_wide (entry_of next) w.count (length next) w.active w.in_next w.permutes

  -- the start is one of them
  pub starts : Live (length next) on start
  starts = live_wide w.count (length next) w.active start w.in_next w.live

  -- the ring stays within the tables
  pub ring_low : (x : ℕ) → In x (cycle (entry_of next) (length next) start) → (x < length next) × (x < length seen) × (x < w.count)
  ring_low x m =
      let a = cycle-live (entry_of next) (length next) on turns start x starts m in
      let p = both (ltb x w.count) (w.active x) a.1 in
      let q = ltb-true x w.count p.0 in
      (a.0, omega (arith, w.in_seen), q)

  -- there is room for one half-edge more, and for its key
  pub ring_room : (seen' : List Bool) (rows' keys' : List ℕ) (tally : Tally) (cur : ℕ)
      → Walking (entry_of next) (length next) start at source xs ys seen rows keys seen' rows' keys' tally cur
      → (at + tally.count < length rows) × (at + tally.count < 65535) × (keys_y + (at + tally.count) < length keys)
  ring_room seen' rows' keys' tally cur k =
      let e = cycle-frame (entry_of next) w.count (length next) w.active on w.permutes turns start w.live starts in
      let l = walking_room (entry_of next) (length next) start at source xs ys seen rows keys on turns starts seen' rows' keys' tally cur k in
      (omega (arith, ap length e, l, w.room), omega (arith, ap length e, l, w.small), omega (arith, ap length e, l, w.key_room))
