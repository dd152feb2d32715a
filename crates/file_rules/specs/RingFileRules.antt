-- What the ring file's writer and reader promise (§4).
use Rattle.std.specs.Prelude.{ℕ, ◌<◌, ◌≤◌, ◌≡◌, true, List, [], ◌∷◌, map, length, take, ltb}
use Rattle.std.proofs.Math.Pow.{are_bytes}
use Rattle.std.specs.Int.{w64}
use Rattle.std.proofs.Common.{SFits}
use Rattle.lists.specs.Lists.{all, flatten, over}
use Rattle.geometry.specs.Reply.{success}
use Rattle.file_rules.specs.Records.{read_next, read_file}
use Rattle.file_rules.specs.RingFile.{FileRings, ring_room_lem, first_rings, rings_over, RingRecord, cut_out, all_nodes, closed_up, write_rings_lem, RingCounts, read_rings_lem}

-- what the types of a call say of a ring: 16-bit numbers and a signed 64-bit doubled area
pub record Typed (r : RingRecord) : Type 0 where
  pub face_fits : r.face < 65536
  pub nodes_fit : all (λ v. ltb v 65536) r.nodes ≡ true
  pub doubled_fits : SFits w64 r.doubled

-- a ring that a record can hold: so many node numbers, and typed
pub record Recorded (r : RingRecord) : Type 0 where
  pub some : 0 < length r.nodes
  pub few : length r.nodes < 65536
  pub typed : Typed r

-- the fact holds of each ring
abbrev pub EachRecord : (RingRecord → Type 0) → List RingRecord → Type 0
EachRecord fact [] = Unit {0}
EachRecord fact (r ∷ rs) = fact r × EachRecord fact rs

-- the bytes of a file without the records that a ring reader passes over
unfoldable pub without_passed : List ℕ → List ℕ
unfolding read_file read_next
without_passed s = flatten (read_file (read_next 2 success) s).holds

-- what reader and writer promise
pub record FileRules : Type 0 where
  -- reading back what was written gives the same rings, places closed up, where there is room for them
  pub back : (t : FileRings) (out : List ℕ) (n : ℕ)
      → let rs = map (cut_out t.nodes) (first_rings t (ring_room_lem t)) in
      EachRecord Typed rs → (write_rings_lem t out).reply ≡ success n
      → (room : FileRings) → length rs ≤ ring_room_lem room → length (all_nodes rs) ≤ length room.nodes
      → read_rings_lem (take n (write_rings_lem t out).lists) room ≡ record {
        reply = success (record { rings = length rs; nodes = length (all_nodes rs) });
        lists = rings_over (closed_up 0 rs) (all_nodes rs) room;
      }
  -- they are the same: in the lists after it each has the nodes, face number and doubled area that it had
  pub same : (rs : List RingRecord) (room : FileRings)
      → let t = rings_over (closed_up 0 rs) (all_nodes rs) room in
      map (cut_out t.nodes) (first_rings t (length rs)) ≡ rs
  -- records passed over apart, a file is accepted only if it is the writer's bytes for some ring list
  pub written : (s : List ℕ) → are_bytes s ≡ true → (room : FileRings) (w : RingCounts) → (read_rings_lem s room).reply ≡ success w
      → (t : FileRings) × ((out : List ℕ) → length (without_passed s) ≤ length out
      → write_rings_lem t out ≡ record { reply = success (length (without_passed s)); lists = over (without_passed s) out })
