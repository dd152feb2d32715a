-- What the reader answers and leaves, case by case.
use Prim.Native.Nat.{ℕ, ◌<◌, ◌≤◌}
use native.Mathlib.Omega.{arith}
use mathlib.Core.Path.{◌≡◌, refl, sym, ap, ◌∙◌}
use mathlib.Core.Bool.{Bool, true, false, ◌&&◌}
use mathlib.Core.List.{List}
use mathlib.Core.Option.{Option, none, some}
use lib.ListN.{length}
use lib.Dec.{leb}
use borrow.Author.Tests.{le-leb, lt-leb}
use Rattle.lists.proofs.Tests.{both_true, no_left, no_right}
use Rattle.geometry.specs.Reply.{Reply, refused, success}
use Rattle.file_rules.specs.Records.{Reading, read_file}
use Rattle.file_rules.specs.RingFile.{FileRings, ring_room_lem, rings_over, RingRecord, all_nodes, closed_up, ring_next, Answered, require, RingCounts, unless_refused, read_rings_lem}
use Rattle.file_rules.proofs.RingFileCalls.{read_is, closed-length}
use Rattle.ring_reading.specs.Found.{counted, surveyed}

-- 1 for a success
abbrev is_success : Reply RingCounts → ℕ
is_success (refused n) = 0
is_success (success c) = 1

-- what a success counts
abbrev rings_in : Reply RingCounts → ℕ
rings_in (refused n) = 0
rings_in (success c) = c.rings

abbrev nodes_in : Reply RingCounts → ℕ
nodes_in (refused n) = 0
nodes_in (success c) = c.nodes

-- a file without a refusal, by its counts
pub record Counted (r : Reading RingRecord) (rings nodes : ℕ) : Type 0 where
  pub whole : r.refusal ≡ none
  pub is_rings : length r.holds ≡ rings
  pub is_nodes : length (all_nodes r.holds) ≡ nodes

-- what a survey that counts says
pub counted_is : (r : Reading RingRecord) (rings nodes : ℕ) → success (record { rings = rings; nodes = nodes }) ≡ surveyed r → Counted r rings nodes
counted_is r rings nodes = go r.refusal refl
  where
    go : (o : Option ℕ) → r.refusal ≡ o → success (record { rings = rings; nodes = nodes }) ≡ counted o r.holds → Counted r rings nodes
    go none p e = record { whole = p; is_rings = sym (ap rings_in e); is_nodes = sym (ap nodes_in e) }
    go (some n) p e = absurd (omega (arith, ap is_success e))

-- what a survey that is refused says
refused-is : (n : ℕ) (o : Option ℕ) (rs : List RingRecord) (out : FileRings) (f : Answered RingCounts FileRings) → refused n ≡ counted o rs
    → record { reply = refused n; lists = out } ≡ unless_refused o out f
refused-is n none rs out f e = absurd (omega (arith, ap is_success e))
refused-is n (some m) rs out f e = λ i. record { reply = e i; lists = out }

module _ (s : List ℕ) (out : FileRings) where
  -- the rings of a whole file
  abbrev answer : Answered RingCounts FileRings
  answer =
      let rs = (read_file ring_next s).holds in
      record { reply = success (record { rings = length (closed_up 0 rs); nodes = length (all_nodes rs) }); lists = rings_over (closed_up 0 rs) (all_nodes rs) out }

  -- with the test of the room
  abbrev tested : ℕ → ℕ → Answered RingCounts FileRings
  tested rings nodes = require (leb rings (ring_room_lem out) && leb nodes (length out.nodes)) 14 out answer

  -- a refusal of a record
  pub read_refused : (n : ℕ) → refused n ≡ surveyed (read_file ring_next s) → record { reply = refused n; lists = out } ≡ read_rings_lem s out
  read_refused n e =
      let r = read_file ring_next s in
      refused-is n r.refusal r.holds out (tested (length (closed_up 0 r.holds)) (length (all_nodes r.holds))) e ∙ sym (read_is s out)

  module _ (rings nodes : ℕ) (k : Counted (read_file ring_next s) rings nodes) where
    -- the room decides
    by_room : (b : Bool) → (leb rings (ring_room_lem out) && leb nodes (length out.nodes)) ≡ b → read_rings_lem s out ≡ require b 14 out answer
    by_room b g =
        let rs = (read_file ring_next s).holds in
        let n = closed-length 0 rs ∙ k.is_rings in
        read_is s out
        ∙ ap (λ (o : Option ℕ). unless_refused o out (tested (length (closed_up 0 rs)) (length (all_nodes rs)))) k.whole
        ∙ (λ i. tested (n i) (k.is_nodes i))
        ∙ ap (λ (x : Bool). require x 14 out answer) g

    -- 14: too few rings, or too few node numbers
    pub read_few : ring_room_lem out < rings → record { reply = refused 14; lists = out } ≡ read_rings_lem s out
    read_few h = sym (by_room false (no_left (leb rings (ring_room_lem out)) (leb nodes (length out.nodes)) (lt-leb rings (ring_room_lem out) h)))

    pub read_short : length out.nodes < nodes → record { reply = refused 14; lists = out } ≡ read_rings_lem s out
    read_short h = sym (by_room false (no_right (leb rings (ring_room_lem out)) (leb nodes (length out.nodes)) (lt-leb nodes (length out.nodes) h)))

    -- the rings
    pub read_done : rings ≤ ring_room_lem out → nodes ≤ length out.nodes
        → (t : FileRings) → t ≡ rings_over (closed_up 0 (read_file ring_next s).holds) (all_nodes (read_file ring_next s).holds) out
        → record { reply = success (record { rings = rings; nodes = nodes }); lists = t } ≡ read_rings_lem s out
    read_done h l t e =
        let n = closed-length 0 (read_file ring_next s).holds ∙ k.is_rings in
        (λ i. record { reply = success (record { rings = sym n i; nodes = sym k.is_nodes i }); lists = e i })
        ∙ sym (by_room true (both_true (leb rings (ring_room_lem out)) (leb nodes (length out.nodes)) (le-leb rings (ring_room_lem out) h) (le-leb nodes (length out.nodes) l)))
