-- Writing and reading ring files, as calls.
use Prim.Native.Nat.{ℕ, suc, ◌+◌, ◌<◌, ◌≤◌}
use native.Mathlib.Omega.{arith}
use mathlib.Core.Path.{◌≡◌, refl, sym, ap, ap₂, ◌∙◌}
use mathlib.Core.Bool.{Bool, true, false, ◌&&◌}
use mathlib.Core.List.{List, [], ◌∷◌, ◌++◌, map, append_assoc, append-nil, map-map}
use mathlib.Core.Option.{Option, none, some}
use lib.ListN.{length, take, drop, length-append, length-drop}
use lib.Seq.{take_at, take-append_seam, drop-append_seam, length-take-le}
use lib.Dec.{ltb, leb}
use borrow.Author.Tests.{ltb-true, leb-true, lt-ltb, le-leb}
use Rattle.lists.specs.Lists.{upto, over}
use Rattle.lists.proofs.Tests.{both}
use Rattle.geometry.specs.Reply.{success}
use Rattle.file_rules.specs.Records.{Reading, read_file}
use Rattle.file_rules.specs.RingFile.{FileRing, FileRings, ring_room_lem, ring_at, first_rings, rings_over, RingRecord, cut_out, all_nodes, closed_up, ring_file_lem, ring_next, Answered, require, writable, every, write_rings_lem, RingCounts, unless_refused, read_rings_lem}
use Rattle.file_rules.specs.RingFileRules.{Typed, Recorded, EachRecord, without_passed, FileRules}
use Rattle.file_rules.proofs.ByteLaws.{upto-front}
use Rattle.file_rules.proofs.RingFileLaws.{read_back}
use Rattle.file_rules.proofs.RingFileWritten.{accepted}

-- ---- rings in lists

-- rings in front of those that the lists hold
abbrev in_front : List FileRing → FileRings → FileRings
in_front rings t = record {
  first = map (λ r. r.first) rings ++ t.first;
  length = map (λ r. r.length) rings ++ t.length;
  face = map (λ r. r.face) rings ++ t.face;
  doubled = map (λ r. r.doubled) rings ++ t.doubled;
  nodes = t.nodes;
}

-- they are the first ones
pub first_rings_lem : (rings : List FileRing) (t : FileRings) → first_rings (in_front rings t) (length rings) ≡ rings
first_rings_lem [] t = refl
first_rings_lem (r ∷ rings) t =
    ap (map (ring_at (in_front (r ∷ rings) t))) (upto-front (length rings))
    ∙ ap (λ (l : List FileRing). r ∷ l) (map-map (ring_at (in_front (r ∷ rings) t)) suc (upto (length rings)) ∙ first_rings_lem rings t)

-- lists that hold these rings and no more
abbrev just_these : List FileRing → List ℕ → FileRings
just_these rings nodes = in_front rings (record { first = []; length = []; face = []; doubled = []; nodes = nodes })

-- so many
just_room : (rings : List FileRing) (nodes : List ℕ) → ring_room_lem (just_these rings nodes) ≡ length rings
just_room [] nodes = refl
just_room (r ∷ rings) nodes = omega (arith, just_room rings nodes)

-- ---- closing up

-- the rings over their node numbers, which stand behind some and before others
closed-between : (pre post nodes : List ℕ) (rs : List RingRecord) → pre ++ all_nodes rs ++ post ≡ nodes → map (cut_out nodes) (closed_up (length pre) rs) ≡ rs
closed-between pre post nodes [] e = refl
closed-between pre post nodes (r ∷ rs) e =
    ap₂ (λ (q : RingRecord) (qs : List RingRecord). q ∷ qs) (ap (λ (ns : List ℕ). record { face = r.face; doubled = r.doubled; nodes = ns }) mine)
    (ap (λ (n : ℕ). map (cut_out nodes) (closed_up n rs)) (sym (length-append pre r.nodes)) ∙ closed-between (pre ++ r.nodes) post nodes rs (sym apart ∙ e))
  where
    apart : pre ++ all_nodes (r ∷ rs) ++ post ≡ pre ++ r.nodes ++ all_nodes rs ++ post
    apart = ap (λ (l : List ℕ). l ++ post) (sym (append_assoc pre r.nodes (all_nodes rs)))

    split : pre ++ r.nodes ++ all_nodes rs ++ post ≡ pre ++ (r.nodes ++ (all_nodes rs ++ post))
    split = append_assoc (pre ++ r.nodes) (all_nodes rs) post ∙ append_assoc pre r.nodes (all_nodes rs ++ post)

    mine : take (length r.nodes) (drop (length pre) nodes) ≡ r.nodes
    mine =
        ap (λ (l : List ℕ). take (length r.nodes) (drop (length pre) l)) (sym e ∙ apart ∙ split)
        ∙ ap (take (length r.nodes)) (drop-append_seam pre (r.nodes ++ (all_nodes rs ++ post)))
        ∙ take-append_seam r.nodes (all_nodes rs ++ post)

-- they can be written
closed-writable : (pre : List ℕ) (rs : List RingRecord) → EachRecord Recorded rs → every (writable (pre ++ all_nodes rs)) (closed_up (length pre) rs) ≡ true
closed-writable pre [] ks = refl
closed-writable pre (r ∷ rs) ks =
    rw (lt-ltb 0 (length r.nodes) ks.0.some, le-leb (length r.nodes) 65535 few, le-leb (length pre + length r.nodes) (length (pre ++ all_nodes (r ∷ rs))) reach)
    ((λ i. every (writable (sym (append_assoc pre r.nodes (all_nodes rs)) i)) (closed_up (sym (length-append pre r.nodes) i) rs)) ∙ closed-writable (pre ++ r.nodes) rs ks.1)
  where
    few : length r.nodes ≤ 65535
    few = omega (arith, ks.0.few)

    reach : length pre + length r.nodes ≤ length (pre ++ all_nodes (r ∷ rs))
    reach = omega (arith, length-append pre (all_nodes (r ∷ rs)), length-append r.nodes (all_nodes rs))

-- ---- tests passed

-- a test before a success
require-passed : {A L : Type 0} (b : Bool) (n : ℕ) (l : L) (f : Answered A L) (a : A) → (require b n l f).reply ≡ success a → (b ≡ true) × (require b n l f ≡ f)
require-passed true n l f a e = (refl, refl)
require-passed false n l f a e = let z : ◌≡◌ {A = ℕ} 0 1 = cc in absurd (omega arith)

-- a ring that can be written and is typed fits a record
written_recorded : (nodes : List ℕ) (rings : List FileRing) → every (writable nodes) rings ≡ true → EachRecord Typed (map (cut_out nodes) rings) → EachRecord Recorded (map (cut_out nodes) rings)
written_recorded nodes [] e ts = tt
written_recorded nodes (r ∷ rings) e ts = (record { some = omega (arith, a, size); few = omega (arith, b, size); typed = ts.0 }, written_recorded nodes rings u.1 ts.1)
  where
    u : (writable nodes r ≡ true) × (every (writable nodes) rings ≡ true)
    u = both (writable nodes r) (every (writable nodes) rings) e

    v : (ltb 0 r.length ≡ true) × ((leb r.length 65535 && leb (r.first + r.length) (length nodes)) ≡ true)
    v = both (ltb 0 r.length) (leb r.length 65535 && leb (r.first + r.length) (length nodes)) u.0

    w : (leb r.length 65535 ≡ true) × (leb (r.first + r.length) (length nodes) ≡ true)
    w = both (leb r.length 65535) (leb (r.first + r.length) (length nodes)) v.1

    a : 0 < r.length
    a = ltb-true 0 r.length v.0

    b : r.length ≤ 65535
    b = leb-true r.length 65535 w.0

    c : r.first + r.length ≤ length nodes
    c = leb-true (r.first + r.length) (length nodes) w.1

    size : length (take r.length (drop r.first nodes)) ≡ r.length
    size = length-take-le r.length (drop r.first nodes) (rw (length-drop r.first nodes) (omega (arith, c)))

-- ---- the two calls

-- the reading of a file back
abbrev read_back_lem : List RingRecord → Reading RingRecord
read_back_lem rs = record { holds = rs; records = length rs; refusal = none }

-- what the reader makes of a reading
abbrev pub received : Reading RingRecord → FileRings → Answered RingCounts FileRings
received r out =
    let rings = closed_up 0 r.holds in
    let nodes = all_nodes r.holds in
    unless_refused r.refusal out
    (require (leb (length rings) (ring_room_lem out) && leb (length nodes) (length out.nodes)) 14 out
    (record { reply = success (record { rings = length rings; nodes = length nodes }); lists = rings_over rings nodes out }))

-- it is that of the file
pub read_is : (s : List ℕ) (out : FileRings) → read_rings_lem s out ≡ received (read_file ring_next s) out
unfolding read_rings_lem
read_is s out = refl

-- what the writer makes of bytes
abbrev pub sent : Bool → List ℕ → List ℕ → Answered ℕ (List ℕ)
sent ok bytes out = require ok 15 out (require (leb (length bytes) (length out)) 14 out (record { reply = success (length bytes); lists = over bytes out }))

-- the bytes and the test of so many rings
abbrev pub sending : List FileRing → List ℕ → List ℕ → Answered ℕ (List ℕ)
sending rings nodes out = sent (every (writable nodes) rings) (ring_file_lem (map (cut_out nodes) rings)) out

-- they are those of its rings
pub write_is : (t : FileRings) (out : List ℕ) → write_rings_lem t out ≡ sending (first_rings t (ring_room_lem t)) t.nodes out
unfolding write_rings_lem
write_is t out = refl

-- the writer of just these
write_these : (rings : List FileRing) (nodes out : List ℕ) → write_rings_lem (just_these rings nodes) out ≡ sending rings nodes out
write_these rings nodes out =
    write_is (just_these rings nodes) out
    ∙ ap (λ (n : ℕ). sending (first_rings (just_these rings nodes) n) nodes out) (just_room rings nodes)
    ∙ ap (λ (rs : List FileRing). sending rs nodes out) (first_rings_lem rings (record { first = []; length = []; face = []; doubled = []; nodes = nodes }))

-- a success
sent_passed : (ok : Bool) (bytes out : List ℕ) (n : ℕ) → (sent ok bytes out).reply ≡ success n → (ok ≡ true) × (take n (sent ok bytes out).lists ≡ bytes)
sent_passed ok bytes out n e =
    let f : Answered ℕ (List ℕ) = record { reply = success (length bytes); lists = over bytes out } in
    let inner = require (leb (length bytes) (length out)) 14 out f in
    let p = require-passed ok 15 out inner n e in
    let q = require-passed (leb (length bytes) (length out)) 14 out f n (ap (λ x. x.reply) (sym p.1) ∙ e) in
    let size : success (length bytes) ≡ success n = ap (λ x. x.reply) (sym (p.1 ∙ q.1)) ∙ e in
    let count : length bytes ≡ n = cc in
    (p.0, ap (λ (x : Answered ℕ (List ℕ)). take n x.lists) (p.1 ∙ q.1) ∙ take_at bytes (drop (length bytes) out) n count)

-- how many rings
pub closed-length : (first : ℕ) (rs : List RingRecord) → length (closed_up first rs) ≡ length rs
closed-length first [] = refl
closed-length first (r ∷ rs) = ap suc (closed-length (first + length r.nodes) rs)

-- room for what was read
received_back : (rs : List RingRecord) (room : FileRings) → length rs ≤ ring_room_lem room → length (all_nodes rs) ≤ length room.nodes
    → received (read_back_lem rs) room
    ≡ record { reply = success (record { rings = length rs; nodes = length (all_nodes rs) }); lists = rings_over (closed_up 0 rs) (all_nodes rs) room }
received_back rs room p q =
    let c = closed-length 0 rs in
    rw (le-leb (length (closed_up 0 rs)) (ring_room_lem room) (omega arith), le-leb (length (all_nodes rs)) (length room.nodes) q)
    (ap (λ (n : ℕ). record { reply = success (record { rings = n; nodes = length (all_nodes rs) }); lists = rings_over (closed_up 0 rs) (all_nodes rs) room }) c)

-- a reading that was not refused
not-refused : {A L : Type 0} (n : Option ℕ) (l : L) (f : Answered A L) (a : A) → (unless_refused n l f).reply ≡ success a → n ≡ none
not-refused none l f a e = refl
not-refused (some n) l f a e = let z : ◌≡◌ {A = ℕ} 0 1 = cc in absurd (omega arith)

-- the rings read, over the node numbers read
read_same : (rs : List RingRecord) (room : FileRings)
    → (let t = rings_over (closed_up 0 rs) (all_nodes rs) room in map (cut_out t.nodes) (first_rings t (length rs)) ≡ rs)
read_same rs room =
    let rings = closed_up 0 rs in
    let t = rings_over rings (all_nodes rs) room in
    ap (λ (n : ℕ). map (cut_out t.nodes) (first_rings t n)) (sym (closed-length 0 rs))
    ∙ ap (map (cut_out t.nodes)) (first_rings_lem rings (record {
      first = drop (length (map (λ r. r.first) rings)) room.first;
      length = drop (length (map (λ r. r.length) rings)) room.length;
      face = drop (length (map (λ r. r.face) rings)) room.face;
      doubled = drop (length (map (λ r. r.doubled) rings)) room.doubled;
      nodes = t.nodes;
    }))
    ∙ closed-between [] (drop (length (all_nodes rs)) room.nodes) t.nodes rs refl

-- the promises
pub file_rules_lem : FileRules
file_rules_lem = record {
  back = λ t out n ts e room p q.
      let rings = first_rings t (ring_room_lem t) in
      let rs = map (cut_out t.nodes) rings in
      let w = write_is t out in
      let s = sent_passed (every (writable t.nodes) rings) (ring_file_lem rs) out n (ap (λ x. x.reply) (sym w) ∙ e) in
      let bytes : take n (write_rings_lem t out).lists ≡ ring_file_lem rs = ap (λ (x : Answered ℕ (List ℕ)). take n x.lists) w ∙ s.1 in
      read_is (take n (write_rings_lem t out).lists) room
      ∙ ap (λ b. received (read_file ring_next b) room) bytes
      ∙ ap (λ r. received r room) (read_back rs (written_recorded t.nodes rings s.0 ts))
      ∙ received_back rs room p q;
  same = read_same;
  written = λ s t room w e.
      let rs = (read_file ring_next s).holds in
      let none-refused = not-refused (read_file ring_next s).refusal room _ w (ap (λ x. x.reply) (sym (read_is s room)) ∙ e) in
      let k = accepted s t none-refused in (
        just_these (closed_up 0 rs) (all_nodes rs),
        λ out h.
            write_these (closed_up 0 rs) (all_nodes rs) out
            ∙ ap₂ (λ ok bytes. sent ok bytes out) (closed-writable [] rs k.0) (ap ring_file_lem (closed-between [] [] (all_nodes rs) rs (append-nil (all_nodes rs))) ∙ sym k.1)
            ∙ rw (le-leb (length (without_passed s)) (length out) h) refl,
      );
}
