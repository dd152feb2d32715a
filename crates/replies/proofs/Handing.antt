-- From what a public entry left to what the station's entry leaves: the entry worked on a row of marks, and the host has bytes.
use Prim.Native.Nat.{ℕ, ◌<◌, ◌≤◌}
use native.Mathlib.Omega.{arith}
use mathlib.Core.Path.{◌≡◌, sym, ap, ◌∙◌}
use mathlib.Core.Bool.{Bool, cond}
use mathlib.Core.List.{List, map}
use lib.ListN.{length, take, take-append-drop, length-map}
use lib.Seq.{length-take-le}
use borrow.Author.Tests.{lt-ltb}
use Rattle.geometry.specs.Reply.{Reply, refused, success}
use Rattle.rules.specs.Limits.{limits}
use Rattle.rules.specs.State.{State, roomy}
use Rattle.rules.specs.Adding.{Outcome}
use Rattle.tables.specs.Tables.{state_of}
use Rattle.tables.specs.Regions.{state_in, least_marks}
use Rattle.tables.specs.Refusals.{refusal_number_lem}
use Rattle.tables.specs.declared.PlanarGraph.{PlanarGraph}
use Rattle.tables.specs.declared.Refusal.{Refusal}
use Rattle.calls.specs.Replies.{left_with}
use Rattle.calls.specs.Checks.{Checked, passed, due}
use Rattle.calls.proofs.Refusals.{Keeps}
use Rattle.calls.proofs.Shells.{passes}
use Rattle.lent_marks.specs.Marks.{is_set, marks_in, lent_state, plain, blended, marks_of}
use Rattle.lent_marks.specs.Checks.{marks_check}
use Rattle.lent_marks.proofs.Blending.{blended-same, blended_says}
use Rattle.lent_marks.proofs.Testing.{bytes-room, checked_passed, checked_refused}
use Rattle.replies.specs.Lent.{stage_in, graph_in, numbers_of, number_of, after, Fits, Answered}
use Rattle.replies.specs.Left.{Lent, held_in, Left, gives, handed_by, handed, asked}

-- ---- the bytes

-- the bytes after a call that left the row: they say the row, and one was written only where its mark changed
pub record Returned (row : List Bool) (bytes bytes' : List ℕ) : Type 0 where
  pub says : marks_in limits bytes' ≡ row
  pub wrote : bytes' ≡ blended row bytes

-- a call that only read its row
pub bytes_read : (row : List Bool) (bytes : List ℕ) → row ≡ marks_in limits bytes → Returned row bytes bytes
bytes_read row bytes e = record {
  says = sym e;
  wrote = sym (ap (λ r. blended r bytes) e ∙ blended-same (least_marks limits) bytes);
}

-- a call that wrote its row back
pub bytes_written_lem : (row : List Bool) (bytes bytes' : List ℕ) → least_marks limits ≤ length bytes → length row ≡ least_marks limits → bytes' ≡ blended row bytes
    → Returned row bytes bytes'
bytes_written_lem row bytes bytes' room size e = record {
  says = (λ i. take (sym size i) (map is_set (e i))) ∙ blended_says row bytes (omega arith);
  wrote = e;
}

-- ---- the tests of the bytes

-- what they say of all that was lent
abbrev pub check_of : {L : Type 0} → Lent L → Checked
check_of k = marks_check limits (held_in k) k.bytes

-- the small state was read first
pub check_read : {L : Type 0} (k : Lent L) (g : PlanarGraph) → g ≡ graph_in k.small → (r : Checked)
    → r ≡ marks_check limits (lent_state limits g k.floats k.numbers k.stars k.bytes k.ids) k.bytes → r ≡ check_of k
check_read k g e r c = c ∙ ap (λ z. marks_check limits (lent_state limits z k.floats k.numbers k.stars k.bytes k.ids) k.bytes) e

module _ {A L : Type 0} (values : A → List ℕ) (k : Lent L) (o : Outcome A L) where
  -- they refuse the call
  pub turned-away : (why : Refusal) → due why ≡ check_of k → (number : ℕ) → number ≡ refusal_number_lem why
      → gives number k ≡ asked values k o
  turned-away why e number told =
      let s = held_in k in
      ap (λ n. gives n k) told
      ∙ ap (handed values k) (checked_refused s k.lists o (roomy limits s) (plain limits s.nodes s.edges k.bytes) why e)

  -- they let it in
  pub let_in : passed ≡ check_of k → handed values k o ≡ asked values k o
  let_in e =
      let s = held_in k in
      let b = plain limits s.nodes s.edges k.bytes in
      let t = checked_passed (roomy limits s) b e in
      ap (handed values k) (passes 7 s k.lists o b t.1 ∙ passes 6 s k.lists _ (roomy limits s) t.0)

-- where they pass there are bytes enough
pub bytes-enough : {L : Type 0} (k : Lent L) → passed ≡ check_of k → least_marks limits ≤ length k.bytes
bytes-enough k e =
    let s = held_in k in
    let t = checked_passed (roomy limits s) (plain limits s.nodes s.edges k.bytes) e in
    bytes-room limits (graph_in k.small) k.floats k.numbers k.stars k.bytes k.ids t.0

-- and the row has its size
pub row-size : {L : Type 0} (k : Lent L) → passed ≡ check_of k → (row : List Bool) → row ≡ marks_in limits k.bytes → length row ≡ least_marks limits
row-size k e row r =
    let enough = bytes-enough k e in
    let size = length-map k.bytes is_set in
    ap length r ∙ length-take-le (least_marks limits) (map is_set k.bytes) (omega arith)

-- ---- the whole call

-- a stage that fits is read back
read_back : (n : ℕ) → n < 256 → stage_in n ≡ n
read_back n h = ap (λ b. cond b n 255) (lt-ltb n 256 h)

-- the tables of a state with other counts
abbrev recounted : PlanarGraph → State → State
recounted g s =
    state_of g s.node_x s.node_y s.node_z s.degree s.node_mark s.segment s.line_id s.source s.target s.half_mark s.star s.tracings

module _ {A L : Type 0} (values : A → List ℕ) (k k' : Lent L) (o : Outcome A L) (keeps : Keeps (held_in k) k.lists o) (g : PlanarGraph) (row : List Bool) where
  -- the state that the public entry left, with a graph
  abbrev state_with : PlanarGraph → State
  state_with q = state_in limits q k'.floats k'.numbers k'.stars row k'.ids

  -- what is left where its answer was r
  abbrev left_by : Reply A → Left L
  left_by r = record {
    number = number_of r;
    small = after (λ x. numbers_of g) r k.small;
    state = state_with (graph_in (after (λ x. numbers_of g) r k.small));
    bytes = blended row k.bytes;
    lists = k'.lists;
    reply = after values r k.reply;
  }

  -- that is the outcome handed over
  left_is : (r : Reply A) → left_with r (state_with g) k'.lists ≡ o → Fits r g → left_by r ≡ handed_by values k r (state_with g) k'.lists
  left_is (refused n) e f =
      let w = keeps.unchanged n (sym (ap (λ z. z.reply) e)) in
      let same : state_with g ≡ held_in k = ap (λ z. z.state) e ∙ w.0 in
      let lists : k'.lists ≡ k.lists = ap (λ z. z.lists) e ∙ w.1 in
      let marks : row ≡ marks_in limits k.bytes = sym (take-append-drop limits.nodes row) ∙ ap marks_of same ∙ take-append-drop limits.nodes (marks_in limits k.bytes) in
      let bytes : blended row k.bytes ≡ k.bytes = ap (λ r. blended r k.bytes) marks ∙ blended-same (least_marks limits) k.bytes in
      let state : state_with (graph_in k.small) ≡ held_in k = ap (recounted (graph_in k.small)) same in
      (λ i. record { number = n; small = k.small; state = state i; bytes = bytes i; lists = lists i; reply = k.reply })
  left_is (success a) e f =
      let stage = read_back g.stage f in
      let marks = sym (take-append-drop limits.nodes row) in
      (λ i. record {
        number = 0;
        small = numbers_of g;
        state = state_with (record { node_count = g.node_count; edge_count = g.edge_count; stage = stage i });
        bytes = blended (marks i) k.bytes;
        lists = k'.lists;
        reply = values a;
      })

  -- what the public entry left, with its answer and the bytes of its row, is the outcome handed over
  pub settled : (reply : Reply A) → left_with reply (state_with g) k'.lists ≡ o → Returned row k.bytes k'.bytes
      → (number : ℕ) → Answered values reply g k.small k.reply number k'.small k'.reply → gives number k' ≡ handed values k o
  settled reply e back number a =
      (λ i. record {
        number = a.told i;
        small = a.counted i;
        state = state_in limits (graph_in (a.counted i)) k'.floats k'.numbers k'.stars (back.says i) k'.ids;
        bytes = back.wrote i;
        lists = k'.lists;
        reply = a.written i;
      })
      ∙ left_is reply e a.fits
      ∙ ap (handed values k) e
