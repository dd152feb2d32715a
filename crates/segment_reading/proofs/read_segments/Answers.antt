-- What a turn leaves, and what follows of it where it goes on.
use Rattle.std.proofs.Common.{◌+◌, ◌≡◌, ℕ, ◌-◌, ◌<◌, ◌≤◌, length, take, drop, Bool, true, false, List, ◌++◌, cond, refl, sym, ap, subst, ◌∙◌, arith}
use lib.Dec.{ltb}
use Rattle.std.proofs.Math.ListN.{length-append, length-drop}
use Rattle.std.proofs.Math.Seq.{length-take-le}
use borrow.Author.Tests.{ltb-true}
use Rattle.lists.proofs.Counts.{true_is_false}
use Rattle.lists.proofs.Tests.{both, both_true}
use Rattle.rules.specs.Limits.{limits}
use Rattle.rules.specs.State.{State}
use Rattle.tables.specs.Regions.{state_in}
use Rattle.adding.specs.Outcomes.{Ready}
use Rattle.buffered_input.specs.Reads.{is_open_lem}
use Rattle.buffered_input.specs.declared.Source.{Source}
use Rattle.buffered_input.specs.declared.Source.TheVariants.{Open, Ended, Failed}
use Rattle.taking.specs.Taking.{Taking, take_file_lem, waits}
use Rattle.taking.specs.Answers.{reply_of}
use Rattle.taking.proofs.Left.{file_ready, file-reached}
use Rattle.long_records.specs.declared.Turn.{Turn}
use Rattle.long_records.specs.Turns.{buffer_bytes, most_bytes, capped, goes_on_lem, Kept, Turned}
use Rattle.long_records.proofs.Waiting.{Short, left-short}
use Rattle.segment_reading.proofs.InParts.{Gone, none_gone, then_file, then_size, then_gone}
use Rattle.segment_reading.proofs.read_segments.Goals as goal

-- an input that is open yet was open before, and not too many bytes have come
capped-open : (k : Source) (n : ℕ) → is_open_lem (capped k n) ≡ true → (is_open_lem k ≡ true) × (n < most_bytes)
capped-open Open n e = (refl, ltb-true n most_bytes (go (ltb n most_bytes) e))
  where
    go : (b : Bool) → is_open_lem (cond b Open Failed) ≡ true → b ≡ true
    go true z = refl
    go false z = absurd (true_is_false (sym z))
capped-open Ended n e = absurd (true_is_false (sym e))
capped-open Failed n e = absurd (true_is_false (sym e))

-- ---- a turn

module _ {s : State} {records bytes kept : ℕ} {old : List ℕ} {then : State} (gone : Gone s records bytes (take kept old) then) (k : Kept kept old) {r : Turn} {new : List ℕ} {after : State} (e : Turned (take kept old) new then r after) where
  -- the bytes kept and those that came
  abbrev block : List ℕ
  block = take kept old ++ e.came

  block-length : length block ≡ kept + r.got
  block-length = omega (arith, length-append (take kept old) e.came, e.size, length-take-le kept old (omega (arith, k.full, k.room)))

  -- what they came to
  abbrev taking : Taking
  taking = record { reply = reply_of r.reply; count = r.count; bytes = e.used; state = after }

  -- the records taken stand within them, and each has some
  used : e.used ≤ kept + r.got
  used = omega (arith, ap (λ (t : Taking). t.bytes) e.took, (file-reached limits block then).within, block-length)

  counted : r.count ≤ e.used
  counted = omega (arith, ap (λ (t : Taking). t.bytes) e.took, ap (λ (t : Taking). t.count) e.took, (file-reached limits block then).counted)

  -- all bytes so far
  all-size : length (gone.bytes ++ e.came) ≡ bytes + r.got
  all-size = omega (arith, then_size s records bytes (take kept old) then gone e.came taking e.took, e.size)

  all-took : record { reply = reply_of r.reply; count = records + r.count; bytes = gone.used + e.used; state = after } ≡ take_file_lem limits (gone.bytes ++ e.came) s
  all-took = then_file s records bytes (take kept old) then gone e.came taking e.took

  -- ---- where it goes on
  module _ (on : goes_on_lem r.reply (capped r.source (bytes + r.got)) ≡ true) (same : length new ≡ length old) where
    parts : (waits (reply_of r.reply) ≡ true) × (is_open_lem (capped r.source (bytes + r.got)) ≡ true)
    parts = both (waits (reply_of r.reply)) (is_open_lem (capped r.source (bytes + r.got))) on

    more : (is_open_lem r.source ≡ true) × (bytes + r.got < most_bytes)
    more = capped-open r.source (bytes + r.got) parts.1

    some : 0 < r.got
    some = e.some more.0

    -- what stands behind the records taken is kept
    rest : take r.kept new ≡ drop e.used block
    rest = e.rest (both_true (waits (reply_of r.reply)) (is_open_lem r.source) parts.0 more.0)

    rest-length : r.kept ≡ length block - e.used
    rest-length = omega (arith, length-take-le r.kept new e.room, ap length rest, length-drop e.used block)

    now-kept : Kept r.kept new
    now-kept = record {
      full = same ∙ k.full;
      room = omega (arith, e.room, same, k.full);
      short = subst Short (sym rest) (subst (λ n. Short (drop n block)) (ap (λ (t : Taking). t.bytes) (sym e.took)) (left-short block then (ap (λ (t : Taking). waits t.reply) (sym e.took) ∙ parts.0)));
    }

    now-gone : Gone s (records + r.count) (bytes + r.got) (take r.kept new) after
    now-gone = subst (λ l. Gone s (records + r.count) (bytes + r.got) l after) (sym rest) (then_gone s records bytes (take kept old) then gone e.came taking e.took r.got e.size parts.0)

    now-ready : Ready limits then → Ready limits after
    now-ready ready = subst (λ (t : Taking). Ready limits t.state) (sym e.took) (file_ready block then ready)

    now-counted : records + kept ≤ bytes → records + r.count + r.kept ≤ bytes + r.got
    now-counted few = omega (arith, rest-length, block-length, used, counted, few)

pub loop-buffer-init : goal.loop-buffer-init
loop-buffer-init g c =
    let a = c.args in
    record {
      gone = none_gone (state_in limits a.graph a.floats.now a.numbers.now a.stars.now a.marks.now a.ids.now);
      ready = c.requires;
      kept = record { full = refl; room = omega arith; short = omega arith };
      few = omega arith;
      counted = omega arith;
    }

pub read_turn-turn-requires : goal.read_turn-turn-requires
read_turn-turn-requires g c = (c.loop-buffer.invariant.ready, c.loop-buffer.invariant.kept)

pub overflow_add-bytes : goal.overflow_add-bytes
overflow_add-bytes g c = omega (arith, c.read_turn-turn.ensures.few, c.loop-buffer.invariant.few)

pub overflow_add-records : goal.overflow_add-records
overflow_add-records g c =
    let i = c.loop-buffer.invariant in
    let e = c.read_turn-turn.ensures in
    omega (arith, e.few, used i.gone i.kept e, counted i.gone i.kept e, i.few, i.counted)

pub returns-then-not-goes_on : goal.returns-then-not-goes_on
returns-then-not-goes_on g c =
    let i = c.loop-buffer.invariant in
    let e = c.read_turn-turn.ensures in
    record {
      over = sym c.goes_on.ensures ∙ c.if-not-goes_on.true;
      bytes = i.gone.bytes ++ e.came;
      size = all-size i.gone i.kept e;
      used = i.gone.used + e.used;
      took = all-took i.gone i.kept e;
    }

pub loop-buffer-smaller : goal.loop-buffer-smaller
loop-buffer-smaller g c =
    let t = c.read_turn-turn in
    let i = c.loop-buffer.invariant in
    let on = ap (goes_on_lem t.result.reply) (sym c.capped-source.ensures) ∙ sym c.goes_on.ensures ∙ c.if-not-goes_on.false in
    omega (arith, some i.gone i.kept t.ensures on t.auto.buffer, (more i.gone i.kept t.ensures on t.auto.buffer).1)

pub loop-buffer-preserved : goal.loop-buffer-preserved
loop-buffer-preserved g c =
    let t = c.read_turn-turn in
    let e = t.ensures in
    let i = c.loop-buffer.invariant in
    let on = ap (goes_on_lem t.result.reply) (sym c.capped-source.ensures) ∙ sym c.goes_on.ensures ∙ c.if-not-goes_on.false in
    record {
      gone = now-gone i.gone i.kept e on t.auto.buffer;
      ready = now-ready i.gone i.kept e on t.auto.buffer i.ready;
      kept = now-kept i.gone i.kept e on t.auto.buffer;
      few = (more i.gone i.kept e on t.auto.buffer).1;
      counted = now-counted i.gone i.kept e on t.auto.buffer i.counted;
    }
