-- `read_turn` meets its contract: whatever bytes came, they stand in the buffer behind those that were kept, and their records are taken.
use Rattle.std.proofs.Common.{◌≡◌, ℕ, ◌+◌, ◌-◌, ◌<◌, ◌≤◌, List, ◌++◌, length, take, drop, sym, ap, subst, ◌∙◌, arith}
use Rattle.std.proofs.Math.ListN.{length-append, length-drop}
use Rattle.std.proofs.Math.Seq.{length-take-le}
use borrow.Author.Tests.{ltb-true}
use Rattle.rules.specs.Limits.{limits}
use Rattle.rules.specs.State.{State}
use Rattle.tables.specs.Regions.{state_in}
use Rattle.taking.specs.Taking.{Taking, take_file_lem}
use Rattle.taking.proofs.Left.{file-reached}
use Rattle.long_records.specs.Turns.{buffer_bytes, Kept, Turned}
use Rattle.long_records.proofs.Waiting.{short-fits}
use Rattle.reading_turns.proofs.Windows.{filled_window, rest_window}
use Rattle.reading_turns.proofs.read_turn.Goals as goal

-- ---- the read, behind the bytes kept

module _ (kept : ℕ) (old : List ℕ) (k : Kept kept old) where
  counted : length (take kept old) ≡ kept
  counted = length-take-le kept old (omega (arith, k.full, k.room))

  -- the room behind them
  abbrev room : List ℕ
  room = take (length old - kept) (drop kept old)

  room-length : length room ≡ buffer_bytes - kept
  room-length = omega (arith, length-take-le (length old - kept) (drop kept old) (omega (arith, length-drop kept old)), k.full)

  module _ (got : ℕ) (last : List ℕ) (same : length last ≡ length room) (within : got ≤ length room) where
    -- the buffer after it: the bytes that were kept, and what the read left behind them
    abbrev filled : List ℕ
    filled = take kept old ++ (last ++ drop (length old - kept) (drop kept old))

    few : got ≤ buffer_bytes - kept
    few = omega (arith, within, room-length)

    came-length : length (take got last) ≡ got
    came-length = length-take-le got last (omega (arith, within, same))

    filled-length : length filled ≡ buffer_bytes
    filled-length =
        let back = drop (length old - kept) (drop kept old) in
        omega (
          arith,
          length-append (take kept old) (last ++ back),
          length-append last back,
          counted,
          same,
          room-length,
          length-drop (length old - kept) (drop kept old),
          length-drop kept old,
          k.full,
          k.room,
        )

    reach-within : kept + got ≤ length filled
    reach-within = omega (arith, filled-length, few, k.room)

    reached : length (take (kept + got) filled) ≡ kept + got
    reached = length-take-le (kept + got) filled reach-within

    -- what stands in the buffer then
    window : take (kept + got) filled ≡ take kept old ++ take got last
    window = filled_window kept got old last _ (omega (arith, k.full, k.room)) (omega (arith, within, same))

    -- the records taken stand within it
    used : (s : State) (n : ℕ) → n ≡ (take_file_lem limits (take (kept + got) filled) s).bytes → n ≤ kept + got
    used s n e = omega (arith, e, (file-reached limits (take (kept + got) filled) s).within, reached)

pub returns-then-is_long : goal.returns-then-is_long
returns-then-is_long g c =
    let a = c.args in
    let x = c.skip_turn in
    let held = state_in limits a.graph a.floats.now a.numbers.now a.stars.now a.marks.now a.ids.now in
    subst (λ z. Turned (take a.kept a.buffer.now) x.new.buffer held x.result (state_in limits z a.floats.now a.numbers.now a.stars.now a.marks.now a.ids.now))
    (sym x.ensures.0) (x.ensures.1 held)

pub read_some-brought-requires : goal.read_some-brought-requires
read_some-brought-requires g c =
    let a = c.args in
    let k = c.requires.1 in
    omega (arith, room-length a.kept a.buffer.now k, counted a.kept a.buffer.now k, short-fits (take a.kept a.buffer.now) k.short (sym c.is_long.ensures ∙ c.if-is_long.false))

pub slice_bounds-take_records-end-2 : goal.slice_bounds-take_records-end-2
slice_bounds-take_records-end-2 g c =
    let a = c.args in
    let r = c.read_some-brought in
    sym (reached a.kept a.buffer.now c.requires.1 r.result.got r.new.room r.auto.room r.ensures.within)

pub keep_rest-requires : goal.keep_rest-requires
keep_rest-requires g c =
    let a = c.args in
    let k = c.requires.1 in
    let r = c.read_some-brought in
    let t = c.take_records-taken in
    let s = state_in limits a.graph a.floats.now a.numbers.now a.stars.now a.marks.now a.ids.now in
    (used a.kept a.buffer.now k r.result.got r.new.room r.auto.room r.ensures.within s t.result.bytes (ap (λ (x : Taking). x.bytes) t.ensures), reach-within a.kept a.buffer.now k r.result.got r.new.room r.auto.room r.ensures.within)

pub returns : goal.returns
returns g c =
    let a = c.args in
    let old = a.buffer.now in
    let k = c.requires.1 in
    let r = c.read_some-brought in
    let got = r.result.got in
    let last = r.new.room in
    let t = c.take_records-taken in
    let x = c.keep_rest in
    let s = state_in limits a.graph a.floats.now a.numbers.now a.stars.now a.marks.now a.ids.now in
    let here = window a.kept old k got last r.auto.room r.ensures.within in
    let reach = reach-within a.kept old k got last r.auto.room r.ensures.within in
    let within = used a.kept old k got last r.auto.room r.ensures.within s t.result.bytes (ap (λ (x : Taking). x.bytes) t.ensures) in
    record {
      came = take got last;
      size = came-length a.kept old k got last r.auto.room r.ensures.within;
      few = omega (arith, few a.kept old k got last r.auto.room r.ensures.within);
      some = λ w. ltb-true 0 got (sym r.ensures.some ∙ w);
      used = t.result.bytes;
      took = t.ensures ∙ ap (λ z. take_file_lem limits z s) here;
      room = omega (arith, x.ensures.0, x.auto.buffer, reach);
      rest = λ w.
          x.ensures.1.front
          ∙ ap (λ n. take n (drop t.result.bytes (filled a.kept old k got last r.auto.room r.ensures.within))) x.ensures.0
          ∙ rest_window t.result.bytes (a.kept + got) (filled a.kept old k got last r.auto.room r.ensures.within) within reach
          ∙ ap (drop t.result.bytes) here;
    }
