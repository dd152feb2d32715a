-- What reads leave. Nothing names the bytes that a read brings but the buffer after it; of bytes that are dropped only their number is asked.
use Rattle.std.specs.Prelude.{ℕ, ◌≤◌, ◌≡◌, Bool, true, false, List, eqb, ltb, length, take, drop}
use Rattle.buffered_input.specs.declared.Source.{Source}
use Rattle.buffered_input.specs.declared.Source.TheVariants.{Open, Ended, Failed}
use Rattle.buffered_input.specs.declared.Brought.{Brought}

-- there may be more
abbrev pub is_open_lem : Source → Bool
is_open_lem Open = true
is_open_lem Ended = false
is_open_lem Failed = false

-- a read failed
abbrev pub is_failed_lem : Source → Bool
is_failed_lem Open = false
is_failed_lem Ended = false
is_failed_lem Failed = true

-- a read brings no more than there is room for, and there may be more exactly where it brought some
pub record Brings (room : ℕ) (r : Brought) : Type 0 where
  pub within : r.got ≤ room
  pub some : is_open_lem r.source ≡ ltb 0 r.got

-- so many bytes were to be dropped: there may be more exactly where all of them came
pub record Dropped (missing : ℕ) (r : Brought) : Type 0 where
  pub within : r.got ≤ missing
  pub all : is_open_lem r.source ≡ eqb r.got missing
  -- the bytes that came, in order
  pub came : List ℕ
  pub size : length came ≡ r.got

-- n bytes from a place on stand at the front of the buffer
pub record Fronted (from n : ℕ) (old new : List ℕ) : Type 0 where
  pub front : take n new ≡ take n (drop from old)
  pub rest : drop n new ≡ drop n old
