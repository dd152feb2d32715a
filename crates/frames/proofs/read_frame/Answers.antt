-- `read_frame` meets its contract, for all bytes and places: each return is a case of the definition.
use native.Mathlib.Omega.{arith}
use mathlib.Core.Path.{◌≡◌, sym, ap, subst, ◌∙◌}
use lib.ListN.{drop, length-drop}
use Rattle.std.proofs.lemmas.Result.{err_from_is_err_and}
use Rattle.file_rules.specs.Records.{wrong, field, whole_frame_lem, frame}
use Rattle.frames.specs.Frames.{number_of, frame_of, Skips}
use Rattle.frames.proofs.Cases.{whole_none, frame-none, frame-short, frame_whole, kind_at}
use Rattle.frames.proofs.read_frame.Goals as goal
use Rattle.frames.proofs.read_frame.Goals.{After-le16}

pub returns-then-bytes-at : goal.returns-then-bytes-at
returns-then-bytes-at c =
    record {
      frame = frame-none (drop c.args.at c.args.bytes.now) (omega (arith, (length-drop c.args.at c.args.bytes.now), c.if-bytes-at.true));
      skipped = tt;
    }

pub returns-then-left-lt-LENGTH_BYTES : goal.returns-then-left-lt-LENGTH_BYTES
returns-then-left-lt-LENGTH_BYTES c =
    record {
      frame = frame-short (drop c.args.at c.args.bytes.now) (omega (arith, (length-drop c.args.at c.args.bytes.now), c.if-bytes-at.false)) (omega (arith, (length-drop c.args.at c.args.bytes.now), c.if-left-lt-LENGTH_BYTES.true));
      skipped = tt;
    }

pub returns-then-missing : goal.returns-then-missing
returns-then-missing c =
    record {
      frame = frame-short (drop c.args.at c.args.bytes.now) (omega (arith, (length-drop c.args.at c.args.bytes.now), c.if-left-lt-LENGTH_BYTES.false)) (omega (arith, (length-drop c.args.at c.args.bytes.now), c.if-left-lt-LENGTH_BYTES.false, c.le32-length.ensures, c.if-missing.true));
      skipped = tt;
    }

pub returns-then-length-lt-KIND_BYTES : goal.returns-then-length-lt-KIND_BYTES
returns-then-length-lt-KIND_BYTES c =
    record {
      frame = whole_none c.le32-length.result (field (drop c.args.at c.args.bytes.now) 4 2) c.if-length-lt-KIND_BYTES.true ∙ (ap (λ n. whole_frame_lem n (field (drop c.args.at c.args.bytes.now) 4 2)) c.le32-length.ensures
          ∙ frame_whole (drop c.args.at c.args.bytes.now) (omega (arith, (length-drop c.args.at c.args.bytes.now), c.if-left-lt-LENGTH_BYTES.false, c.le32-length.ensures, c.if-missing.false)));
      skipped = tt;
    }

-- what the length and the kind decide is what the bytes begin with
decided : (c : After-le16) → whole_frame_lem c.le32-length.result c.le16.result ≡ frame (drop c.args.at c.args.bytes.now)
decided c =
    let a = c.args in
    ap (whole_frame_lem c.le32-length.result) (c.le16.ensures ∙ kind_at a.bytes.now a.at)
    ∙ (ap (λ n. whole_frame_lem n (field (drop a.at a.bytes.now) 4 2)) c.le32-length.ensures
    ∙ frame_whole (drop a.at a.bytes.now) (omega (arith, (length-drop a.at a.bytes.now), c.if-left-lt-LENGTH_BYTES.false, c.le32-length.ensures, c.if-missing.false)))

pub returns : goal.returns
returns c = record {
  frame = c.in_ok-whole.ensures.frame ∙ decided (goal.at.returns c).After-le16;
  skipped = c.in_ok-whole.ensures.skipped;
}

pub returns-in_err-whole : goal.returns-in_err-whole
returns-in_err-whole c =
    let p = err_from_is_err_and c.from_residual.result c.from_residual.ensures.1 in
    record {
      frame = ap frame_of p.1 ∙ ap (λ why. wrong (number_of why)) p.2 ∙ c.in_err-whole.ensures.frame ∙ decided (goal.at.returns-in_err-whole c).After-le16;
      skipped = subst Skips (sym p.1) tt;
    }
