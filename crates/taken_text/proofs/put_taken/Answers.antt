-- `put_taken` meets its contract, case by case.
use Prim.Native.Nat.{ℕ}
use mathlib.Core.Path.{◌≡◌, ◌∙◌, sym, subst}
use mathlib.Core.List.{List}
use Rattle.rules.specs.State.{State}
use Rattle.std.specs.Prelude.{Result}
use Rattle.taking.specs.declared.TakeRefusal.{TakeRefusal}
use Rattle.taking.specs.Answers.{reply_of}
use Rattle.lists.specs.Buffer.{Put}
use Rattle.file_rules.specs.Lines.{refusal_line}
use Rattle.taken_text.specs.File.{text_of}
use Rattle.taken_text.proofs.put_taken.Goals as goal

-- the text of an answer is that of the case that it is
by_case : (records : ℕ) (s : State) {q r : Result (Unit {0}) TakeRefusal} {place : ℕ} {old new : List ℕ} → r ≡ q
    → Put 0 (text_of (reply_of q) records s) old new place → Put 0 (text_of (reply_of r) records s) old new place
by_case records s {q} {r} {place} {old} {new} e p = subst (λ z. Put 0 (text_of (reply_of z) records s) old new place) (sym e) p

pub returns-in-Ok : goal.returns-in-Ok
returns-in-Ok c = by_case c.args.records _ c.in-Ok.is c.put_listing.ensures

pub returns-in-Err : goal.returns-in-Err
returns-in-Err c =
    let t = c.put_refusal in
    by_case c.args.records _ c.in-Err.is
    (subst (λ n. Put 0 (refusal_line n c.args.records) c.args.out.now t.new.out t.result) (c.from-shown.ensures ∙ c.take_number.ensures) t.ensures)
