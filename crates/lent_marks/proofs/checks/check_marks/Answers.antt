-- `check_marks` meets its contract: number 6 decides, then the bytes in use.
use mathlib.Core.Path.{sym, ◌∙◌}
use Rattle.rules.specs.Limits.{limits}
use Rattle.lent_marks.proofs.Testing.{bytes-room, checked_by}
use Rattle.lent_marks.proofs.checks.check_marks.Goals as goal

pub are_plain-requires : goal.are_plain-requires
are_plain-requires c =
    let a = c.args in
    bytes-room limits a.graph a.floats.now a.numbers.now a.stars.now a.marks.now a.ids.now (sym (c.has_room.ensures c.args.graph) ∙ c.if-has_room.true)

pub returns-then-are_plain : goal.returns-then-are_plain
returns-then-are_plain c =
    let plain = sym c.are_plain.ensures ∙ c.if-are_plain.true in
    sym (λ i. checked_by ((sym (c.has_room.ensures c.args.graph) ∙ c.if-has_room.true) i) (plain i))

pub returns-then-has_room : goal.returns-then-has_room
returns-then-has_room c =
    let plain = sym c.are_plain.ensures ∙ c.if-are_plain.false in
    sym (λ i. checked_by ((sym (c.has_room.ensures c.args.graph) ∙ c.if-has_room.true) i) (plain i))

pub returns : goal.returns
returns c = rw (sym (c.has_room.ensures c.args.graph) ∙ c.if-has_room.false)
