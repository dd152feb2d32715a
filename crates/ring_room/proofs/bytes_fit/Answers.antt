use Prim.Native.Nat.{ℕ}
use native.Mathlib.Omega.{arith}
use mathlib.Core.Path.{◌≡◌, refl, sym, ap, ◌∙◌}
use lib.ListN.{drop}
use lib.Seq.{length-take-le, get_or-take}
use borrow.Author.Tests.{le-leb, lt-leb}
use Rattle.lists.specs.Lists.{upto}
use Rattle.ring_writing.specs.Rings.{sizes_at}
use Rattle.ring_writing.proofs.Places.{places_from_lem, places-end}
use Rattle.ring_room.proofs.bytes_fit.Goals as goal

pub loop-size-init : goal.loop-size-init
loop-size-init c = (omega arith, omega arith, refl)

pub returns-then-left-lt-RING_BYTES : goal.returns-then-left-lt-RING_BYTES
returns-then-left-lt-RING_BYTES c =
    let a = c.args in sym (lt-leb (sizes_at a.ring_length.now (upto a.count)) a.room (omega (
      arith,
      (let a = c.args in
          let q = c.loop-size in
          ap (sizes_at a.ring_length.now) (places_from_lem a.count q.size-index (omega (arith, c.loop-size-test.true, length-take-le a.count a.ring_length.now c.requires)))),
    )))

pub returns-then-left-size : goal.returns-then-left-size
returns-then-left-size c =
    let a = c.args in sym (lt-leb (sizes_at a.ring_length.now (upto a.count)) a.room (omega (
      arith,
      get_or-take a.count a.ring_length.now c.loop-size.size-index 0 (omega (arith, c.loop-size-test.true, length-take-le a.count a.ring_length.now c.requires)),
      (let a = c.args in
          let q = c.loop-size in
          ap (sizes_at a.ring_length.now) (places_from_lem a.count q.size-index (omega (arith, c.loop-size-test.true, length-take-le a.count a.ring_length.now c.requires)))),
    )))

pub loop-size-preserved : goal.loop-size-preserved
loop-size-preserved c = (
  omega (arith, c.loop-size-test.true, length-take-le c.args.count c.args.ring_length.now c.requires),
  omega arith,
  omega (
    arith,
    (let a = c.args in
        get_or-take a.count a.ring_length.now c.loop-size.size-index 0 (omega (arith, c.loop-size-test.true, length-take-le a.count a.ring_length.now c.requires))),
    (let a = c.args in
        let q = c.loop-size in
        ap (sizes_at a.ring_length.now) (places_from_lem a.count q.size-index (omega (arith, c.loop-size-test.true, length-take-le a.count a.ring_length.now c.requires)))),
  ),
)

pub returns : goal.returns
returns c =
    let a = c.args in
    let q = c.loop-size in
    let e : q.size-index ≡ a.count = omega (arith, length-take-le a.count a.ring_length.now c.requires) in
    let z = ap (λ (n : ℕ). sizes_at a.ring_length.now (drop n (upto a.count))) e ∙ ap (sizes_at a.ring_length.now) (places-end a.count) in
    sym (le-leb (sizes_at a.ring_length.now (upto a.count)) a.room (omega (arith, z, q.invariant.2)))
