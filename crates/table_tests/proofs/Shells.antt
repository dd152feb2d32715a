-- What the public entries need of this crate: from number 6 and number 7 to what its functions ask, and what resetting leaves.
use Prim.Native.Nat.{ℕ, ◌*◌, ◌<◌}
use native.Mathlib.Omega.{arith}
use mathlib.Core.Path.{◌≡◌, sym, ◌∙◌}
use mathlib.Core.Bool.{true, false}
use mathlib.Core.List.{map}
use lib.ListN.{length, replicate}
use lib.Seq.{ext_get_or}
use Rattle.lists.specs.Lists.{upto, over}
use Rattle.rules.specs.Limits.{Limits}
use Rattle.rules.specs.State.{State, star_of, roomy, sound}
use Rattle.rules.specs.Stages.{next, reset}
use Rattle.geometry.specs.Reply.{success}
use Rattle.rules.proofs.Soundness.{is-roomy, is-sound}
use Rattle.rules.proofs.Tables.{source-below}
use Rattle.rules.proofs.Values.{get_d_map-upto}
use Rattle.table_tests.specs.Tests.{starts_at}
use Rattle.table_tests.specs.Given.{Room, Resettable}
use Rattle.table_tests.proofs.Standing.{star-starts}
use Rattle.tables.proofs.Writing.{length-map-upto}

-- number 6 gives what the soundness test asks
pub room-given : (l : Limits) (s : State) → roomy l s ≡ true
    → Room l s.node_x s.node_y s.degree s.node_mark s.source s.target s.half_mark s.star
room-given l s e =
    let r = is-roomy l s e in
    record {
      x_room = r.node_x;
      y_room = r.node_y;
      degree_room = r.degree;
      node_mark_room = r.node_mark;
      source_room = r.source;
      target_room = r.target;
      half_mark_room = r.half_mark;
      star_room = r.star;
    }

-- numbers 6 and 7 give what resetting asks
pub reset-given : (l : Limits) (s : State) → roomy l s ≡ true → sound l s ≡ true
    → Resettable l s.nodes s.edges s.source s.degree s.node_mark s.half_mark
reset-given l s e t =
    let r = is-roomy l s e in
    let q = is-sound l s t in
    record {
      few_nodes = q.nodes;
      few_edges = q.edges;
      source_room = omega (arith, q.edges, r.source);
      degree_room = omega (arith, q.nodes, r.degree);
      node_mark_room = omega (arith, q.nodes, r.node_mark);
      half_mark_room = omega (arith, q.edges, r.half_mark);
      starts = source-below l s q;
    }

-- values that agree below n
map_agree : (f g : ℕ → ℕ) (n : ℕ) → ((k : ℕ) → k < n → f k ≡ g k) → map f (upto n) ≡ map g (upto n)
map_agree f g n e = ext_get_or 0 (map f (upto n)) (map g (upto n)) (length-map-upto f n ∙ sym (length-map-upto g n))
    (λ i q.
    let h : i < n = omega (arith, length-map-upto f n) in
    get_d_map-upto f n i 0 h ∙ e i h ∙ sym (get_d_map-upto g n i 0 h))

-- the degrees of a sound state in which nothing is marked
pub degrees_are : (l : Limits) (s : State) → sound l s ≡ true
    → map (starts_at s.source (2 * s.edges)) (upto s.nodes) ≡ map (λ n. length (star_of s n)) (upto s.nodes)
unfolding star_of
degrees_are l s t = map_agree (starts_at s.source (2 * s.edges)) (λ n. length (star_of s n)) s.nodes
    (λ n h. sym (star-starts s.source s.star (2 * s.edges) n (is-sound l s t).stars))

-- resetting, with the degrees as `reset_tables` counts them
pub reset-is : (l : Limits) (s : State) → roomy l s ≡ true → sound l s ≡ true
    → reset l s ≡ record {
      reply = success (record {});
      state = next s 0
          (over (map (starts_at s.source (2 * s.edges)) (upto s.nodes)) s.degree)
          (over (replicate s.nodes false) s.node_mark)
          (over (replicate (2 * s.edges) false) s.half_mark)
          s.star;
      lists = record {};
    }
unfolding reset
reset-is l s e t = rw (e, t, degrees_are l s t)
