-- Pruning as a run of turns: what holds between them, from the first stack to the last edge.
use Prim.Native.Nat.{ℕ, ◌+◌, ◌-◌, ◌<◌, ◌≤◌}
use native.Mathlib.Omega.{arith}
use mathlib.Core.Path.{◌≡◌, refl, sym, ap, subst, ◌∙◌}
use mathlib.Core.Bool.{Bool}
use mathlib.Core.List.{List, [], reverse}
use lib.ListN.{length, get_or, drop}
use lib.Seq.{drop-drop}
use Rattle.lists.specs.Lists.{below, In, over}
use Rattle.lists.proofs.Counts.{in_head}
use Rattle.rules.specs.Limits.{Limits}
use Rattle.rules.specs.Prune.{Pruning, take_from, prune}
use Rattle.rules.proofs.Dangles.{found_le}
use Rattle.rules.proofs.PruneEnds.{remaining, remaining_less, Underway, underway_start, underway_turn, underway_end}
use Rattle.stars.specs.Groups.{group_of}
use Rattle.leaves.specs.declared.Progress.{Progress}
use Rattle.leaves.specs.Given.{origin_in, Prunable}
use Rattle.leaves.specs.Steps.{leaf, latest, tables_at, Reached, Turning, top_of}
use Rattle.leaves.proofs.Latest.{length-latest, over-latest}
use Rattle.leaves.proofs.Turns.{stack_is, takes}

module _ (l : Limits) (nodes edges : ℕ) (offsets grouped source ds₀ : List ℕ) (nm₀ hm₀ : List Bool) (out₀ : List ℕ) where
  -- between turns: the tables are on the way from those at entry to what pruning makes of them
  pub record Running (ds : List ℕ) (nm hm : List Bool) (stack out : List ℕ) (at : Progress) : Type 0 where
    pub given : Prunable l nodes edges offsets grouped source ds₀ nm₀ hm₀ out₀
    pub under : Underway nodes edges (group_of offsets grouped) (origin_in source) given.starred.stars ds₀ nm₀ hm₀ given.counted (tables_at ds nm hm stack out at)
    pub reached : Reached 0 out₀ out stack at
    pub list_size : length out ≡ length out₀

  -- before the first turn
  pub run_start : (k : ℕ) (stack : List ℕ) → Prunable l nodes edges offsets grouped source ds₀ nm₀ hm₀ out₀ → nodes ≤ length stack
      → latest k stack ≡ reverse (below (leaf ds₀ nm₀) nodes) → k ≤ nodes → Running ds₀ nm₀ hm₀ stack out₀ (record { stacked = k; found = 0 })
  run_start k stack p size e few = record {
    given = p;
    under = subst (λ x. Underway nodes edges (group_of offsets grouped) (origin_in source) p.starred.stars ds₀ nm₀ hm₀ p.counted x)
        (ap (λ s. record { degrees = ds₀; node_marks = nm₀; half_marks = hm₀; stack = s; found = [] }) (sym e))
        (underway_start nodes edges (group_of offsets grouped) (origin_in source) p.starred.stars ds₀ nm₀ hm₀ p.counted);
    reached = record { rises = omega arith; stack_room = omega arith; list_room = omega arith; rest = refl };
    list_size = refl;
  }

  module _ (ds : List ℕ) (nm hm : List Bool) (stack out : List ℕ) (at : Progress) (r : Running ds nm hm stack out at) where
    -- the tables as the rule has them
    abbrev now : Pruning
    now = tables_at ds nm hm stack out at

    -- as many are stacked as is said
    stack-size : length now.stack ≡ at.stacked
    stack-size = length-latest at.stacked stack r.reached.stack_room

    -- as many were found
    pub found-size : length now.found ≡ at.found
    found-size = length-latest at.found out r.reached.list_room

    -- at most all edges
    pub found-few : at.found ≤ edges
    found-few = omega (arith, found-size, found_le edges hm₀ hm now.found r.under.kept.listed)

    module _ (some : 0 < at.stacked) where
      -- the turn that follows
      abbrev then : Pruning
      then = take_from (group_of offsets grouped) (origin_in source) now.stack now

      -- what holds after it
      under_then : Underway nodes edges (group_of offsets grouped) (origin_in source) r.given.starred.stars ds₀ nm₀ hm₀ r.given.counted then
      under_then = underway_turn nodes edges (group_of offsets grouped) (origin_in source) r.given.starred.stars ds₀ nm₀ hm₀ r.given.counted now r.under (omega (arith, stack-size))

      -- where an edge is taken, the list has room for it
      list_room_lem : get_or ds (top_of stack at) 0 ≡ 1 → at.found < length out
      list_room_lem one =
          let e = takes (group_of offsets grouped) (origin_in source) ds nm hm stack out at some r.reached.stack_room _ one refl in
          omega (
            arith,
            r.list_size,
            r.given.list_room,
            found-size,
            ap (λ p. length p.found) e,
            found_le edges hm₀ then.half_marks then.found under_then.kept.listed,
          )

      -- a turn can be made
      pub run_turning : Turning offsets grouped source ds nm hm stack out at
      run_turning =
          record {
            nodes = nodes;
            edges = edges;
            some = some;
            stack_room = r.reached.stack_room;
            node = r.under.kept.waiting.nodes (top_of stack at)
                (subst (λ s. In (top_of stack at) s) (sym (stack_is stack at some r.reached.stack_room))
                (in_head (top_of stack at) (top_of stack at) (latest (at.stacked - 1) stack) refl));
            starred = r.given.starred;
            counted = r.under.kept.counted;
            list_end = r.reached.list_room;
            list_room = list_room_lem;
          }

      module _ (ds' : List ℕ) (nm' hm' : List Bool) (stack' out' : List ℕ) (at' : Progress) (e : tables_at ds' nm' hm' stack' out' at' ≡ then) where
        -- less is left
        pub run_less : remaining edges (tables_at ds' nm' hm' stack' out' at') < remaining edges now
        run_less = subst (λ p. remaining edges p < remaining edges now) (sym e)
            (remaining_less nodes edges (group_of offsets grouped) (origin_in source) r.given.starred.stars hm₀ now r.under.kept (omega (arith, stack-size)))

        -- after the turn
        pub run_turned : Reached at.found out out' stack' at' → length out' ≡ length out → Running ds' nm' hm' stack' out' at'
        run_turned t same =
            let k : at'.found ≡ at.found + (at'.found - at.found) = omega (arith, t.rises) in
            record {
              given = r.given;
              under = subst (λ x. Underway nodes edges (group_of offsets grouped) (origin_in source) r.given.starred.stars ds₀ nm₀ hm₀ r.given.counted x) (sym e) under_then;
              reached = record {
                rises = omega arith;
                stack_room = t.stack_room;
                list_room = t.list_room;
                rest = t.rest ∙ ap (λ n. drop n out) k ∙ sym (drop-drop (at'.found - at.found) at.found out) ∙ ap (drop (at'.found - at.found)) r.reached.rest
                    ∙ drop-drop (at'.found - at.found) at.found out₀ ∙ ap (λ n. drop n out₀) (sym k);
              };
              list_size = same ∙ r.list_size;
            }

    -- with nothing stacked it is done
    pub run_end : at.stacked ≡ 0 → now ≡ prune (group_of offsets grouped) (origin_in source) nodes edges ds₀ nm₀ hm₀
    run_end z = underway_end nodes edges (group_of offsets grouped) (origin_in source) r.given.starred.stars ds₀ nm₀ hm₀ r.given.counted now r.under
        (ap (λ k. latest k stack) z)

    -- the list holds what was found
    pub run_listed : out ≡ over (reverse now.found) out₀
    run_listed = over-latest at.found out₀ out r.reached.list_room r.reached.rest
