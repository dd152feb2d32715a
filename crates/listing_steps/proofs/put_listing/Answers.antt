-- `put_listing` meets its contract: the steps leave a cut graph, and what follows is its text.
use mathlib.Core.Path.{sym, ap, subst}
use Rattle.rules.specs.Limits.{limits}
use Rattle.rules.specs.State.{State}
use Rattle.rules.specs.Listing.{cut_text}
use Rattle.tables.specs.Regions.{state_in}
use Rattle.lists.specs.Buffer.{Put}
use Rattle.map_steps.specs.Stands.{Stands}
use Rattle.map_steps.proofs.Steps.{mapped_stands}
use Rattle.listing_steps.specs.Due.{Due}
use Rattle.listing_steps.proofs.put_listing.Goals as goal
use Rattle.listing_steps.proofs.put_listing.Goals.{Start}

-- the state that the slices held
abbrev held : Start → State
held c = let a = c.args in state_in limits a.graph a.floats.now a.numbers.now a.stars.now a.marks.now a.ids.now

-- the steps of a map are due
stands : (c : Start) → Stands 0 (held c)
stands c = record { held = c.requires.held; here = c.requires.here }

pub cut_map-map-requires : goal.cut_map-map-requires
cut_map-map-requires c = stands (goal.at.cut_map-map-requires c).Start

pub put_cut-requires : goal.put_cut-requires
put_cut-requires c =
    let k = (goal.at.put_cut-requires c).Start in
    let d = mapped_stands (held k) (stands k) in
    subst (λ x. Due 3 x c.args.out.now) (sym (ap (λ m. m.state) c.cut_map-map.ensures)) (record { held = d.held; here = d.here; room = c.requires.room })

pub returns : goal.returns
returns c =
    let t = c.put_cut in
    subst (λ x. Put 0 x c.args.out.now t.new.out t.result) (ap (λ m. cut_text m.dangles m.cuts m.state) c.cut_map-map.ensures) t.ensures
