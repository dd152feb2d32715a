-- Demand 3 of every run: its steps are the calls and files of the rules' claim.
use mathlib.Core.Path.{◌≡◌, sym, ap, subst, ◌∙◌}
use mathlib.Core.List.{List}
use Rattle.geometry.specs.Reply.{success}
use Rattle.rules.specs.Limits.{limits}
use Rattle.lists.specs.Lists.{upto}
use Rattle.rules.specs.State.{State, arrangement, point_of}
use Rattle.rules.specs.Euler.{census}
use Rattle.rules.specs.Adding.{Outcome, Nothing}
use Rattle.rules.specs.Extraction.{Lent, RingAnswer, holes_in, extract}
use Rattle.rules.specs.Sketch.{Sketch, point_at_lem, sketched}
use Rattle.rules.specs.SketchRings.{sketch_holes}
use Rattle.rules.specs.Claim.{empty_sketch, rings_from, RingRules, SideRules, TableRules, WrittenRules, SoundClaim}
use Rattle.rules.specs.Filing.{FileClaim}
use Rattle.rules.proofs.ExtractionLaws.{extraction_rules, few-replied}
use Rattle.rules.proofs.Histories.{demand_3_sound}
use Rattle.rules.proofs.Filing.{demand_3_files}
use Rattle.rules.proofs.NamingSteps.{replied-few}
use Rattle.rules.specs.Naming.{FewComparisons}
use Rattle.runs.specs.Tallying.{Adding, TalliesAdd}
use Rattle.runs.proofs.Tallying.{tallies_add}
use Rattle.create_entry.specs.Clause.{Creates}
use Rattle.runs.specs.Runs.{Step, Run, ends, sketch_from, Demand3, Demand3Sound, NamingIsShort, TalliesAddUp, LittleIsWritten}
use Rattle.runs.proofs.Acts.{acts_of, run_acts, run_given, created-new}

-- what the claim says of an outcome, by a sketch
abbrev Says : Sketch → RingAnswer → Outcome RingAnswer Lent → Type 0
Says k r o =
    let rings = rings_from o.lists.rings (upto r.ringing.count) in
    RingRules (sketched k) (point_at_lem k) rings
    × SideRules (sketched k) (point_at_lem k) rings o.lists.rings
    × TableRules k o.state r.ringing
    × WrittenRules rings (sketch_holes k) o.lists r

-- the claim, of the world that a run ends in
claimed : (tables new : State) (none : Nothing) → Creates tables (success none) new → (steps : List Step) → Run new steps → (out : Lent) (r : RingAnswer)
    → (extract limits (ends new steps) out).reply ≡ success r → Says (sketch_from empty_sketch steps) r (extract limits (ends new steps) out)
unfolding FileClaim
claimed tables new none c steps run out r =
    let n = created-new tables new none c in
    subst (λ w. (extract limits w.state out).reply ≡ success r → Says w.sketch r (extract limits w.state out)) (run_acts new empty_sketch steps run)
    (demand_3_files new n.0 n.1 n.2 n.3 (acts_of steps) (run_given new steps run) out r)

pub demand3 : Demand3
unfolding Demand3
demand3 tables new none c steps run out written last r e =
    subst (Says (sketch_from empty_sketch steps) r) (sym e) (claimed tables new none c steps run out r (ap (λ z. z.reply) (sym e)))

-- what it says by a state
abbrev SaysSound : State → RingAnswer → Lent → Type 0
SaysSound s r lists =
    let rings = rings_from lists.rings (upto r.ringing.count) in
    RingRules (arrangement s) (point_of s) rings
    × SideRules (arrangement s) (point_of s) rings lists.rings
    × (r.ringing.census ≡ census (arrangement s))
    × WrittenRules rings (holes_in s) lists r

pub demand3_sound : Demand3Sound
unfolding Demand3Sound SoundClaim
demand3_sound s last out written r e =
    subst (SaysSound s r) (ap (λ z. z.lists) (sym e)) (demand_3_sound s out r (ap (λ z. z.reply) (sym e)))

-- ---- how long naming takes

pub naming_is-short : NamingIsShort
unfolding NamingIsShort
naming_is-short s last out written r e =
    subst (λ lists. FewComparisons (rings_from lists.rings (upto r.ringing.count)) r.ringing.comparisons) (ap (λ z. z.lists) (sym e))
    (replied-few limits s out r (ap (λ z. z.reply) (sym e)))

-- ---- what the walks counted

pub tallies_add_up : TalliesAddUp
unfolding TalliesAddUp TalliesAdd
tallies_add_up s last out written r e =
    let before = (extraction_rules limits s out r (ap (λ z. z.reply) (sym e))).before in
    subst (λ lists. Adding lists r.ringing) (ap (λ z. z.lists) before ∙ ap (λ z. z.lists.rings) (sym e))
    (tallies_add limits s out.rings r.ringing (ap (λ z. z.reply) before))

-- ---- how much is written

pub little_is-written : LittleIsWritten
unfolding LittleIsWritten TalliesAddUp Demand3Sound
little_is-written s last out written r e =
    let reply = ap (λ z. z.reply) (sym e) in
    let t = tallies_add_up s last out written r e in
    let w = (demand3_sound s last out written r e).3 in
    (w.half_edge_count ∙ sym t.written ∙ t.replied, few-replied limits s out r reply)
