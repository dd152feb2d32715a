-- A file is a run of additions: its calls leave its state and feed the sketch with the segments that were accepted. So what holds of every
-- list of calls holds of every list of calls and files.
use Prim.Native.Nat.{ℕ, ◌+◌, ◌*◌, ◌≤◌}
use mathlib.Core.Path.{◌≡◌, refl, sym, ap, subst, ◌∙◌}
use mathlib.Core.Bool.{Bool, true, false, cond, ◌&&◌, ◌||◌, not}
use mathlib.Core.List.{List, [], ◌∷◌, ◌++◌}
use lib.Dec.{eqb, ltb, leb}
use Rattle.geometry.specs.Angle.{planar}
use Rattle.geometry.specs.Reply.{Reply, refused, success}
use Rattle.geometry.specs.declared.Line3D.{Line3D}
use Rattle.lists.specs.Lists.{upto}
use Rattle.rotation.specs.Rotation.{key_same}
use Rattle.rules.specs.Keys.{key_of}
use Rattle.rules.specs.Limits.{Limits, Fine, limits}
use Rattle.rules.specs.LineIds.{list_end, lowest_free}
use Rattle.rules.specs.State.{State, roomy, sound}
use Rattle.rules.specs.Adding.{Outcome, demand, Nothing, Added, add}
use Rattle.rules.specs.Extraction.{Lent, RingAnswer, extract}
use Rattle.rules.specs.Sketch.{Sketch, Call, adding, point_at_lem, sketched, feed}
use Rattle.rules.specs.SketchRings.{sketch_holes}
use Rattle.rules.specs.Claim.{is_refused, call, World, turn_world, history, empty_sketch, rings_from, RingRules, SideRules, TableRules, WrittenRules, Given64, AllReal, Claim}
use Rattle.rules.specs.Going.{Going, NoTracingStops}
use Rattle.rules.specs.Filing.{Filed, or_filed, filed, feed_file, Act, single, file, act, acts, calls_of, calls_in, EachGiven, AllGiven, FileClaim, NoFileStops}
use Rattle.lists.proofs.Counts.{true_is_false}
use Rattle.rules.proofs.AddCases.{nu, nv, half, used, known}
use Rattle.rules.proofs.Histories.{whole_claim, fine_limits}
use Rattle.rules.proofs.Going.{no_tracing_stops}

-- ---- a refused addition leaves the state as it was

-- a refusal leaves it
record Firm {A L : Type 0} (s : State) (o : Outcome A L) : Type 0 where
  same : is_refused o.reply ≡ true → o.state ≡ s

-- a success need not
success-firm : {A L : Type 0} (s : State) (o : Outcome A L) (a : A) → o.reply ≡ success a → Firm s o
success-firm s o a e = record { same = λ z. let f : true ≡ false = sym z ∙ ap is_refused e in absurd (true_is_false f) }

-- a test
demand-firm : {A L : Type 0} (b : Bool) (n : ℕ) (s : State) (lists : L) (o : Outcome A L) → Firm s o → Firm s (demand b n s lists o)
demand-firm true n s lists o f = f
demand-firm false n s lists o f = record { same = λ z. refl }

-- either way of a test
cond-firm : {A L : Type 0} (s : State) (b : Bool) (x y : Outcome A L) → Firm s x → Firm s y → Firm s (cond b x y)
cond-firm s true x y p q = p
cond-firm s false x y p q = q

-- an addition
add-firm : (l : Limits) (g : Line3D) (s : State) → Firm s (add l g s)
unfolding add
add-firm l g s =
    let none : Nothing = record {} in
    let some = ltb (lowest_free (used l g s)) l.pairs in
    demand-firm (roomy l s) 6 s none _
    (demand-firm (sound l s) 7 s none _
    (demand-firm (eqb s.stage 0) 5 s none _
    (demand-firm (planar l.bound g.start && planar l.bound g.end) 1 s none _
    (demand-firm (not (key_same (key_of g.start.x g.start.y) (key_of g.end.x g.end.y))) 2 s none _
    (cond-firm s (ltb (half g s) (2 * s.edges)) _ _
    (demand-firm (known l g s || some) 12 s none _ (success-firm s _ _ refl))
    (demand-firm (leb (s.nodes + (cond (nu g s) 1 0 + cond (nv g s) 1 0)) l.nodes) 3 s none _
    (demand-firm (ltb s.edges l.edges) 4 s none _ (demand-firm some 12 s none _ (success-firm s _ _ refl)))))))))

-- ---- the calls of a file

-- calls and then more
history-append : (l : Limits) (cs ds : List Call) (w : World) → history l (cs ++ ds) w ≡ history l ds (history l cs w)
unfolding history
history-append l [] ds w = refl
history-append l (c ∷ cs) ds w = history-append l cs ds (turn_world l c w)

-- one call
history-one : (l : Limits) (c : Call) (cs : List Call) (w : World) → history l (c ∷ cs) w ≡ history l cs (turn_world l c w)
unfolding history
history-one l c cs w = refl

-- an addition on the tables and the sketch
turn-add : (l : Limits) (g : Line3D) (s : State) (k : Sketch)
    → turn_world l (adding g) (record { state = s; sketch = k }) ≡ record { state = (add l g s).state; sketch = feed (is_refused (add l g s).reply) (adding g) k }
unfolding call
turn-add l g s k = refl

-- one segment and then the rest
pub filed-one : (l : Limits) (g : Line3D) (gs : List Line3D) (s : State) → (let o = add l g s in filed l (g ∷ gs) s ≡ or_filed o.reply g s (filed l gs o.state))
unfolding filed
filed-one l g gs s = refl

-- none
pub filed-none : (l : Limits) (s : State) → filed l [] s ≡ record { calls = []; accepted = 0; state = s }
unfolding filed
filed-none l s = refl

-- what the calls of a filing leave
abbrev Leaves : Limits → State → Sketch → List Line3D → Filed → Type 0
Leaves l s k gs f = history l f.calls (record { state = s; sketch = k }) ≡ record { state = f.state; sketch = feed_file gs f.accepted k }

-- by the first segment's reply
leaves-one : (l : Limits) (g : Line3D) (gs : List Line3D) (s t : State) (k : Sketch) (r : Reply Added) (rest : Filed)
    → turn_world l (adding g) (record { state = s; sketch = k }) ≡ record { state = t; sketch = feed (is_refused r) (adding g) k }
    → (is_refused r ≡ true → t ≡ s) → Leaves l t (feed false (adding g) k) gs rest → Leaves l s k (g ∷ gs) (or_filed r g s rest)
unfolding history
leaves-one l g gs s t k (refused n) rest e same more =
    let none : (or_filed (refused n) g s rest).accepted ≡ 0 = refl in
    e ∙ (λ i. record { state = same refl i; sketch = feed true (adding g) k })
leaves-one l g gs s t k (success a) rest e same more = ap (history l rest.calls) e ∙ more

-- THE CALLS OF A FILE, one by one, leave its state, and the sketch fed its segments in order
pub file_feeds : (l : Limits) (gs : List Line3D) (s : State) (k : Sketch) → Leaves l s k gs (filed l gs s)
unfolding history
file_feeds l [] s k = subst (Leaves l s k []) (sym (filed-none l s)) refl
file_feeds l (g ∷ gs) s k =
    let o = add l g s in
    subst (Leaves l s k (g ∷ gs)) (sym (filed-one l g gs s))
    (leaves-one l g gs s o.state k o.reply (filed l gs o.state) (turn-add l g s k) (add-firm l g s).same (file_feeds l gs o.state (feed false (adding g) k)))

-- ---- runs of calls and files

-- what an act leaves is what its calls leave
act-is : (l : Limits) (x : Act) (w : World) → history l (calls_of l x w.state) w ≡ act l x w
unfolding history
act-is l (single c) w = refl
act-is l (file gs) w = file_feeds l gs w.state w.sketch

-- one act and then the rest
calls-one : (l : Limits) (x : Act) (xs : List Act) (w : World) → calls_in l (x ∷ xs) w ≡ calls_of l x w.state ++ calls_in l xs (act l x w)
unfolding calls_in
calls-one l x xs w = refl

-- EVERY RUN OF CALLS AND FILES IS A RUN OF CALLS
pub acts-history : (l : Limits) (xs : List Act) (w : World) → history l (calls_in l xs w) w ≡ acts l xs w
unfolding acts calls_in history
acts-history l [] w = refl
acts-history l (x ∷ xs) w =
    history-append l (calls_of l x w.state) (calls_in l xs (act l x w)) w
    ∙ ap (history l (calls_in l xs (act l x w))) (act-is l x w) ∙ acts-history l xs (act l x w)

-- ---- their floats

-- calls and then more
real_append : (cs ds : List Call) → AllReal cs → AllReal ds → AllReal (cs ++ ds)
real_append [] ds p q = q
real_append (c ∷ cs) ds p q = (p.0, real_append cs ds p.1 q)

-- by the first segment's reply
real_one : (g : Line3D) (s : State) (r : Reply Added) (rest : Filed) → Given64 g → AllReal rest.calls → AllReal (or_filed r g s rest).calls
real_one g s (refused n) rest p q = (p, tt)
real_one g s (success a) rest p q = (p, q)

-- the calls of a file
filed_real : (l : Limits) (gs : List Line3D) (s : State) → EachGiven gs → AllReal (filed l gs s).calls
filed_real l [] s p = subst (λ f. AllReal f.calls) (sym (filed-none l s)) tt
filed_real l (g ∷ gs) s p =
    let o = add l g s in
    subst (λ f. AllReal f.calls) (sym (filed-one l g gs s)) (real_one g s o.reply (filed l gs o.state) p.0 (filed_real l gs o.state p.1))

-- of a run
calls_real : (l : Limits) (xs : List Act) (w : World) → AllGiven xs → AllReal (calls_in l xs w)
unfolding calls_in
calls_real l [] w p = tt
calls_real l (single c ∷ xs) w p = (p.0, calls_real l xs (act l (single c) w) p.1)
calls_real l (file gs ∷ xs) w p =
    real_append (filed l gs w.state).calls (calls_in l xs (act l (file gs) w)) (filed_real l gs w.state p.0) (calls_real l xs (act l (file gs) w) p.1)

-- ---- the claims

-- what the claim says of tables and a sketch
abbrev Holds : Limits → Lent → RingAnswer → World → Type 0
Holds l out r w =
    let o = extract l w.state out in
    let rings = rings_from o.lists.rings (upto r.ringing.count) in
    o.reply ≡ success r
    → RingRules (sketched w.sketch) (point_at_lem w.sketch) rings
    × SideRules (sketched w.sketch) (point_at_lem w.sketch) rings o.lists.rings
    × TableRules w.sketch o.state r.ringing
    × WrittenRules rings (sketch_holes w.sketch) o.lists r

-- the claim of calls
call_claim : (l : Limits) → Fine l → (s : State) → s.nodes ≡ 0 → s.edges ≡ 0 → s.stage ≡ 0 → roomy l s ≡ true
    → (calls : List Call) → AllReal calls → (out : Lent) (r : RingAnswer) → Holds l out r (history l calls (record { state = s; sketch = empty_sketch }))
unfolding Claim
call_claim l fine s n e z room calls real out r = whole_claim l fine s n e z room calls real out r

-- the other law of calls
calls_go : (l : Limits) → l.pairs ≤ list_end → (s : State) → s.nodes ≡ 0 → s.edges ≡ 0 → s.stage ≡ 0 → roomy l s ≡ true
    → (calls : List Call) → Going l (history l calls (record { state = s; sketch = empty_sketch })).state
unfolding NoTracingStops
calls_go l small = no_tracing_stops l small

-- DEMAND 3, for every list of calls and files
pub file_claim : (l : Limits) → Fine l → FileClaim l
unfolding FileClaim
file_claim l fine s n e z room xs real out r =
    let w : World = record { state = s; sketch = empty_sketch } in
    subst (λ v. Holds l out r v) (acts-history l xs w) (call_claim l fine s n e z room (calls_in l xs w) (calls_real l xs w real) out r)

-- and that no tracing stops a consultation
pub no_file_stops : (l : Limits) → l.pairs ≤ list_end → NoFileStops l
unfolding NoFileStops
no_file_stops l small s n e z room xs =
    let w : World = record { state = s; sketch = empty_sketch } in
    subst (λ v. Going l v.state) (acts-history l xs w) (calls_go l small s n e z room (calls_in l xs w))

-- on this library's limits
pub demand_3_files : FileClaim limits
demand_3_files = file_claim limits fine_limits
