-- Demand 3: what a batcher that begins in its default state does under any calls on a valid simulation, whatever the other rows hold. What `post` and `put` leave are instances. The theorems stand at the end. Assumes nothing.
use Rattle.std.specs.Prelude.{ℕ, zero, suc, ◌+◌, ◌-◌, ◌/◌, ◌%◌, ◌≤◌, ◌<◌, ◌≡◌, refl, Bool, false, List, [], ◌∷◌, ◌++◌, length, get_or, take, T, Float}
use Rattle.std.proofs.Common.{sym, ap, ◌∙◌, subst, inl, inr, append-nil, arith, length-append}
use Rattle.std.proofs.Math.Seq.{get_or-append_seam}
use Rattle.times.specs.Time.{is_never}
use Rattle.times.proofs.Laws as law
use Rattle.rules.specs.declared.Refusal.{Refusal}
use Rattle.rules.specs.declared.Refusal.TheVariants.{InvalidModelState, NoQueueRoom}
use Rattle.rules.specs.declared.BatcherPhase.{BatcherPhase}
use Rattle.rules.specs.declared.BatcherPhase.TheVariants as batching
use Rattle.rules.specs.declared.Batcher.{Batcher}
use Rattle.rules.specs.Base.{Outcome, refused, done}
use Rattle.rules.specs.Table.{Kind, batcher, Table, kind_at}
use Rattle.rules.specs.Intake.{Posted, intake, taken_in}
use Rattle.rules.specs.Simulation.{BatcherState, State, of_processor, of_batcher, of_stopwatch, of_coupled, Simulation, fresh, fresh_all, fresh_batcher, state_at, as_batcher}
use Rattle.rules.specs.Models.{Kept, batcher_external}
use Rattle.rules.specs.Step.{Happening, came, World, external_as, external}
use Rattle.rules.specs.Calls.{post, put, Call}
use Rattle.rules.specs.Valid.{is_valid}
use Rattle.rules.specs.Ends.{All, Ends, stops, goes, ends-if, ends-bind, ends-map, ends-refused, Whatever, ends-whatever, ends-done}
use Rattle.rules.specs.Depth.{Fine, fine}
use Rattle.rules.proofs.Worlds.{world_of}
use Rattle.rules.proofs.Runs.{Valid, valid-of, step-ends, CallFits, Carried, calls-keeps, fresh_at, put-valid, post-valid}
use Rattle.promises.specs.Story.{Event, Accepted, history, joined, accepted, releases, released, after_event, state_then, Lawful, Moment, Acceptance, ahead, event_number, place_in_it, Comes, event_at, Leaves, BeginsFresh, CapacityNone, SixElsewhere, happened, left_by, Demand, advances_until, Within, AcceptsWithRoom, Beyond, OfAll}
use Rattle.promises.specs.Demand3.{AllFresh}
use Rattle.promises.proofs.Six.{six-elsewhere}
use Rattle.promises.specs.Machine.{Sized, Shape, Sound, fresh-sound, NoRoom, Took, accept-ends, accept-takes, history-sound, conserved, Goes, goes_in, counts-down, history-append, lawful-split, Lived, Told, this-row, row_sized, lived-sound, ToldIn, told-closed}

-- a batcher's default state, as a test
abbrev fresh_parts : BatcherPhase → Float → List ℕ → Bool
fresh_parts batching.Passive timer [] = is_never timer
fresh_parts batching.Passive timer (job ∷ jobs) = false
fresh_parts batching.Batching timer jobs = false
fresh_parts batching.Release timer jobs = false

abbrev pub is_fresh : State → Bool
is_fresh (of_processor s) = false
is_fresh (of_batcher s) = fresh_parts s.phase s.timer s.jobs
is_fresh (of_stopwatch s) = false
is_fresh (of_coupled parked) = false

fresh-is : (s : State) → T (is_fresh s) → s ≡ of_batcher fresh_batcher
fresh-is (of_processor s) h = absurd h
fresh-is (of_batcher s) h = go s.phase s.timer s.jobs h
  where
    go : (phase : BatcherPhase) (timer : Float) (jobs : List ℕ) → T (fresh_parts phase timer jobs) → of_batcher (record { phase = phase; timer = timer; jobs = jobs }) ≡ of_batcher fresh_batcher
    go batching.Passive timer [] h = ap (λ (z : Float). of_batcher (record { phase = batching.Passive; timer = z; jobs = [] })) (law.never-is timer h)
    go batching.Passive timer (job ∷ jobs) h = absurd h
    go batching.Batching timer jobs h = absurd h
    go batching.Release timer jobs h = absurd h
fresh-is (of_stopwatch s) h = absurd h
fresh-is (of_coupled parked) h = absurd h

-- the rows that begin in a batcher's default state
abbrev pub began : Simulation → ℕ → Bool
began start i = is_fresh (state_at start.states i)

pub began-so : (start : Simulation) (i : ℕ) → BeginsFresh start i → T (began start i)
began-so start i e = subst (λ (s : State). T (is_fresh s)) (sym e) tt

-- ---- what `post` and `put` leave
-- so every batcher in it begins
pub fresh-begins : (start : Simulation) → AllFresh start → (row : ℕ) (b : Batcher) → kind_at start.table row ≡ batcher b → BeginsFresh start row
fresh-begins start h row b e = ap (λ (z : List State). state_at z row) h.default ∙ fresh_at start.table row ∙ ap fresh e

-- and 6 comes from a processor of capacity 0 alone: Passive is not Release
pub capacity-alone : (start : Simulation) → AllFresh start → SixElsewhere start → CapacityNone start.table
capacity-alone start h (inl c) = c
capacity-alone start h (inr (i, b, s, e, q, phase, l)) =
    let is : fresh_batcher ≡ s = ap as_batcher (sym (fresh-begins start h i b e) ∙ q) in
    absurd (let d : batching.Passive ≡ batching.Release = ap (λ (z : BatcherState). z.phase) is ∙ phase in let z : ◌≡◌ {A = ℕ} 0 1 = cc in omega arith)

post-default : (p : Posted) → Ends Whatever (λ (s : Simulation). s.states ≡ fresh_all s.table) (post p)
unfolding post
post-default p = ends-bind _ (ends-whatever (taken_in (intake p))) (λ t _. goes refl)

put-default : (p : Posted) (sim : Simulation) → Ends Whatever (λ (s : Simulation). T (is_valid sim) × (s.states ≡ fresh_all s.table)) (put p sim)
unfolding put
put-default p sim = ends-if (is_valid sim) (λ v. ends-bind _ (ends-whatever (taken_in (intake p))) (λ t _. goes (v, refl))) (λ _. stops tt)

-- what `post` answers is a new simulation of a table that passes intake
pub post-fresh : (p : Posted) (sim : Simulation) → post p ≡ done sim → AllFresh sim
post-fresh p sim e = record { valid = valid-of sim (ends-done (post-valid p) e); default = ends-done (post-default p) e }

-- and `put` answers one with all its models in the default state, whatever messages, clock and place it keeps
pub put-fresh : (p : Posted) (sim next : Simulation) → put p sim ≡ done next → AllFresh next
put-fresh p sim next e = let k = ends-done (put-default p sim) e in record { valid = valid-of next (ends-done (put-valid p sim k.0) e); default = k.1 }

-- ---- a simulation that calls lead to: it is valid, of the same table, and its log tells of every batcher that began in its default state
pub record Reached (t : Table) (rows : ℕ → Bool) (sim : Simulation) (log : List Happening) : Type 0 where
  pub valid : Valid sim
  pub table : sim.table ≡ t
  pub told : Told t rows log sim.states

carried : (t : Table) (rows : ℕ → Bool) → Carried Whatever (Reached t rows)
carried t rows = record {
  other = λ r o. tt;
  valid = λ sim log h. h.valid;
  change = λ sim next log e f g v h. record { valid = v; table = e ∙ h.table; told = subst (Told t rows log) (sym f) h.told };
  forward = λ services sim log short h.
      let ok = fine sim.table h.valid.table in
      let now : ToldIn sim.table ok rows log (world_of sim []) = subst (λ (z : List Happening). Told sim.table rows z sim.states) (sym (append-nil log)) (subst (λ (z : Table). Told z rows log sim.states) (sym h.table) h.told) in
      ends-map (step-ends Whatever (ToldIn sim.table ok rows log) services sim short (told-closed sim.table ok rows log) h.valid now) (λ r _. tt)
      (λ r k. record { valid = k.0; table = k.1 ∙ h.table; told = subst (λ (z : Table). Told z rows (log ++ r.1) r.0.states) h.table k.2 });
}

starts-reached : (start : Simulation) → Valid start → Reached start.table (began start) start []
starts-reached start v = record { valid = v; table = refl; told = λ row b e since. record { lawful = tt; state = fresh-is (state_at start.states row) since } }

pub calls-reach : (start : Simulation) → Valid start → (cs : List Call) → All CallFits cs → Reached start.table (began start) (left_by start cs) (happened start cs)
calls-reach start v cs fs = calls-keeps Whatever (Reached start.table (began start)) (carried start.table (began start)) cs start [] fs (starts-reached start v)

-- ---- releases counted from 0, and internal events numbered from 1
numbered : (b : Batcher) (ok : Sized b) (events : List (List ℕ)) (q r v p : ℕ) → Goes b ok events q r v p → Leaves events (q + 1) r v p
numbered b ok events q r v p g =
    let e : q ≡ q + 1 - 1 = omega arith in
    record {
      from_one = omega arith;
      there = subst (λ (k : ℕ). r < length (get_or events k [])) e g.there;
      is = subst (λ (k : ℕ). get_or (get_or events k []) r 0 ≡ v) e g.is;
      itself = subst (λ (k : ℕ). length (joined (take k events)) + r ≡ p) e g.itself;
    }

-- ---- over the lawful history of a batcher
module _ (b : Batcher) (ok : Sized b) (row : ℕ) (log : List Happening) (lawful : Lawful b fresh_batcher (history row log)) where
  -- at a moment
  parted : (n : Moment log) → Lawful b fresh_batcher (history row n.before) × Lawful b (state_then b row n.before) (history row n.later)
  parted n = lawful-split b (history row n.before) (history row n.later) fresh_batcher (subst (Lawful b fresh_batcher) (ap (history row) n.all ∙ history-append row n.before n.later) lawful)

  then-sound : (n : Moment log) → Sound b (state_then b row n.before)
  then-sound n = history-sound b ok (history row n.before) fresh_batcher (fresh-sound b ok) (parted n).0

  then-in-order : (n : Moment log) → released row n.before ++ (state_then b row n.before).jobs ≡ accepted row n.before
  then-in-order n = conserved b ok (history row n.before) fresh_batcher (fresh-sound b ok) (parted n).0

  then-leaves : (n : Moment log) (p : ℕ) → p < length (state_then b row n.before).jobs → Comes (event_number b.max_batch_size p) (releases row n.later)
      → Leaves (releases row n.later) (event_number b.max_batch_size p) (place_in_it b.max_batch_size p) (get_or (state_then b row n.before).jobs p 0) p
  then-leaves n p l c =
      numbered b ok (releases row n.later) (p / b.max_batch_size) (p % b.max_batch_size) (get_or (state_then b row n.before).jobs p 0) p
      (goes_in b ok (history row n.later) (state_then b row n.before) (then-sound n) (parted n).1 p l (omega arith))

  -- at an acceptance
  module _ (a : Acceptance row log) where
    abbrev at : Moment log
    at = record { before = a.before; later = came a.clock row a.port a.job Kept ∷ a.later; all = a.all }

    abbrev was : BatcherState
    was = state_then b row a.before

    abbrev next : BatcherState
    next = after_event b (Accepted a.job) was

    cut : Lawful b fresh_batcher (history row a.before) × Lawful b was (Accepted a.job ∷ history row a.later)
    cut =
        lawful-split b (history row a.before) (Accepted a.job ∷ history row a.later) fresh_batcher
        (subst (Lawful b fresh_batcher)
        (ap (history row) a.all ∙ history-append row a.before (came a.clock row a.port a.job Kept ∷ a.later)
        ∙ ap (λ (z : List Event). history row a.before ++ (z ++ history row a.later)) (this-row row (Accepted a.job ∷ []))) lawful)

    took : Took b a.job was next
    took = accept-takes b ok a.job was (then-sound at) cut.1.0

    -- the jobs ahead are those held
    ahead-held : ahead a ≡ length was.jobs
    ahead-held =
        let e = ap length (then-in-order at) in
        omega (arith, e, length-append (released row a.before) was.jobs)

    among : ahead a < length next.jobs
    among = subst (λ (z : List ℕ). ahead a < length z) (sym took.last) (omega (arith, ahead-held, length-append was.jobs (a.job ∷ [])))

    is-it : get_or next.jobs (ahead a) 0 ≡ a.job
    is-it =
        ap (λ (z : List ℕ). get_or z (ahead a) 0) took.last ∙ ap (λ (z : ℕ). get_or (was.jobs ++ a.job ∷ []) z 0) ahead-held
        ∙ get_or-append_seam was.jobs a.job [] 0

    leaving : Comes (event_number b.max_batch_size (ahead a)) (releases row a.later)
        → Leaves (releases row a.later) (event_number b.max_batch_size (ahead a)) (place_in_it b.max_batch_size (ahead a)) a.job (ahead a)
    leaving c =
        subst (λ (v : ℕ). Leaves (releases row a.later) (event_number b.max_batch_size (ahead a)) (place_in_it b.max_batch_size (ahead a)) v (ahead a)) is-it
        (numbered b ok (releases row a.later) (ahead a / b.max_batch_size) (ahead a % b.max_batch_size) (get_or next.jobs (ahead a) 0) (ahead a)
        (goes_in b ok (history row a.later) next took.sound cut.1.1 (ahead a) among (omega arith)))

    waiting : Within b.max_batch_time (advances_until (ahead a / b.max_batch_size) (history row a.later))
    waiting =
        let t = law.time-timer b.max_batch_time ok.a-time in
        let r = law.timers-reflexive b.max_batch_time t in
        counts-down b ok (history row a.later) next took.sound cut.1.1 (ahead a) among b.max_batch_time t
        (took.sound.below (let l = among in omega arith)) (λ _. r)

-- ---- a sound state's answers
abbrev NotSix : Refusal → Type 0
NotSix r = r ≡ InvalidModelState → ⊥

seven-not-six : (r : Refusal) → r ≡ NoQueueRoom → NotSix r
seven-not-six r h e = let z : ◌≡◌ {A = ℕ} 0 1 = cc in omega arith

not-six : (b : Batcher) → Sized b → (job : ℕ) (s : BatcherState) → Sound b s → batcher_external b job s ≡ refused InvalidModelState → ⊥
not-six b ok job s good q = seven-not-six InvalidModelState (ends-refused (accept-ends b ok job s good) q).seven refl

takes : (b : Batcher) → Sized b → (s : BatcherState) → Sound b s → AcceptsWithRoom batcher_external b s
takes b ok s good job l = go (accept-ends b ok job s good)
  where
    go : {o : Outcome BatcherState} → Ends (NoRoom s) (Took b job s) o → (next : BatcherState) × (o ≡ done next) × (next.jobs ≡ s.jobs ++ job ∷ [])
    go (stops n) = let f = n.full in absurd (omega arith)
    go (goes {a = next} k) = (next, refl, k.last)

full-in-release : (b : Batcher) (s : BatcherState) → Sound b s → s.phase ≡ batching.Release → b.max_batch_size ≤ length s.jobs
full-in-release b s good e = subst (λ (z : BatcherPhase). Shape z (length s.jobs) b.max_batch_size) e good.shape

-- in every world whose log tells of its batchers, which each event of a step keeps (`Machine.told-closed`), no event at a batcher that began in its default state gives 6
pub event-never-six : (t : Table) → Fine t → (rows : ℕ → Bool) (services : List Float) (w : World) (log : List Happening) → Told t rows log w.states → (row : ℕ) (b : Batcher) → kind_at t row ≡ batcher b
    → T (rows row) → (depth : ℕ) (clock : Float) (port job : ℕ) → external t services (suc depth) clock row port job w ≡ refused InvalidModelState → ⊥
unfolding external
event-never-six t ok rows services w log told row b e f depth clock port job q =
    ends-refused {Q = Whatever} {r = InvalidModelState} (subst (λ (k : Kind). Ends NotSix Whatever (external_as t services k (external t services depth clock) clock row port job w)) (sym e)
    (ends-bind {Q = Whatever} _ (ends-map {R = Whatever} (accept-ends b (row_sized t ok row b e) job (as_batcher (state_at w.states row)) sound) (λ r n. seven-not-six r n.seven) (λ _ _. tt)) (λ n _. goes tt))) q refl
  where
    sound : Sound b (as_batcher (state_at w.states row))
    sound = let l = told row b e f in subst (Sound b) (sym (ap as_batcher l.state)) (lived-sound t ok row b log e l.lawful)

-- ---- the theorems
module _ (start : Simulation) (valid : Valid start) (cs : List Call) (fs : All CallFits cs) (row : ℕ) (b : Batcher) (is : kind_at start.table row ≡ batcher b) (default : BeginsFresh start row) where
  ok : Sized b
  ok = row_sized start.table (fine start.table valid.table) row b is

  lived : Lived b row (happened start cs) (left_by start cs).states
  lived = (calls-reach start valid cs fs).told row b is (began-so start row default)

  -- for every valid simulation, every batcher row of it (inside Coupleds too) that is in its default state, and every list of calls, whatever the other rows hold
  pub demanded : Demand start cs row b
  demanded = record {
    lawful = lived.lawful;
    state = lived.state;
    leaves = leaving b ok row (happened start cs) lived.lawful;
    timely = λ n. (then-sound b ok row (happened start cs) lived.lawful n).below;
    in_order = then-in-order b ok row (happened start cs) lived.lawful;
    never-six = λ n job. not-six b ok job (state_then b row n.before) (then-sound b ok row (happened start cs) lived.lawful n);
    six-is-anothers = six-elsewhere start valid cs fs;
  }

  pub beyond : Beyond start cs row b
  beyond = record {
    size = (ok.some_size, ok.most-size);
    accepts = λ n. takes b ok (state_then b row n.before) (then-sound b ok row (happened start cs) lived.lawful n);
    held-leaves = then-leaves b ok row (happened start cs) lived.lawful;
    release-holds = λ n. full-in-release b (state_then b row n.before) (then-sound b ok row (happened start cs) lived.lawful n);
    at_once = λ n. (then-sound b ok row (happened start cs) lived.lawful n).at_once;
    no-later = λ a. (took b ok row (happened start cs) lived.lawful a).no-later;
    one-batch-time = waiting b ok row (happened start cs) lived.lawful;
  }

-- the same of a simulation that 20 lets pass
pub demand-3 : (start : Simulation) → T (is_valid start) → (cs : List Call) → All CallFits cs → (row : ℕ) (b : Batcher) → kind_at start.table row ≡ batcher b → BeginsFresh start row → Demand start cs row b
demand-3 start v = demanded start (valid-of start v)

pub beyond-3 : (start : Simulation) → T (is_valid start) → (cs : List Call) → All CallFits cs → (row : ℕ) (b : Batcher) → kind_at start.table row ≡ batcher b → BeginsFresh start row → Beyond start cs row b
beyond-3 start v = beyond start (valid-of start v)

-- ---- instances: every batcher of what `post` or `put` answered, up to the next of them
pub of-all : (start : Simulation) → AllFresh start → (cs : List Call) → All CallFits cs → OfAll start cs
of-all start h cs fs = record {
  demand = λ row b e. demanded start h.valid cs fs row b e (fresh-begins start h row b e);
  beyond = λ row b e. beyond start h.valid cs fs row b e (fresh-begins start h row b e);
  six = λ c f e. capacity-alone start h (six-elsewhere start h.valid cs fs c f e);
}

pub after-post : (p : Posted) (sim : Simulation) → post p ≡ done sim → (cs : List Call) → All CallFits cs → OfAll sim cs
after-post p sim q cs fs = of-all sim (post-fresh p sim q) cs fs

pub after-put : (p : Posted) (sim next : Simulation) → put p sim ≡ done next → (cs : List Call) → All CallFits cs → OfAll next cs
after-put p sim next q cs fs = of-all next (put-fresh p sim next q) cs fs

-- ---- one answer: the number of jobs ahead settles the event and the place, and these the job
cell-one : (events : List (List ℕ)) (q q' r r' p : ℕ) → r < length (get_or events q []) → r' < length (get_or events q' []) → length (joined (take q events)) + r ≡ p → length (joined (take q' events)) + r' ≡ p → (q ≡ q') × (r ≡ r')
cell-one [] q q' r r' p l l' e e' = absurd (omega arith)
cell-one (x ∷ events) zero zero r r' p l l' e e' = (refl, omega arith)
cell-one (x ∷ events) zero (suc q') r r' p l l' e e' = absurd (omega (arith, length-append x (joined (take q' events))))
cell-one (x ∷ events) (suc q) zero r r' p l l' e e' = absurd (omega (arith, length-append x (joined (take q events))))
cell-one (x ∷ events) (suc q) (suc q') r r' p l l' e e' =
    let k = cell-one events q q' r r' (p - length x) l l' (omega (arith, length-append x (joined (take q events)))) (omega (arith, length-append x (joined (take q' events)))) in
    (ap suc k.0, k.1)

pub leaves-one : (events : List (List ℕ)) (number number' place place' job job' p : ℕ) → Leaves events number place job p → Leaves events number' place' job' p → (number ≡ number') × (place ≡ place') × (job ≡ job')
leaves-one events number number' place place' job job' p h k =
    let z = cell-one events (number - 1) (number' - 1) place place' p h.there k.there h.itself k.itself in
    let a = h.from_one in
    let b = k.from_one in
    let n : number ≡ number' = omega (arith, z.0) in
    (n, z.1, sym h.is ∙ ap (λ (i : ℕ). get_or (event_at i events) place 0) n ∙ ap (λ (i : ℕ). get_or (event_at number' events) i 0) z.1 ∙ k.is)
