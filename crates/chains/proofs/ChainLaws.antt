-- A chain of C calls is the rules' list of calls: on a buffer that holds a simulation it leaves one that holds what the rules leave, and the batcher's promise holds of it. Assumes nothing.
use Rattle.std.specs.Prelude.{ℕ, ◌+◌, ◌-◌, ◌≤◌, ◌≡◌, refl, Bool, true, false, not, List, [], ◌∷◌, ◌++◌, length, get_or, take, drop, T, if◌then◌else◌, Option, None, Some}
use Rattle.std.proofs.Common.{sym, ap, subst, ◌∙◌, arith, length-append, length-drop, length-take-le, drop-drop, T_not, leb→le}
use Rattle.std.proofs.Math.Seq.{drop-append-add}
use Rattle.times.specs.Order.{same_test}
use Rattle.rules.specs.declared.Batcher.{Batcher}
use Rattle.rules.specs.declared.Refusal.{Refusal}
use Rattle.rules.specs.declared.Refusal.TheVariants.{TooLarge, BadRow, BadCoupling, ModelNotFound, InvalidMessage, InvalidModelState, NoQueueRoom, NoMessageRoom, NoServiceTime, BadTime, ClockOverflow, Idle, NoOutRoom, BadBlock, BadState}
use Rattle.rules.specs.Names.{number}
use Rattle.rules.specs.Base.{Outcome, refused, done, ◌>>=◌}
use Rattle.rules.specs.Table.{Table, batcher, kind_at}
use Rattle.rules.specs.Intake.{Posted, Verdict, too_large, bad_row, bad_connector, bad_coupling, passed, intake, taken_in}
use Rattle.rules.specs.Layout.{lent}
use Rattle.rules.specs.Simulation.{of_batcher, Simulation, begun, state_at}
use Rattle.rules.specs.Step.{Happening}
use Rattle.rules.specs.Valid.{is_valid}
use Rattle.rules.specs.Calls as Calls
use Rattle.rules.specs.Calls.{End, Done, Reached, Spent, Refused, Ran, post, put, Call, InjectInput, Step, StepN, StepUntil, Reset, ResetMessages, ResetGlobalTime, changed, called, calls}
use Rattle.rules.specs.Ends.{no-some, All, ◌&◌, Ends, stops, goes, ends-if, ends-bind, ends-map, Whatever, ends-done}
use Rattle.rules.specs.Decides.{intake-exactly}
use Rattle.rules.proofs.Runs.{Valid, valid-of, is-valid, step-ends, EndsWell, CallFits, Carried, called-keeps, NotTwenty, any-closed, called-valid}
use Rattle.lookup.specs.Inside.{count_in, tail_at, models_in, connectors_in, couplings_in, table_in}
use Rattle.lookup.specs.InsideLaws.{counts}
use Rattle.rerunning.specs.Running.{sim_of}
use Rattle.views.specs.World.{end_of}
use Rattle.storing.specs.State.{changing, laid_state, over, kept, state_words, words_for, is_stored}
use Rattle.storing.specs.Lent.{simulation_in, call_in, left, has_room, post_in, put_in, left_anew, run_in, left_by_run}
use Rattle.storing.specs.StoredLaws.{stored-long, stored-inside, laid-is, kept_same}
use Rattle.storing.specs.KeptLaws.{end-most, changing-long, passes_on}
use Rattle.storing.specs.ReadBack.{read_back, laid-holds, laid-stored, kept-stored}
use Rattle.posting.specs.Laying.{lent_table}
use Rattle.posting.specs.WholeLaws.{room_for}
use Rattle.simulation.specs.CallLaws as call
use Rattle.host.specs.Numbers.{number_of, end_number}
use Rattle.promises.specs.Story.{state_then, BeginsFresh, CapacityNone, left_by}
use Rattle.promises.specs.Demand3.{AllFresh}
use Rattle.promises.proofs.Demand3.{fresh-begins, capacity-alone, post-fresh, put-fresh, demanded, beyond}
use Rattle.promises.proofs.Six.{six-elsewhere}
use Rattle.chains.specs.Chain.{after, returned, told, chain, chain_told, after_post, returned_by_post, after_put, returned_by_put, BufferHolds, needed, ChainDemand, ChainOfAll}

-- ---- a call keeps the table: an instance of `Runs.Carried`
pub same-table : (t : Table) → Carried NotTwenty (λ sim log. Valid sim × (sim.table ≡ t))
same-table t = record {
  other = (any-closed t).other;
  valid = λ sim log h. h.0;
  change = λ sim next log e f g v h. (v, e ∙ h.1);
  forward = λ services sim log short h.
      ends-map (step-ends NotTwenty (λ _. Unit {0}) services sim short (any-closed sim.table) h.0 tt) (λ r b. b) (λ r k. (k.0, k.1 ∙ h.1));
}

pub called-table : (c : Call) (sim : Simulation) → CallFits c → T (is_valid sim) → (called c sim).sim.table ≡ sim.table
called-table c sim f v = (called-keeps NotTwenty (λ s log. Valid s × (s.table ≡ sim.table)) (same-table sim.table) c sim [] f (valid-of sim v, refl)).0.1

-- ---- one call on a buffer that holds a simulation
module _ (state : List ℕ) (stored : T (is_stored state)) where
  yes : is_stored state ≡ true
  yes = same_test (is_stored state) true (λ _. tt) (λ _. stored)

  valid : T (is_valid (sim_of state))
  valid = subst T (sym (passes_on state stored)) tt

  left-kept : (f : Simulation → Outcome Simulation) → left state (call_in f state) ≡ kept state (changed (sim_of state) (f (sim_of state))).sim
  left-kept f = ap (left state) (call.called state yes f) ∙ go (f (sim_of state))
    where
      go : (o : Outcome Simulation) → left state o ≡ kept state (changed (sim_of state) o).sim
      go (refused r) = sym (kept_same state stored)
      go (done next) = refl

  run-kept : (run : Simulation → Ran) → left_by_run state (run_in run state) ≡ kept state (run (sim_of state)).sim
  run-kept run = sym (call.leaves-on state yes run)

  -- it leaves the buffer with the simulation that the rules' call leaves
  pub after_kept : (c : Call) → after c state ≡ kept state (called c (sim_of state)).sim
  unfolding called
  after_kept (InjectInput m) = left-kept (Calls.inject_input m)
  after_kept (Step services room) = run-kept (Calls.step services room)
  after_kept (StepN services room count) = run-kept (Calls.step_n services room count)
  after_kept (StepUntil services until room allowance) = run-kept (Calls.step_until services until room allowance)
  after_kept Reset = left-kept Calls.reset
  after_kept ResetMessages = left-kept Calls.reset_messages
  after_kept ResetGlobalTime = left-kept Calls.reset_global_time

  pub after_holds : (c : Call) → CallFits c → BufferHolds (after c state) (called c (sim_of state)).sim
  after_holds c f =
      subst (λ (words : List ℕ). BufferHolds words (called c (sim_of state)).sim) (sym (after_kept c))
      (kept-stored state (called c (sim_of state)).sim stored (called-table c (sim_of state) f valid) (called-valid c (sim_of state) f valid).sim)

  -- it returns the number of the rules' call
  answer-number : (f : Simulation → Outcome Simulation) → number_of (call_in f state) ≡ end_number (changed (sim_of state) (f (sim_of state))).end
  answer-number f = ap number_of (call.called state yes f) ∙ go (f (sim_of state))
    where
      go : (o : Outcome Simulation) → number_of o ≡ end_number (changed (sim_of state) o).end
      go (refused r) = refl
      go (done next) = refl

  run-number : (run : Simulation → Ran) → end_number (run_in run state).end ≡ end_number (run (sim_of state)).end
  run-number run = ap (λ (ran : Ran). end_number ran.end) (call.run_on state yes run)

  pub returned-is : (c : Call) → returned c state ≡ end_number (called c (sim_of state)).end
  unfolding called
  returned-is (InjectInput m) = answer-number (Calls.inject_input m)
  returned-is (Step services room) = run-number (Calls.step services room)
  returned-is (StepN services room count) = run-number (Calls.step_n services room count)
  returned-is (StepUntil services until room allowance) = run-number (Calls.step_until services until room allowance)
  returned-is Reset = answer-number Calls.reset
  returned-is ResetMessages = answer-number Calls.reset_messages
  returned-is ResetGlobalTime = answer-number Calls.reset_global_time

  -- and what happened is what happened in the rules' call
  no-log : (o : Outcome Simulation) → ◌≡◌ {A = List Happening} [] (changed (sim_of state) o).log
  no-log (refused r) = refl
  no-log (done next) = refl

  run-log : (run : Simulation → Ran) → (run_in run state).log ≡ (run (sim_of state)).log
  run-log run = ap (λ (ran : Ran). ran.log) (call.run_on state yes run)

  pub told_is : (c : Call) → told c state ≡ (called c (sim_of state)).log
  unfolding called
  told_is (InjectInput m) = no-log (Calls.inject_input m (sim_of state))
  told_is (Step services room) = run-log (Calls.step services room)
  told_is (StepN services room count) = run-log (Calls.step_n services room count)
  told_is (StepUntil services until room allowance) = run-log (Calls.step_until services until room allowance)
  told_is Reset = no-log (Calls.reset (sim_of state))
  told_is ResetMessages = no-log (Calls.reset_messages (sim_of state))
  told_is ResetGlobalTime = no-log (Calls.reset_global_time (sim_of state))

-- ---- a chain on a buffer that holds a simulation: the rules' list of calls
pub chain-holds : (cs : List Call) (state : List ℕ) → T (is_stored state) → All CallFits cs → BufferHolds (chain cs state) (calls cs (sim_of state)).0
chain-holds [] state stored fs = (stored, refl)
chain-holds (c ∷ cs) state stored (f & fs) =
    let (next, is) = after_holds state stored c f in
    let (last, same) = chain-holds cs (after c state) next fs in
    (last, same ∙ ap (λ (sim : Simulation). (calls cs sim).0) is)

pub chain-tells : (cs : List Call) (state : List ℕ) → T (is_stored state) → All CallFits cs → chain_told cs state ≡ (calls cs (sim_of state)).1
chain-tells [] state stored fs = refl
chain-tells (c ∷ cs) state stored (f & fs) =
    let (next, is) = after_holds state stored c f in
    λ i. told_is state stored c i ++ (chain-tells cs (after c state) next fs ∙ ap (λ (sim : Simulation). (calls cs sim).1) is) i

-- ---- a chain on a buffer that holds none: every call returns 20 and changes nothing
module _ (state : List ℕ) (empty : T (not (is_stored state))) where
  no : is_stored state ≡ false
  no = same_test (is_stored state) false (T_not (is_stored state) empty) absurd

  pub after_none : (c : Call) → after c state ≡ state
  after_none (InjectInput m) = ap (left state) (call.refused-20 state no (Calls.inject_input m))
  after_none (Step services room) = call.left-20 state no (run_in (Calls.step services room) state)
  after_none (StepN services room count) = call.left-20 state no (run_in (Calls.step_n services room count) state)
  after_none (StepUntil services until room allowance) = call.left-20 state no (run_in (Calls.step_until services until room allowance) state)
  after_none Reset = ap (left state) (call.refused-20 state no Calls.reset)
  after_none ResetMessages = ap (left state) (call.refused-20 state no Calls.reset_messages)
  after_none ResetGlobalTime = ap (left state) (call.refused-20 state no Calls.reset_global_time)

  run-20 : (run : Simulation → Ran) → end_number (run_in run state).end ≡ 20
  run-20 run = ap (λ (ran : Ran). end_number ran.end) (call.run-20 state no run)

  pub returned-none : (c : Call) → returned c state ≡ 20
  returned-none (InjectInput m) = ap number_of (call.refused-20 state no (Calls.inject_input m))
  returned-none (Step services room) = run-20 (Calls.step services room)
  returned-none (StepN services room count) = run-20 (Calls.step_n services room count)
  returned-none (StepUntil services until room allowance) = run-20 (Calls.step_until services until room allowance)
  returned-none Reset = ap number_of (call.refused-20 state no Calls.reset)
  returned-none ResetMessages = ap number_of (call.refused-20 state no Calls.reset_messages)
  returned-none ResetGlobalTime = ap number_of (call.refused-20 state no Calls.reset_global_time)

  pub chain-none : (cs : List Call) → chain cs state ≡ state
  chain-none [] = refl
  chain-none (c ∷ cs) = ap (chain cs) (after_none c) ∙ chain-none cs

-- ---- the lent memory: a chain keeps the buffer's length, and all beyond the longest state of its table
over-long : (words buffer : List ℕ) → length words ≤ length buffer → length (over words buffer) ≡ length buffer
over-long words buffer l = omega (arith, length-append words (drop (length words) buffer), length-drop (length words) buffer)

over-beyond : (words buffer : List ℕ) (n : ℕ) → length words ≤ n → drop n (over words buffer) ≡ drop n buffer
over-beyond words buffer n l =
    let e : n ≡ length words + (n - length words) = omega arith in
    ap (λ (k : ℕ). drop k (over words buffer)) e ∙ drop-append-add words (drop (length words) buffer) (n - length words)
    ∙ drop-drop (n - length words) (length words) buffer ∙ ap (λ (k : ℕ). drop k buffer) (sym e)

changing-most : (sim : Simulation) → T (is_valid sim) → length (changing sim) ≤ end_of sim.table + 1536
changing-most sim ok =
    let h = laid-holds sim [] ok in
    let few = h.few in
    let long = ap (λ (s : Simulation). length (changing s)) (sym (read_back sim [] ok)) ∙ changing-long sim.table (changing sim ++ []) h in
    omega arith

-- a buffer that holds a simulation, with another one of its table in it
module _ (state : List ℕ) (stored : T (is_stored state)) (next : Simulation) (same : next.table ≡ (sim_of state).table) (ok : T (is_valid next)) where
  abbrev words : List ℕ
  words = laid_state (models_in state) (connectors_in state) (couplings_in state) next

  words-most : length words ≤ needed state
  words-most =
      let inside = stored-inside state stored in
      let rows = (counts state inside).0 in
      let most = changing-most next ok in
      let table = ap end_of same in
      let end = end-most (table_in state) in
      let front = length-take-le (tail_at state) state inside.room in
      let all = ap length (laid-is state inside next) ∙ length-append (take (tail_at state) state) (changing next) in
      omega arith

  pub kept-long : length (kept state next) ≡ length state
  kept-long = over-long words state (let w = words-most in let l = stored-long state stored in omega arith)

  pub kept-beyond : (n : ℕ) → needed state ≤ n → drop n (kept state next) ≡ drop n state
  kept-beyond n l = over-beyond words state n (let w = words-most in omega arith)

  -- the table's sizes stay
  pub kept-counts : (count_in 0 (kept state next) ≡ count_in 0 state) × (count_in 1 (kept state next) ≡ count_in 1 state) × (count_in 2 (kept state next) ≡ count_in 2 state)
  kept-counts =
      let (there, is) = kept-stored state next stored same ok in
      let t = ap (λ (s : Simulation). s.table) is ∙ same in
      let (rows, links, inner) = counts (kept state next) (stored-inside (kept state next) there) in
      let (rows', links', inner') = counts state (stored-inside state stored) in
      (sym rows ∙ ap (λ (z : Table). length z.rows) t ∙ rows', sym links ∙ ap (λ (z : Table). length z.connectors) t ∙ links', sym inner ∙ ap (λ (z : Table). length z.couplings) t ∙ inner')

  pub kept-needed : needed (kept state next) ≡ needed state
  kept-needed = λ i. state_words (kept-counts.0 i) (kept-counts.1 i) (kept-counts.2 i)

module _ (state : List ℕ) (stored : T (is_stored state)) (c : Call) (f : CallFits c) where
  abbrev next : Simulation
  next = (called c (sim_of state)).sim

  -- P, of the buffer after the call, from P of the buffer with the call's simulation in it
  of-kept : (P : List ℕ → Type 0) → (next.table ≡ (sim_of state).table → T (is_valid next) → P (kept state next)) → P (after c state)
  of-kept P h = subst P (sym (after_kept state stored c)) (h (called-table c (sim_of state) f (valid state stored)) (called-valid c (sim_of state) f (valid state stored)).sim)

  after-long : length (after c state) ≡ length state
  after-long = of-kept (λ ws. length ws ≡ length state) (kept-long state stored next)

  after-beyond : (n : ℕ) → needed state ≤ n → drop n (after c state) ≡ drop n state
  after-beyond n l = of-kept (λ ws. drop n ws ≡ drop n state) (λ same ok. kept-beyond state stored next same ok n l)

  same-needed : needed (after c state) ≡ needed state
  same-needed = of-kept (λ ws. needed ws ≡ needed state) (kept-needed state stored next)

pub chain-long : (cs : List Call) (state : List ℕ) → T (is_stored state) → All CallFits cs → length (chain cs state) ≡ length state
chain-long [] state stored fs = refl
chain-long (c ∷ cs) state stored (f & fs) = chain-long cs (after c state) (after_holds state stored c f).0 fs ∙ after-long state stored c f

pub chain-beyond : (cs : List Call) (state : List ℕ) → T (is_stored state) → All CallFits cs → (n : ℕ) → needed state ≤ n → drop n (chain cs state) ≡ drop n state
chain-beyond [] state stored fs n l = refl
chain-beyond (c ∷ cs) state stored (f & fs) n l =
    chain-beyond cs (after c state) (after_holds state stored c f).0 fs n (let e = same-needed state stored c f in omega arith) ∙ after-beyond state stored c f n l

-- ---- a number tells the refusal: 0 is no refusal's
abbrev numbered : List (Option Refusal)
numbered =
    None ∷ Some TooLarge ∷ Some BadRow ∷ Some BadCoupling ∷ Some ModelNotFound ∷ Some InvalidMessage ∷ Some InvalidModelState ∷ Some NoQueueRoom ∷ Some NoMessageRoom ∷ Some NoServiceTime ∷ Some BadTime
    ∷ Some ClockOverflow ∷ Some Idle ∷ Some NoOutRoom ∷ Some BadBlock ∷ None ∷ None ∷ None ∷ None ∷ None ∷ Some BadState ∷ []

number-tells : (r : Refusal) → get_or numbered (number r) None ≡ Some r
number-tells TooLarge = refl
number-tells BadRow = refl
number-tells BadCoupling = refl
number-tells ModelNotFound = refl
number-tells InvalidMessage = refl
number-tells InvalidModelState = refl
number-tells NoQueueRoom = refl
number-tells NoMessageRoom = refl
number-tells NoServiceTime = refl
number-tells BadTime = refl
number-tells ClockOverflow = refl
number-tells Idle = refl
number-tells NoOutRoom = refl
number-tells BadBlock = refl
number-tells BadState = refl

told-by : (r : Refusal) (n : ℕ) → number r ≡ n → get_or numbered n None ≡ Some r
told-by r n e = ap (λ (k : ℕ). get_or numbered k None) (sym e) ∙ number-tells r

-- "0 or the number of the refusal": what returned 0 was done
pub zero-done : {A : Type 0} (o : Outcome A) → number_of o ≡ 0 → (a : A) × (o ≡ done a)
zero-done (refused r) e = absurd (no-some (told-by r 0 e))
zero-done (done a) e = (a, refl)

six-is : (end : End) → end_number end ≡ 6 → end ≡ Refused InvalidModelState
six-is Done e = absurd (omega arith)
six-is Reached e = absurd (omega arith)
six-is Spent e = absurd (omega arith)
six-is (Refused r) e = let h = told-by r 6 e in cc

twenty-not : (end : End) → EndsWell NotTwenty end → end_number end ≡ 20 → ⊥
twenty-not Done h e = omega arith
twenty-not Reached h e = omega arith
twenty-not Spent h e = omega arith
twenty-not (Refused r) h e = let t = told-by r 20 e in h cc

-- on a buffer that holds a simulation no call returns 20
pub returned-not-20 : (c : Call) (state : List ℕ) → T (is_stored state) → CallFits c → returned c state ≡ 20 → ⊥
returned-not-20 c state stored f e =
    twenty-not (called c (sim_of state)).end (called-valid c (sim_of state) f (valid state stored)).end (sym (returned-is state stored c) ∙ e)

-- ---- what post and put answer: the lent table passes intake
taken-passed : (p : Posted) → Ends Whatever (λ t. intake p ≡ passed t) (taken_in (intake p))
taken-passed p = go (intake p) refl
  where
    go : (v : Verdict) → intake p ≡ v → Ends Whatever (λ t. intake p ≡ passed t) (taken_in v)
    go too_large e = stops tt
    go (bad_row row) e = stops tt
    go (bad_connector row) e = stops tt
    go (bad_coupling row) e = stops tt
    go (passed t) e = goes e

post-ends : (p : Posted) → Ends Whatever (λ (sim : Simulation). (intake p ≡ passed sim.table) × (sim ≡ begun sim.table)) (post p)
unfolding post
post-ends p = ends-bind _ (taken-passed p) (λ t e. goes (e, refl))

put-ends : (p : Posted) (sim : Simulation) → Ends Whatever (λ (next : Simulation). intake p ≡ passed next.table) (put p sim)
unfolding put
put-ends p sim = ends-if (is_valid sim) (λ _. ends-bind _ (taken-passed p) (λ t e. goes e)) (λ _. stops tt)

-- what came through a test was let through
if-done : {A : Type 0} (b : Bool) (o : Outcome A) (a : A) → (if b then o else refused BadState) ≡ done a → T b × (o ≡ done a)
if-done true o a e = (tt, e)
if-done false o a e = let z : ◌≡◌ {A = ℕ} 0 1 = cc in absurd (omega arith)

module _ (models connectors couplings : List ℕ) where
  abbrev lent_here : Posted
  lent_here = lent models connectors couplings

  table-lent : (t : Table) → intake lent_here ≡ passed t → t ≡ lent_table models connectors couplings
  table-lent t e = ((intake-exactly lent_here (passed t)).0 e).4

  laid-anew : (buffer : List ℕ) (sim : Simulation) → T (has_room models connectors couplings buffer) → intake lent_here ≡ passed sim.table → T (is_valid sim)
      → BufferHolds (over (laid_state models connectors couplings sim) buffer) sim
  laid-anew buffer sim room e ok =
      laid-stored models connectors couplings buffer sim e ok
      (room_for models connectors couplings (e ∙ ap passed (table-lent sim.table e)) buffer
      (leb→le (words_for (length models) (length connectors) (length couplings)) (length buffer) room))

  -- ---- after a post that was not refused: the buffer holds the new simulation of the lent table
  module _ (buffer : List ℕ) (sim : Simulation) (e : post_in models connectors couplings buffer ≡ done sim) where
    post-room : T (has_room models connectors couplings buffer) × (post lent_here ≡ done sim)
    unfolding post_in
    post-room = if-done (has_room models connectors couplings buffer) (post lent_here) sim e

    pub post-holds : BufferHolds (after_post models connectors couplings buffer) sim
    post-holds =
        let (passes, is) = ends-done (post-ends lent_here) post-room.1 in
        subst (λ (words : List ℕ). BufferHolds words sim) (ap (left_anew models connectors couplings buffer) (sym e))
        (laid-anew buffer sim post-room.0 passes (is-valid sim (post-fresh lent_here sim post-room.1).valid))

    pub post-begun : sim ≡ begun (lent_table models connectors couplings)
    post-begun = let (passes, is) = ends-done (post-ends lent_here) post-room.1 in is ∙ ap begun (table-lent sim.table passes)

    -- so the chain after it holds what the rules' calls leave of the new simulation
    pub chain-after-post : (cs : List Call) → All CallFits cs → BufferHolds (chain cs (after_post models connectors couplings buffer)) (calls cs (begun (lent_table models connectors couplings))).0
    chain-after-post cs fs =
        let (stored, is) = post-holds in
        subst (λ (start : Simulation). BufferHolds (chain cs (after_post models connectors couplings buffer)) (calls cs start).0) (is ∙ post-begun)
        (chain-holds cs (after_post models connectors couplings buffer) stored fs)

  -- ---- after a put that was not refused: all models new, messages, clock and place kept
  module _ (buffer : List ℕ) (sim : Simulation) (e : put_in models connectors couplings buffer ≡ done sim) where
    put-room : T (is_stored buffer) × T (has_room models connectors couplings buffer) × (put lent_here (sim_of buffer) ≡ done sim)
    unfolding put_in simulation_in
    put-room =
        let (stored, f) = go (is_stored buffer) e in
        let (room, is) = if-done (has_room models connectors couplings buffer) (put lent_here (sim_of buffer)) sim f in
        (stored, room, is)
      where
        next : Simulation → Outcome Simulation
        next old = if has_room models connectors couplings buffer then put lent_here old else refused BadState

        go : (b : Bool) → ((if b then done (sim_of buffer) else refused BadState) >>= next) ≡ done sim → T b × (next (sim_of buffer) ≡ done sim)
        go true h = (tt, h)
        go false h = let z : ◌≡◌ {A = ℕ} 0 1 = cc in absurd (omega arith)

    pub put_holds : BufferHolds (after_put models connectors couplings buffer) sim
    put_holds =
        let (stored, room, is) = put-room in
        subst (λ (words : List ℕ). BufferHolds words sim) (ap (left_anew models connectors couplings buffer) (sym e))
        (laid-anew buffer sim room (ends-done (put-ends lent_here (sim_of buffer)) is) (is-valid sim (put-fresh lent_here (sim_of buffer) sim is).valid))

    pub put-table : sim.table ≡ lent_table models connectors couplings
    put-table = table-lent sim.table (ends-done (put-ends lent_here (sim_of buffer)) put-room.2)

    pub chain-after-put : (cs : List Call) → All CallFits cs → BufferHolds (chain cs (after_put models connectors couplings buffer)) (calls cs sim).0
    chain-after-put cs fs =
        let (stored, is) = put_holds in
        subst (λ (start : Simulation). BufferHolds (chain cs (after_put models connectors couplings buffer)) (calls cs start).0) is
        (chain-holds cs (after_put models connectors couplings buffer) stored fs)

-- ---- the demand, of every chain on a buffer that holds a simulation in which the batcher's row is in its default state, whatever the other rows hold
six-ends : (state : List ℕ) → T (is_stored state) → (cs : List Call) → All CallFits cs → (c : Call) → returned c (chain cs state) ≡ 6 → (called c (left_by (sim_of state) cs)).end ≡ Refused InvalidModelState
six-ends state stored cs fs c h =
    let (last, is) = chain-holds cs state stored fs in
    ap (λ (sim : Simulation). (called c sim).end) (sym is) ∙ six-is (called c (sim_of (chain cs state))).end (sym (returned-is (chain cs state) last c) ∙ h)

pub chain-demand : (state : List ℕ) → T (is_stored state) → (cs : List Call) → All CallFits cs → (row : ℕ) (b : Batcher) → kind_at (sim_of state).table row ≡ batcher b → BeginsFresh (sim_of state) row → ChainDemand state cs row b
chain-demand state stored cs fs row b e default =
    let v = valid-of (sim_of state) (valid state stored) in
    let (last, is) = chain-holds cs state stored fs in
    let tells = chain-tells cs state stored fs in
    let d = demanded (sim_of state) v cs fs row b e default in
    record {
      holds = (last, is);
      tells = tells;
      demand = d;
      beyond = beyond (sim_of state) v cs fs row b e default;
      stands = ap (λ (sim : Simulation). state_at sim.states row) is ∙ d.state ∙ ap (λ (log : List Happening). of_batcher (state_then b row log)) (sym tells);
      six = λ c f h. d.six-is-anothers c f (six-ends state stored cs fs c h);
    }

-- ---- instances: where jt_post, or jt_put, returned 0
of-fresh : (state : List ℕ) (t : Table) → T (is_stored state) → (sim_of state).table ≡ t → AllFresh (sim_of state) → (cs : List Call) → All CallFits cs → ChainOfAll state t cs
of-fresh state t stored is fresh cs fs = record {
  demand = λ row b e. let k = ap (λ (t : Table). kind_at t row) is ∙ e in chain-demand state stored cs fs row b k (fresh-begins (sim_of state) fresh row b k);
  six = λ c f h. subst CapacityNone is (capacity-alone (sim_of state) fresh (six-elsewhere (sim_of state) fresh.valid cs fs c f (six-ends state stored cs fs c h)));
}

module _ (models connectors couplings buffer : List ℕ) where
  pub chain-demand-post : returned_by_post models connectors couplings buffer ≡ 0 → (cs : List Call) → All CallFits cs → ChainOfAll (after_post models connectors couplings buffer) (lent_table models connectors couplings) cs
  chain-demand-post zero cs fs =
      let (sim, q) = zero-done (post_in models connectors couplings buffer) zero in
      let (stored, is) = post-holds models connectors couplings buffer sim q in
      of-fresh (after_post models connectors couplings buffer) (lent_table models connectors couplings) stored
      (ap (λ (s : Simulation). s.table) (is ∙ post-begun models connectors couplings buffer sim q))
      (subst AllFresh (sym is) (post-fresh (lent models connectors couplings) sim (post-room models connectors couplings buffer sim q).1)) cs fs

  pub chain-demand-put : returned_by_put models connectors couplings buffer ≡ 0 → (cs : List Call) → All CallFits cs → ChainOfAll (after_put models connectors couplings buffer) (lent_table models connectors couplings) cs
  chain-demand-put zero cs fs =
      let (sim, q) = zero-done (put_in models connectors couplings buffer) zero in
      let (stored, is) = put_holds models connectors couplings buffer sim q in
      of-fresh (after_put models connectors couplings buffer) (lent_table models connectors couplings) stored
      (ap (λ (s : Simulation). s.table) is ∙ put-table models connectors couplings buffer sim q)
      (subst AllFresh (sym is) (put-fresh (lent models connectors couplings) (sim_of buffer) sim (put-room models connectors couplings buffer sim q).2)) cs fs
