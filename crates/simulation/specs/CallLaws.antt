-- What each call says of a buffer that holds no simulation, and of one that does. Assumes nothing.
use Rattle.std.specs.Prelude.{ℕ, ◌≤◌, ◌<◌, ◌≡◌, true, false, List, [], ◌∷◌, ◌++◌, length, T, Float, if◌then◌else◌, Err, Ok, Result, ⊤}
use Rattle.std.proofs.Math.Path.{refl}
use Rattle.std.proofs.Common.{sym, ap, subst, ◌∙◌, arith}
use Rattle.std.proofs.Math.ListN.{length-append}
use Rattle.times.specs.Time.{is_time}
use Rattle.rules.specs.declared.Message.{Message}
use Rattle.rules.specs.declared.Refusal.{Refusal}
use Rattle.rules.specs.declared.Refusal.TheVariants.{BadState, BadTime, NoMessageRoom, NoOutRoom}
use Rattle.rules.specs.Base.{Outcome, refused, done}
use Rattle.rules.specs.Intake.{Verdict, intake, taken_in}
use Rattle.rules.specs.Layout.{lent}
use Rattle.rules.specs.Decides.{at-most, is_true, is_false}
use Rattle.rules.specs.Simulation.{Simulation}
use Rattle.rules.specs.Valid.{is_valid}
use Rattle.rules.specs.Calls.{Ran, Refused, ended, inject_input, without_messages, at_clock_zero, reset, reset_messages, reset_global_time, get_messages, get_global_time, step, step_n, put}
use Rattle.rerunning.specs.Running.{sim_of}
use Rattle.engine.specs.declared.Report.{Report}
use Rattle.storing.specs.State.{is_stored, kept}
use Rattle.storing.specs.KeptLaws.{passes_on}
use Rattle.storing.specs.Lent.{simulation_in, answered, call_in, has_room, put_in, run_in, left_by_run}
use Rattle.lent_runs.specs.Reported.{refused_report, Reported}
use Rattle.posting.specs.Laying.{Passes, renewed}
use Rattle.altering.specs.Altered.{with_message}

-- ---- 20 first
module _ (state : List ℕ) (no : is_stored state ≡ false) where
  pub refused-20 : {A : Type 0} (call : Simulation → Outcome A) → call_in call state ≡ refused BadState
  unfolding simulation_in
  refused-20 call = rw no refl

  pub run-20 : (run : Simulation → Ran) → run_in run state ≡ ended (Refused BadState) (sim_of state)
  unfolding run_in
  run-20 run = rw no refl

  pub left-20 : (ran : Ran) → left_by_run state ran ≡ state
  unfolding left_by_run
  left-20 ran = rw no refl

  pub told-20 : (run : Simulation → Ran) (r : Report) (rows : List ℕ) → r ≡ refused_report BadState → Reported r (run_in run state) rows rows
  told-20 run r rows is =
      subst (λ (r : Report). Reported r (run_in run state) rows rows) (sym is)
      (subst (λ (ran : Ran). Reported (refused_report BadState) ran rows rows) (sym (run-20 run)) (record { end = refl; steps = refl; written = refl; rows = refl }))

module _ (state : List ℕ) (yes : is_stored state ≡ true) where
  pub called : {A : Type 0} (call : Simulation → Outcome A) → call_in call state ≡ call (sim_of state)
  unfolding simulation_in
  called call = rw yes refl

  pub run_on : (run : Simulation → Ran) → run_in run state ≡ run (sim_of state)
  unfolding run_in
  run_on run = rw yes refl

  pub left-on : (ran : Ran) → left_by_run state ran ≡ kept state ran.sim
  unfolding left_by_run
  left-on ran = rw yes refl

  pub told-on : (run : Simulation → Ran) (r : Report) (before laid : List ℕ) → Reported r (run (sim_of state)) before laid → Reported r (run_in run state) before laid
  told-on run r before laid h = subst (λ (ran : Ran). Reported r ran before laid) (sym (run_on run)) h

  pub leaves-on : (run : Simulation → Ran) → kept state (run (sim_of state)).sim ≡ left_by_run state (run_in run state)
  leaves-on run = sym (left-on (run_in run state) ∙ ap (λ (ran : Ran). kept state ran.sim) (run_on run))

  pub stored : T (is_stored state)
  stored = rw yes tt

  valid : is_valid (sim_of state) ≡ true
  valid = passes_on state stored

  -- ---- what is not refused with 20
  pub reset-done : call_in reset state ≡ done (at_clock_zero (without_messages (sim_of state)))
  unfolding reset
  reset-done = called reset ∙ rw valid refl

  pub messages-done : call_in reset_messages state ≡ done (without_messages (sim_of state))
  unfolding reset_messages
  messages-done = called reset_messages ∙ rw valid refl

  pub time-done : call_in reset_global_time state ≡ done (at_clock_zero (sim_of state))
  unfolding reset_global_time
  time-done = called reset_global_time ∙ rw valid refl

  pub clock-done : call_in get_global_time state ≡ done (sim_of state).clock
  unfolding get_global_time
  clock-done = called get_global_time ∙ rw valid refl

  pub listed-done : (room : ℕ) → length (sim_of state).active ≤ room → call_in (get_messages room) state ≡ done (sim_of state).active
  unfolding get_messages
  listed-done room few = called (get_messages room) ∙ rw (valid, is_true (at-most (length (sim_of state).active) room) few) refl

  pub listed-13 : (room : ℕ) → room < length (sim_of state).active → call_in (get_messages room) state ≡ refused NoOutRoom
  unfolding get_messages
  listed-13 room many = called (get_messages room) ∙ rw (valid, is_false (at-most (length (sim_of state).active) room) (λ l. omega arith)) refl

  -- "`inject_input` checks 10, then 8."
  pub injected-10 : (m : Message) → is_time m.time ≡ false → call_in (inject_input m) state ≡ refused BadTime
  unfolding inject_input
  injected-10 m bad = called (inject_input m) ∙ rw (valid, bad) refl

  pub injected-8 : (m : Message) → is_time m.time ≡ true → 256 ≤ length (sim_of state).active → call_in (inject_input m) state ≡ refused NoMessageRoom
  unfolding inject_input
  injected-8 m good many =
      called (inject_input m)
      ∙ rw (valid, good, is_false (at-most (length ((sim_of state).active ++ m ∷ [])) 256) (λ l. let h = length-append (sim_of state).active (m ∷ []) in omega arith)) refl

  pub injected : (m : Message) → is_time m.time ≡ true → length (sim_of state).active < 256 → call_in (inject_input m) state ≡ done (with_message m (sim_of state))
  unfolding inject_input
  injected m good few =
      called (inject_input m)
      ∙ rw (valid, good, is_true (at-most (length ((sim_of state).active ++ m ∷ [])) 256) (let h = length-append (sim_of state).active (m ∷ []) in omega arith)) refl

-- "`step` is `step_n` for one step."
pub step_run : (services : List Float) (room : ℕ) (state : List ℕ) → run_in (step_n services room 1) state ≡ run_in (step services room) state
unfolding step
step_run services room state = refl

-- ---- put: 20 of the state, 20 of the room, then table intake
pub refused-by : {A : Type 0} (o : Outcome A) (r : Refusal) → answered o ≡ Err r → o ≡ refused r
refused-by (refused s) r e = ap refused (ap code e)
  where
    code : Result ⊤ Refusal → Refusal
    code (Ok tt) = r
    code (Err q) = q
refused-by (done a) r e = absurd (subst IsDone e tt)
  where
    IsDone : Result ⊤ Refusal → Type 0
    IsDone (Ok tt) = Unit {0}
    IsDone (Err q) = ⊥

module _ (models connectors couplings state : List ℕ) where
  abbrev judge : Verdict
  judge = intake (lent models connectors couplings)

  pub put-20 : is_stored state ≡ false → put_in models connectors couplings state ≡ refused BadState
  unfolding put_in
  put-20 bad = refused-20 state bad (λ sim. if has_room models connectors couplings state then put (lent models connectors couplings) sim else refused BadState)

  module _ (yes : is_stored state ≡ true) where
    pub put-short : has_room models connectors couplings state ≡ false → put_in models connectors couplings state ≡ refused BadState
    unfolding put_in simulation_in
    put-short short = rw (yes, short) refl

    put_on : has_room models connectors couplings state ≡ true → put_in models connectors couplings state ≡ put (lent models connectors couplings) (sim_of state)
    unfolding put_in simulation_in
    put_on room = rw (yes, room) refl

    pub put_refused : (r : Refusal) → has_room models connectors couplings state ≡ true → answered (taken_in judge) ≡ Err r → put_in models connectors couplings state ≡ refused r
    unfolding put
    put_refused r room e = put_on room ∙ rw (valid state yes, refused-by (taken_in judge) r e) refl

    pub put-done : has_room models connectors couplings state ≡ true → Passes models connectors couplings → put_in models connectors couplings state ≡ done (renewed models connectors couplings (sim_of state))
    unfolding put
    put-done room passes = put_on room ∙ rw (valid state yes, passes) refl
