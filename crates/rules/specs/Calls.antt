-- The calls on a simulation: post, put, inject_input, step, step_n, step_until, reset and its two halves, messages, clock, status. Definitions only. Assumes nothing.
use Rattle.std.specs.Prelude.{ℕ, zero, suc, ◌-◌, Bool, not, List, [], ◌∷◌, ◌++◌, length, leb, eqb, Float, if◌then◌else◌, Option}
use Rattle.std.specs.Float.Ieee.{lt, fits}
use Rattle.std.specs.Float.{binary64}
use Rattle.times.specs.Time.{instant, is_time}
use Rattle.rules.specs.declared.Refusal.{Refusal}
use Rattle.rules.specs.declared.Refusal.TheVariants.{ModelNotFound, NoMessageRoom, BadTime, NoOutRoom, BadState}
use Rattle.rules.specs.declared.ProcessorPhase.{ProcessorPhase}
use Rattle.rules.specs.declared.BatcherPhase.{BatcherPhase}
use Rattle.rules.specs.declared.Message.{Message}
use Rattle.rules.specs.Sizes.{is_id, is_port, is_content, is_word, is_allowance, most_active}
use Rattle.rules.specs.Base.{Outcome, refused, done, ◌>>=◌, those, every, at_most}
use Rattle.rules.specs.Table.{id_at, parentless}
use Rattle.rules.specs.Intake.{Posted, intake, taken_in}
use Rattle.rules.specs.Simulation.{State, of_processor, of_batcher, of_stopwatch, of_coupled, Simulation, fresh_all, begun, empty_table, state_at}
use Rattle.rules.specs.Models.{durations, mean}
use Rattle.rules.specs.Step.{Happening, one_step}
use Rattle.rules.specs.Valid.{is_valid, guarded_by}

-- "20 comes first, in every call."
abbrev pub guarded : {A : Type 0} → Simulation → Outcome A → Outcome A
guarded sim answer = guarded_by (is_valid sim) answer

-- ---- post and put
unfoldable pub post : Posted → Outcome Simulation
post p = taken_in (intake p) >>= λ t. done (begun t)

-- "A refused `post` hands back the simulation of the empty table"
abbrev pub handed_back : Outcome Simulation → Simulation
handed_back (refused r) = begun empty_table
handed_back (done sim) = sim

-- "`put` brings fresh default models and keeps messages, clock and place."
unfoldable pub put : Posted → Simulation → Outcome Simulation
put p sim =
    guarded sim
    (taken_in (intake p) >>= λ t. done (record { table = t; states = fresh_all t; active = sim.active; clock = sim.clock; place = sim.place }))

-- ---- "`inject_input` checks 10, then 8." (10: "an injected time .. is no time"; 8: "the 257th active")
unfoldable pub inject_input : Message → Simulation → Outcome Simulation
inject_input m sim =
    guarded sim
    (if not (is_time m.time) then refused BadTime
    else do
      active ← at_most most_active NoMessageRoom (sim.active ++ m ∷ [])
      done (record { table = sim.table; states = sim.states; active = active; clock = sim.clock; place = sim.place }))

-- ---- "`reset` clears messages and clock only." Its two halves clear one each.
abbrev pub without_messages : Simulation → Simulation
without_messages sim = record { table = sim.table; states = sim.states; active = []; clock = sim.clock; place = sim.place }

abbrev pub at_clock_zero : Simulation → Simulation
at_clock_zero sim = record { table = sim.table; states = sim.states; active = sim.active; clock = instant; place = sim.place }

unfoldable pub reset_messages : Simulation → Outcome Simulation
reset_messages sim = guarded sim (done (without_messages sim))

unfoldable pub reset_global_time : Simulation → Outcome Simulation
reset_global_time sim = guarded sim (done (at_clock_zero sim))

unfoldable pub reset : Simulation → Outcome Simulation
reset sim = guarded sim (done (at_clock_zero (without_messages sim)))

-- ---- step, step_n and step_until: how the call ended, the simulation left, the number of completed steps, the rows collected; and the log
pub data End : Type 0 where
  Done Reached Spent : End
  Refused : Refusal → End

pub record Ran : Type 0 where
  pub end : End
  pub sim : Simulation
  pub steps : ℕ
  pub rows : List Message
  pub log : List Happening

abbrev pub ended : End → Simulation → Ran
ended end sim = record { end = end; sim = sim; steps = 0; rows = []; log = [] }

-- a completed step before the rest: "each step's rows go straight after the rows already laid down"
abbrev pub then_ran : List Message → List Happening → Ran → Ran
then_ran rows log r = record { end = r.end; sim = r.sim; steps = suc r.steps; rows = rows ++ r.rows; log = log ++ r.log }

-- 13: "a step's rows must be collected, .. and they don't fit"; "13 comes last". `room` is the number of rows that the lent output has left.
abbrev pub fitting : ℕ → Simulation × List Happening → Outcome (Simulation × List Happening)
fitting room (next, log) = if leb (length next.active) room then done (next, log) else refused NoOutRoom

-- "`step_n` and `step_until` stop at the refused step: they keep earlier steps and rows, and return number, steps and rows."
abbrev pub onward : Simulation → Outcome (Simulation × List Happening) → (Simulation → Ran) → Ran
onward sim (refused r) rest = ended (Refused r) sim
onward sim (done (next, log)) rest = then_ran next.active log (rest next)

-- "`step_n` .. collects the messages of all its steps, and ends Done or by a refusal, with its number of completed steps"
unfoldable pub steps : List Float → ℕ → ℕ → Simulation → Ran
steps services room zero sim = ended Done sim
steps services room (suc count) sim =
    onward sim (one_step services sim >>= fitting room) (λ next. steps services (room - length next.active) count next)

unfoldable pub step_n : List Float → ℕ → ℕ → Simulation → Ran
step_n services room count sim = if is_valid sim then steps services room count sim else ended (Refused BadState) sim

-- "`step` is `step_n` for one step."
unfoldable pub step : List Float → ℕ → Simulation → Ran
step services room sim = step_n services room 1 sim

-- "`step_until` steps first and then looks: below `until` it collects and goes on, else it ends and does not collect, though those messages stay active."
abbrev pub look : Float → ℕ → Simulation → Outcome (Simulation × List Happening) → (Simulation → Ran) → Ran
look until room sim (refused r) rest = ended (Refused r) sim
look until room sim (done (next, log)) rest =
    if lt next.clock until
    then onward sim (fitting room (next, log)) rest
    else then_ran [] log (ended Reached next)

-- "It ends Reached, Spent (allowance used up before that) or by a refusal, and reports the number of steps that it completed. Allowance 0 gives Spent and 0 steps"
unfoldable pub steps_until : List Float → Float → ℕ → ℕ → Simulation → Ran
steps_until services until room zero sim = ended Spent sim
steps_until services until room (suc allowance) sim =
    look until room sim (one_step services sim) (λ next. steps_until services until (room - length next.active) allowance next)

-- "A bad `until` is refused before any step." (10: "`until` is no time")
unfoldable pub step_until : List Float → Float → ℕ → ℕ → Simulation → Ran
step_until services until room allowance sim =
    if not (is_valid sim) then ended (Refused BadState) sim
    else if not (is_time until) then ended (Refused BadTime) sim
    else steps_until services until room allowance sim

-- ---- messages, clock and status
-- 13: "or the active messages listed, and they don't fit"
unfoldable pub get_messages : ℕ → Simulation → Outcome (List Message)
get_messages room sim = guarded sim (at_most room NoOutRoom sim.active)

unfoldable pub get_global_time : Simulation → Outcome Float
get_global_time sim = guarded sim (done sim.clock)

-- "Status: phase for processor and batcher; for a stopwatch the mean of complete durations .., or none if none is complete; for a Coupled its parked count"
pub data Status : Type 0 where
  OfProcessor : ProcessorPhase → Status
  OfBatcher : BatcherPhase → Status
  Mean : Option Float → Status
  ParkedCount : ℕ → Status

abbrev pub status_of : State → Status
status_of (of_processor s) = OfProcessor s.phase
status_of (of_batcher s) = OfBatcher s.phase
status_of (of_stopwatch s) = Mean (mean (durations s.jobs))
status_of (of_coupled parked) = ParkedCount (length parked)

abbrev pub status_of_first : List State → List ℕ → Outcome Status
status_of_first states [] = refused ModelNotFound
status_of_first states (i ∷ is) = done (status_of (state_at states i))

-- 4: "status of an id not among the models without parent"
unfoldable pub get_status : ℕ → Simulation → Outcome Status
get_status id sim = guarded sim (status_of_first sim.states (those (λ i. eqb (id_at sim.table i) id) (parentless sim.table)))

-- ---- calls as data, up to the next `post` or `put`, each handed the simulation that the one before left
pub data Call : Type 0 where
  InjectInput : Message → Call
  Step : (services : List Float) (room : ℕ) → Call
  StepN : (services : List Float) (room count : ℕ) → Call
  StepUntil : (services : List Float) (until : Float) (room allowance : ℕ) → Call
  Reset ResetMessages ResetGlobalTime : Call

-- "A refused call returns its number and changes neither the simulation (the place in the service list included) ..."
abbrev pub changed : Simulation → Outcome Simulation → Ran
changed sim (refused r) = ended (Refused r) sim
changed sim (done next) = ended Done next

unfoldable pub called : Call → Simulation → Ran
called (InjectInput m) sim = changed sim (inject_input m sim)
called (Step services room) sim = step services room sim
called (StepN services room count) sim = step_n services room count sim
called (StepUntil services until room allowance) sim = step_until services until room allowance sim
called Reset sim = changed sim (reset sim)
called ResetMessages sim = changed sim (reset_messages sim)
called ResetGlobalTime sim = changed sim (reset_global_time sim)

-- the simulation that a list of calls leaves, and all that happened
abbrev pub calls : List Call → Simulation → Simulation × List Happening
calls [] sim = (sim, [])
calls (c ∷ cs) sim =
    let r = called c sim in
    let (last, more) = calls cs r.sim in
    (last, r.log ++ more)

-- what every call's own numbers keep by their types: "Ids and ports are 16-bit numbers and contents 32-bit ones at every call", "a 64-bit count", "the allowance is a 32-bit number", and the times lent or given are f64s
abbrev pub list_rules : List Float → ℕ → List Bool
list_rules services room = every (fits binary64) services ∷ is_word (length services) ∷ is_word room ∷ []

abbrev pub call_rules : Call → List Bool
call_rules (InjectInput m) =
    is_id m.source_id ∷ is_port m.source_port ∷ is_id m.target_id ∷ is_port m.target_port ∷ fits binary64 m.time ∷ is_content m.content ∷ []
call_rules (Step services room) = list_rules services room
call_rules (StepN services room count) = is_word count ∷ list_rules services room
call_rules (StepUntil services until room allowance) = fits binary64 until ∷ is_allowance allowance ∷ list_rules services room
call_rules Reset = []
call_rules ResetMessages = []
call_rules ResetGlobalTime = []
