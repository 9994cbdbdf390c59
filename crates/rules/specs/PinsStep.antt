-- The Coupled and the step of 01, pinned: each case is computed, and an edit of its sentence breaks it. Assumes nothing.
use Rattle.std.specs.Prelude.{ℕ, ◌≡◌, refl, List, [], ◌∷◌, ◌++◌, replicate, Float, None, Some}
use Rattle.std.specs.Float.Ieee.{add, sub, lt, le, eq, fits, of_bits, to_bits}
use Rattle.times.specs.Time.{instant, never, latest, is_time, is_timer, least_of}
use Rattle.rules.specs.declared.Refusal.TheVariants.{InvalidMessage, InvalidModelState, NoMessageRoom, NoServiceTime, ClockOverflow, Idle}
use Rattle.rules.specs.declared.StopwatchPhase.TheVariants as watching
use Rattle.rules.specs.declared.Metric.TheVariants.{Minimum}
use Rattle.rules.specs.declared.Message.{Message}
use Rattle.rules.specs.Base.{from}
use Rattle.rules.specs.Table.{coupled, Row, Connector, Coupling, external_input, external_output, internal_coupling, Table}
use Rattle.rules.specs.Intake.{intake, passes_intake}
use Rattle.rules.specs.Simulation.{Parked, State, of_stopwatch, of_coupled, Simulation}
use Rattle.rules.specs.Models.{Started, Kept, Marked, Asked, Passed, service, processor_external, processor_internal, batcher_external, batcher_internal, stopwatch_external, stopwatch_internal}
use Rattle.rules.specs.Step.{Happening, came, went, waited, out_at, timer, external, internal, step_on}
use Rattle.rules.specs.Valid.{is_valid}
use Rattle.rules.specs.Calls.{End, Done, Refused, steps, step_n, step}
use Rattle.rules.specs.Examples.{at, one, two, three, four, five, six, ten, row, within, a_batcher, a_processor, a_stopwatch, link, active, passive, batch, release, no_batch, watch, parked_at, message, job}

-- ---- a simulation with its states handed in, at a clock, with the service times 4, 5, 6 from their start on
abbrev table_of : List Row → List Connector → List Coupling → Table
table_of rows connectors couplings = record { rows = rows; connectors = connectors; couplings = couplings }

abbrev simulation : Table → List State → List Message → Float → Simulation
simulation t states ms clock = record { table = t; states = states; active = ms; clock = clock; place = 0 }

-- one step of it, and what is seen: how it ended, the states, the messages, the clock, the place and the log
pub record Seen : Type 0 where
  pub end : End
  pub states : List State
  pub active : List Message
  pub clock : Float
  pub place : ℕ
  pub log : List Happening

unfoldable pub step_of : Simulation → Seen
step_of sim =
    let r = step (four ∷ five ∷ six ∷ []) 256 sim in
    record { end = r.end; states = r.sim.states; active = r.sim.active; clock = r.sim.clock; place = r.sim.place; log = r.log }

unfoldable pub end_of : Simulation → End
end_of sim = (step_of sim).end

unfoldable pub log_of : Simulation → List Happening
log_of sim = (step_of sim).log

unfoldable pub states_of : Simulation → List State
states_of sim = (step_of sim).states

unfoldable pub active_of : Simulation → List Message
active_of sim = (step_of sim).active

-- a stopwatch that was asked: its timer is 0, and it puts nothing out
abbrev asked_watch : State
asked_watch = of_stopwatch (record { phase = watching.JobFetch; timer = instant; jobs = [] })

-- ---- Coupled: the Coupled 1 (row 0) with a processor 2 (row 1) and a batcher 3 (m = 3, row 2), and the Coupled 4 (row 3)
abbrev pair : List Row
pair = row 1 coupled ∷ within 1 2 (a_processor 8) ∷ within 1 3 (a_batcher 3 ten) ∷ row 4 coupled ∷ []

abbrev at_rest : List State
at_rest = of_coupled [] ∷ passive [] never ∷ no_batch ∷ of_coupled [] ∷ []

-- the job 11 comes at port 1 of the Coupled 1
abbrev entering : List Coupling → Simulation
entering couplings = simulation (table_of pair [] couplings) at_rest (job 1 1 11 ∷ []) three

-- the Coupled 1 with what is parked in it, a processor 2, a batcher 3 (m = 1), and a stopwatch 5 that is due
abbrev due_rows : List Row
due_rows = row 1 coupled ∷ within 1 2 (a_processor 8) ∷ within 1 3 (a_batcher 1 ten) ∷ within 1 5 (a_stopwatch Minimum) ∷ []

abbrev due : List Coupling → List State → Simulation
due couplings states = simulation (table_of due_rows [] couplings) states [] three

-- four Coupleds, each in the one before, and a processor 5 in the innermost
abbrev deep : List Row
deep = row 1 coupled ∷ within 1 2 coupled ∷ within 2 3 coupled ∷ within 3 4 coupled ∷ within 4 5 (a_processor 8) ∷ []

abbrev deep_inputs : List Coupling
deep_inputs = external_input 1 1 2 1 ∷ external_input 2 1 3 1 ∷ external_input 3 1 4 1 ∷ external_input 4 1 5 1 ∷ []

abbrev deep_outputs : List Coupling
deep_outputs = external_output 4 5 2 6 ∷ external_output 3 4 6 7 ∷ external_output 2 3 7 8 ∷ external_output 1 2 8 9 ∷ []

-- a Coupled 1 with a batcher 2 that releases 64 jobs and a batcher 3 that releases one; and the two without the Coupled
abbrev releasing : List State
releasing = release (from 1 64) ∷ release (65 ∷ []) ∷ []

abbrev burst : List Connector → List Coupling → Simulation
burst connectors couplings =
    simulation (table_of (row 1 coupled ∷ within 1 2 (a_batcher 64 ten) ∷ within 1 3 (a_batcher 64 ten) ∷ []) connectors couplings) (of_coupled [] ∷ releasing) [] three

pub record Coupleds : Type 0 where
  -- "A message goes at once along every matching external input coupling to the component", in the couplings' order
  pub along-inputs : log_of (entering (external_input 1 1 3 7 ∷ external_input 1 5 3 1 ∷ external_input 1 1 2 1 ∷ internal_coupling 1 1 1 3 1 ∷ external_output 1 1 1 1 ∷ []))
      ≡ came three 0 1 11 Passed ∷ came three 2 7 11 Kept ∷ came three 1 1 11 Started ∷ waited instant ∷ []
  pub along-twice : states_of (entering (external_input 1 1 3 1 ∷ external_input 1 1 3 1 ∷ [])) ≡ of_coupled [] ∷ passive [] never ∷ batch (11 ∷ 11 ∷ []) ten ∷ of_coupled [] ∷ []
  -- "none matching, it is ignored"
  pub ignored : step_of (entering (external_input 1 5 3 1 ∷ []))
      ≡ record { end = Done; states = at_rest; active = []; clock = three; place = 0; log = came three 0 1 11 Passed ∷ waited instant ∷ [] }
  -- the couplings of another Coupled do not count
  pub own-couplings : states_of (simulation (table_of (pair ++ within 4 6 (a_batcher 3 ten) ∷ []) [] (external_input 4 1 6 1 ∷ [])) (at_rest ++ no_batch ∷ []) (job 1 1 11 ∷ []) three) ≡ at_rest ++ no_batch ∷ []
  -- a component's refusal is the step's
  pub component-refuses : step_of (entering (external_input 1 1 3 1 ∷ external_input 1 1 2 9 ∷ []))
      ≡ record { end = Refused InvalidMessage; states = at_rest; active = job 1 1 11 ∷ []; clock = three; place = 0; log = [] }
  -- "A Coupled may hold another Coupled, to depth 4": down and up through all of them
  pub down : step_of (simulation (table_of deep [] deep_inputs) (replicate 4 (of_coupled []) ++ passive [] never ∷ []) (job 1 1 11 ∷ []) three)
      ≡ record {
        end = Done;
        states = replicate 4 (of_coupled []) ++ active (11 ∷ []) four ∷ [];
        active = [];
        clock = three;
        place = 1;
        log = came three 0 1 11 Passed ∷ came three 1 1 11 Passed ∷ came three 2 1 11 Passed ∷ came three 3 1 11 Passed ∷ came three 4 1 11 Started ∷ waited instant ∷ [];
      }
  pub up : step_of (simulation (table_of deep (link 1 9 7 3 ∷ []) deep_outputs) (replicate 4 (of_coupled []) ++ active (11 ∷ []) two ∷ []) [] three)
      ≡ record {
        end = Done;
        states = replicate 4 (of_coupled []) ++ passive [] instant ∷ [];
        active = message 1 9 7 3 five 11 ∷ [];
        clock = five;
        place = 0;
        log = waited two ∷ went five 4 (out_at 2 11 ∷ []) ∷ went five 3 (out_at 6 11 ∷ []) ∷ went five 2 (out_at 7 11 ∷ []) ∷ went five 1 (out_at 8 11 ∷ []) ∷ went five 0 (out_at 9 11 ∷ []) ∷ [];
      }
  -- "Timer: least of its components', infinite with none." (with nothing parked: 02, A3)
  pub timer-least : (step_of (simulation (table_of pair [] []) (of_coupled [] ∷ active (7 ∷ []) two ∷ batch (8 ∷ []) one ∷ of_coupled [] ∷ []) [] three)).clock ≡ four
  pub timer-none : end_of (simulation (table_of (row 1 coupled ∷ []) [] []) (of_coupled [] ∷ []) [] three) ≡ Refused Idle
  -- "Internal: parked messages go to their components in component order, then parked order, and the list is emptied (those for no component are lost). Then each component with timer 0 has its internal event, in order."
  pub unparks : step_of (due [] (of_coupled (parked_at 3 1 21 ∷ parked_at 2 1 22 ∷ parked_at 9 1 23 ∷ parked_at 3 1 24 ∷ []) ∷ passive [] never ∷ no_batch ∷ asked_watch ∷ []))
      ≡ record {
        end = Done;
        states = of_coupled [] ∷ active (22 ∷ []) four ∷ release (24 ∷ []) ∷ watch [] ∷ [];
        active = [];
        clock = three;
        place = 1;
        log = waited instant ∷ came three 1 1 22 Started ∷ came three 2 1 21 Kept ∷ came three 2 1 24 Kept ∷ went three 2 (out_at 2 21 ∷ []) ∷ went three 3 [] ∷ went three 0 [] ∷ [];
      }
  -- the parked port is the component's
  pub unparks-port : end_of (due [] (of_coupled (parked_at 2 9 22 ∷ []) ∷ passive [] never ∷ no_batch ∷ asked_watch ∷ [])) ≡ Refused InvalidMessage
  -- a component with another timer has none
  pub not-due : log_of (due [] (of_coupled [] ∷ active (7 ∷ []) four ∷ no_batch ∷ asked_watch ∷ [])) ≡ waited instant ∷ went three 3 [] ∷ went three 0 [] ∷ []
  -- a component's refusal is the step's, from an internal event too
  pub component-goes-on : end_of (simulation (table_of due_rows [] []) (of_coupled [] ∷ passive (7 ∷ []) instant ∷ no_batch ∷ asked_watch ∷ []) [] three) ≡ Done
  pub component-no-service : (step [] 256 (due [] (of_coupled [] ∷ passive (7 ∷ []) instant ∷ no_batch ∷ asked_watch ∷ []))).end ≡ Refused NoServiceTime
  -- "Each message out is first parked along internal couplings, then put out along external output couplings.": in the couplings' order, each by source id and port
  pub parks : step_of (simulation
      (table_of due_rows (link 1 4 9 9 ∷ link 1 5 9 9 ∷ [])
      (internal_coupling 1 3 2 5 1 ∷ external_output 1 3 2 5 ∷ internal_coupling 1 3 2 2 7 ∷ external_output 1 3 2 4 ∷ internal_coupling 1 2 2 2 1 ∷ internal_coupling 1 3 9 2 1 ∷ external_output 1 2 2 4 ∷ external_output 1 3 9 4 ∷ []))
      (of_coupled [] ∷ passive [] never ∷ release (21 ∷ 22 ∷ []) ∷ watch [] ∷ []) [] three)
      ≡ record {
        end = Done;
        states = of_coupled (parked_at 5 1 21 ∷ parked_at 2 7 21 ∷ []) ∷ passive [] never ∷ release (22 ∷ []) ∷ watch [] ∷ [];
        active = message 1 5 9 9 three 21 ∷ message 1 4 9 9 three 21 ∷ [];
        clock = three;
        place = 0;
        log = waited instant ∷ went three 2 (out_at 2 21 ∷ []) ∷ went three 0 (out_at 5 21 ∷ out_at 4 21 ∷ []) ∷ [];
      }
  -- what every component puts out is put out, in component order, and what every component parks is parked
  pub both_out : step_of (simulation
      (table_of (row 1 coupled ∷ within 1 3 (a_batcher 1 ten) ∷ within 1 2 (a_batcher 1 ten) ∷ []) (link 1 5 9 9 ∷ [])
      (external_output 1 2 2 5 ∷ external_output 1 3 2 5 ∷ internal_coupling 1 2 2 7 1 ∷ internal_coupling 1 3 2 8 1 ∷ []))
      (of_coupled [] ∷ release (21 ∷ []) ∷ release (22 ∷ []) ∷ []) [] three)
      ≡ record {
        end = Done;
        states = of_coupled (parked_at 8 1 21 ∷ parked_at 7 1 22 ∷ []) ∷ no_batch ∷ no_batch ∷ [];
        active = message 1 5 9 9 three 21 ∷ message 1 5 9 9 three 22 ∷ [];
        clock = three;
        place = 0;
        log = waited instant ∷ went three 1 (out_at 2 21 ∷ []) ∷ went three 2 (out_at 2 22 ∷ []) ∷ went three 0 (out_at 5 21 ∷ out_at 5 22 ∷ []) ∷ [];
      }
  -- the couplings of another Coupled, though they name this one's component, do not count
  pub other-couplings : step_of (simulation (table_of pair (link 1 5 9 9 ∷ link 4 5 9 9 ∷ []) (internal_coupling 4 3 2 2 1 ∷ external_output 4 3 2 5 ∷ []))
      (of_coupled [] ∷ passive [] never ∷ release (21 ∷ []) ∷ of_coupled [] ∷ []) [] three)
      ≡ record { end = Done; states = at_rest; active = []; clock = three; place = 0; log = waited instant ∷ went three 2 (out_at 2 21 ∷ []) ∷ went three 0 [] ∷ [] }
  -- what is parked in this event waits for the next
  pub parked-waits : states_of (due (internal_coupling 1 3 2 2 1 ∷ []) (of_coupled [] ∷ passive [] never ∷ release (21 ∷ []) ∷ watch [] ∷ []))
      ≡ of_coupled (parked_at 2 1 21 ∷ []) ∷ passive [] never ∷ no_batch ∷ watch [] ∷ []
  -- 8: "or the 65th parked", "256 messages out of one internal event"
  pub parked-64 : end_of (burst [] (internal_coupling 1 2 2 9 1 ∷ [])) ≡ Done
  pub parked-65 : step_of (burst [] (internal_coupling 1 2 2 9 1 ∷ internal_coupling 1 3 2 8 1 ∷ []))
      ≡ record { end = Refused NoMessageRoom; states = of_coupled [] ∷ release (from 1 64) ∷ release (65 ∷ []) ∷ []; active = []; clock = three; place = 0; log = [] }
  pub out-256 : end_of (burst [] (replicate 4 (external_output 1 2 2 1))) ≡ Done
  pub out-257 : end_of (burst [] (external_output 1 3 2 1 ∷ replicate 4 (external_output 1 2 2 1))) ≡ Refused NoMessageRoom

pub coupleds : Coupleds
unfolding step_of end_of log_of states_of active_of step step_n steps is_valid is_time is_timer least_of add sub lt le eq fits of_bits to_bits service processor_external processor_internal batcher_external batcher_internal stopwatch_external stopwatch_internal timer external internal step_on intake passes_intake
coupleds = record {
  along-inputs = refl;
  along-twice = refl;
  ignored = refl;
  own-couplings = refl;
  component-refuses = refl;
  down = refl;
  up = refl;
  timer-least = refl;
  timer-none = refl;
  unparks = refl;
  unparks-port = refl;
  not-due = refl;
  component-goes-on = refl;
  component-no-service = refl;
  parks = refl;
  both_out = refl;
  other-couplings = refl;
  parked-waits = refl;
  parked-64 = refl;
  parked-65 = refl;
  out-256 = refl;
  out-257 = refl;
}

-- ---- 02, A3: "a Coupled with any parked message has timer 0"
-- what is seen after so many steps
unfoldable pub steps_of : ℕ → Simulation → Seen
steps_of count sim =
    let r = step_n (four ∷ five ∷ six ∷ []) 256 count sim in
    record { end = r.end; states = r.sim.states; active = r.sim.active; clock = r.sim.clock; place = r.sim.place; log = r.log }

-- four Coupleds, each in the one before, the innermost's processor at rest, and this parked in each
abbrev nested : List Parked → List Parked → List Parked → List Parked → Simulation
nested first second third fourth = simulation (table_of deep [] deep_inputs) (of_coupled first ∷ of_coupled second ∷ of_coupled third ∷ of_coupled fourth ∷ passive [] never ∷ []) [] three

-- the Coupled 1 with this parked in it, its batcher's timer at 1, and the Coupled 4 beside it
abbrev waiting : List Parked → Simulation
waiting parked = simulation (table_of pair [] []) (of_coupled parked ∷ passive [] never ∷ batch (8 ∷ []) one ∷ of_coupled [] ∷ []) [] three

pub record Handings : Type 0 where
  -- with no component due, the parked message is handed over, and the clock stays
  pub handed : step_of (simulation (table_of pair [] []) (of_coupled (parked_at 2 1 7 ∷ []) ∷ passive [] never ∷ no_batch ∷ of_coupled [] ∷ []) [] three)
      ≡ record {
        end = Done;
        states = of_coupled [] ∷ active (7 ∷ []) four ∷ no_batch ∷ of_coupled [] ∷ [];
        active = [];
        clock = three;
        place = 1;
        log = waited instant ∷ came three 1 1 7 Started ∷ went three 0 [] ∷ [];
      }
  -- the Coupled comes before a component whose timer has not run out, and that timer is not cut
  pub handed-first : step_of (waiting (parked_at 2 1 7 ∷ []))
      ≡ record {
        end = Done;
        states = of_coupled [] ∷ active (7 ∷ []) four ∷ batch (8 ∷ []) one ∷ of_coupled [] ∷ [];
        active = [];
        clock = three;
        place = 1;
        log = waited instant ∷ came three 1 1 7 Started ∷ went three 0 [] ∷ [];
      }
  -- with messages active too
  pub handed-beside : log_of (simulation (table_of pair [] []) (of_coupled (parked_at 2 1 7 ∷ []) ∷ passive [] never ∷ no_batch ∷ of_coupled [] ∷ []) (job 4 1 21 ∷ []) three)
      ≡ came three 3 1 21 Passed ∷ waited instant ∷ came three 1 1 7 Started ∷ went three 0 [] ∷ []
  -- parked for no component: the Coupled is due once, the message is lost, and the run goes on
  pub lost : step_of (waiting (parked_at 9 1 7 ∷ []))
      ≡ record { end = Done; states = (waiting []).states; active = []; clock = three; place = 0; log = waited instant ∷ went three 0 [] ∷ [] }
  pub lost-goes-on : (steps_of 2 (waiting (parked_at 9 1 7 ∷ []))).clock ≡ four
  pub lost-idle : (steps_of 2 (nested (parked_at 9 1 7 ∷ []) [] [] [])).end ≡ Refused Idle
  -- in a Coupled at any depth, each around it is due
  pub depth-1 : log_of (nested (parked_at 2 1 7 ∷ []) [] [] [])
      ≡ waited instant ∷ came three 1 1 7 Passed ∷ came three 2 1 7 Passed ∷ came three 3 1 7 Passed ∷ came three 4 1 7 Started ∷ went three 0 [] ∷ []
  pub depth-2 : log_of (nested [] (parked_at 3 1 7 ∷ []) [] []) ≡ waited instant ∷ came three 2 1 7 Passed ∷ came three 3 1 7 Passed ∷ came three 4 1 7 Started ∷ went three 1 [] ∷ went three 0 [] ∷ []
  pub depth-3 : log_of (nested [] [] (parked_at 4 1 7 ∷ []) []) ≡ waited instant ∷ came three 3 1 7 Passed ∷ came three 4 1 7 Started ∷ went three 2 [] ∷ went three 1 [] ∷ went three 0 [] ∷ []
  pub depth-4 : step_of (nested [] [] [] (parked_at 5 1 7 ∷ []))
      ≡ record {
        end = Done;
        states = replicate 4 (of_coupled []) ++ active (7 ∷ []) four ∷ [];
        active = [];
        clock = three;
        place = 1;
        log = waited instant ∷ came three 4 1 7 Started ∷ went three 3 [] ∷ went three 2 [] ∷ went three 1 [] ∷ went three 0 [] ∷ [];
      }
  -- at two depths at once: the outer list first
  pub both-depths : log_of (nested [] [] (parked_at 4 1 7 ∷ []) (parked_at 5 1 8 ∷ []))
      ≡ waited instant ∷ came three 3 1 7 Passed ∷ came three 4 1 7 Started ∷ came three 4 1 8 Kept ∷ went three 3 [] ∷ went three 2 [] ∷ went three 1 [] ∷ went three 0 [] ∷ []
  -- two equal messages are two
  pub equals : log_of (waiting (parked_at 2 1 7 ∷ parked_at 2 1 7 ∷ [])) ≡ waited instant ∷ came three 1 1 7 Started ∷ came three 1 1 7 Kept ∷ went three 0 [] ∷ []
  -- an active message comes before a parked one
  pub overtaken : log_of (simulation (table_of pair [] (external_input 1 1 2 1 ∷ [])) (waiting (parked_at 2 1 7 ∷ [])).states (job 1 1 21 ∷ []) three)
      ≡ came three 0 1 21 Passed ∷ came three 1 1 21 Started ∷ waited instant ∷ came three 1 1 7 Kept ∷ went three 0 [] ∷ []
  -- for the Coupled itself, or for what is inside a component: lost. For a component that is a Coupled and has no coupling for it: ignored there
  pub own-id : log_of (nested (parked_at 1 1 7 ∷ parked_at 3 1 8 ∷ []) [] [] []) ≡ waited instant ∷ went three 0 [] ∷ []
  pub no-input : log_of (nested (parked_at 2 5 7 ∷ []) [] [] []) ≡ waited instant ∷ came three 1 5 7 Passed ∷ went three 0 [] ∷ []
  -- a message that its component refuses: the step is refused and changes nothing, so every later one is
  pub refused-there : step_of (waiting (parked_at 2 9 7 ∷ [])) ≡ record { end = Refused InvalidMessage; states = (waiting (parked_at 2 9 7 ∷ [])).states; active = []; clock = three; place = 0; log = [] }
  -- what a batcher of size 1 parks for itself goes round without time passing
  pub round : (steps_of 4 (simulation (table_of (row 1 coupled ∷ within 1 2 (a_batcher 1 ten) ∷ row 3 (a_batcher 3 ten) ∷ []) [] (internal_coupling 1 2 2 2 1 ∷ [])) (of_coupled (parked_at 2 1 7 ∷ []) ∷ no_batch ∷ batch (8 ∷ []) one ∷ []) [] three)).clock ≡ three
  -- 12 needs every parked list empty
  pub none-parked : (step_of (nested [] [] [] [])).end ≡ Refused Idle

pub handings : Handings
unfolding step_of steps_of end_of log_of states_of active_of step step_n steps is_valid is_time is_timer least_of add sub lt le eq fits of_bits to_bits service processor_external processor_internal batcher_external batcher_internal stopwatch_external stopwatch_internal timer external internal step_on intake passes_intake
handings = record {
  handed = refl;
  handed-first = refl;
  handed-beside = refl;
  lost = refl;
  lost-goes-on = refl;
  lost-idle = refl;
  depth-1 = refl;
  depth-2 = refl;
  depth-3 = refl;
  depth-4 = refl;
  both-depths = refl;
  equals = refl;
  overtaken = refl;
  own-id = refl;
  no-input = refl;
  refused-there = refl;
  round = refl;
  none-parked = refl;
}

-- ---- the step: processors 1 and 2, a batcher 3 (m = 1), a Coupled 4 with a batcher 5
abbrev hall : List Row
hall = row 1 (a_processor 8) ∷ row 2 (a_processor 8) ∷ row 3 (a_batcher 1 ten) ∷ row 4 coupled ∷ within 4 5 (a_batcher 3 ten) ∷ []

abbrev quiet : List State
quiet = passive [] never ∷ passive [] never ∷ no_batch ∷ of_coupled [] ∷ no_batch ∷ []

abbrev in_hall : List Connector → List State → List Message → Float → Simulation
in_hall connectors states ms clock = simulation (table_of hall connectors []) states ms clock

-- both processors at work, 2 first done, and a batch waiting in the Coupled
abbrev busy : List State
busy = active (7 ∷ []) four ∷ active (8 ∷ []) two ∷ no_batch ∷ of_coupled [] ∷ batch (9 ∷ []) ten ∷ []

-- 0.1, 0.2, 0.3 and what rounding makes of 0.1 + 0.2 and 0.3 - 0.1
abbrev tenth : Float
tenth = at 0x3FB9_9999_9999_999A

abbrev fifth : Float
fifth = at 0x3FC9_9999_9999_999A

abbrev three_tenths : Float
three_tenths = at 0x3FD3_3333_3333_3333

abbrev lone : Float → Float → Simulation
lone t clock = simulation (table_of (row 1 (a_batcher 2 ten) ∷ []) [] []) (batch (11 ∷ []) t ∷ []) [] clock

abbrev fan : List Connector → Simulation
fan connectors = simulation (table_of (row 2 (a_batcher 64 ten) ∷ row 3 (a_batcher 64 ten) ∷ []) connectors []) releasing [] three

pub record Steps : Type 0 where
  -- 1. "each parentless model in row order takes, in list order, those whose target is its id": a component takes none
  pub takes : log_of (in_hall [] quiet (job 2 1 21 ∷ job 1 1 22 ∷ job 5 1 23 ∷ job 2 1 24 ∷ job 9 1 25 ∷ []) three)
      ≡ came three 0 1 22 Started ∷ came three 1 1 21 Started ∷ came three 1 1 24 Kept ∷ waited instant ∷ []
  -- service times go in the order in which they are needed
  pub places : states_of (in_hall [] quiet (job 2 1 21 ∷ job 1 1 22 ∷ []) three) ≡ active (22 ∷ []) four ∷ active (21 ∷ []) five ∷ no_batch ∷ of_coupled [] ∷ no_batch ∷ []
  pub places-kept : (step_of (in_hall [] quiet (job 2 1 21 ∷ job 1 1 22 ∷ []) three)).place ≡ 2
  -- the clock that a stopwatch marks is the step's before the advance; for what was parked too, since no time passes while anything is parked (02, A3)
  pub watches : step_of (simulation (table_of (row 1 (a_stopwatch Minimum) ∷ []) [] []) (watch [] ∷ []) (job 1 2 21 ∷ []) three)
      ≡ record { end = Done; states = watch (record { name = 21; start = None; stop = Some three } ∷ []) ∷ []; active = []; clock = three; place = 0; log = came three 0 2 21 Marked ∷ waited instant ∷ [] }
  pub watches-parked : step_of (simulation (table_of due_rows [] []) (of_coupled (parked_at 5 1 21 ∷ []) ∷ passive [] never ∷ batch (22 ∷ []) two ∷ watch [] ∷ []) [] three)
      ≡ record {
        end = Done;
        states = of_coupled [] ∷ passive [] never ∷ batch (22 ∷ []) two ∷ watch (record { name = 21; start = Some three; stop = None } ∷ []) ∷ [];
        active = [];
        clock = three;
        place = 0;
        log = waited instant ∷ came three 3 1 21 Marked ∷ went three 0 [] ∷ [];
      }
  -- a stopwatch that is asked puts out in that step
  pub fetches : step_of (simulation (table_of (row 1 (a_stopwatch Minimum) ∷ []) (link 1 4 9 9 ∷ []) []) (watch (record { name = 21; start = Some one; stop = Some two } ∷ []) ∷ []) (job 1 3 0 ∷ []) three)
      ≡ record {
        end = Done;
        states = watch (record { name = 21; start = Some one; stop = Some two } ∷ []) ∷ [];
        active = message 1 4 9 9 three 21 ∷ [];
        clock = three;
        place = 0;
        log = came three 0 3 0 Asked ∷ waited instant ∷ went three 0 (out_at 4 21 ∷ []) ∷ [];
      }
  -- the port and the content are the message's
  pub port-taken : end_of (in_hall [] quiet (job 1 2 21 ∷ []) three) ≡ Refused InvalidMessage
  -- the first refusal met is given: here the one at row 1, after row 0 started its job, which is undone
  pub first-refusal : step_of (in_hall [] quiet (job 2 9 21 ∷ job 1 1 22 ∷ []) three)
      ≡ record { end = Refused InvalidMessage; states = quiet; active = job 2 9 21 ∷ job 1 1 22 ∷ []; clock = three; place = 0; log = [] }
  pub row-order : end_of (simulation (table_of (row 1 (a_processor 0) ∷ row 2 (a_processor 8) ∷ []) [] []) (passive [] never ∷ passive [] never ∷ []) (job 2 9 21 ∷ job 1 1 22 ∷ []) three) ≡ Refused InvalidModelState
  -- 2. "The advance is 0 if messages were active", also where they reach nobody
  pub advance-zero : step_of (in_hall [] busy (job 9 1 21 ∷ []) three) ≡ record { end = Done; states = busy; active = []; clock = three; place = 0; log = waited instant ∷ [] }
  -- "else the least timer", and 3. "Every model keeps the timer less the step's advance", components too. "The clock gains the advance"
  pub advance-least : step_of (in_hall (link 2 2 1 1 ∷ []) busy [] three)
      ≡ record {
        end = Done;
        states = active (7 ∷ []) two ∷ passive [] instant ∷ no_batch ∷ of_coupled [] ∷ batch (9 ∷ []) (at 0x4020_0000_0000_0000) ∷ [];
        active = message 2 2 1 1 five 8 ∷ [];
        clock = five;
        place = 0;
        log = waited two ∷ went five 1 (out_at 2 8 ∷ []) ∷ [];
      }
  pub advance-stopwatch : states_of (simulation (table_of (row 1 (a_stopwatch Minimum) ∷ row 2 (a_batcher 2 ten) ∷ []) [] [])
      (of_stopwatch (record { phase = watching.Passive; timer = four; jobs = [] }) ∷ batch (8 ∷ []) two ∷ []) [] three)
      ≡ of_stopwatch (record { phase = watching.Passive; timer = two; jobs = [] }) ∷ no_batch ∷ []
  pub advance-inside : (step_of (in_hall [] (passive [] never ∷ active (8 ∷ []) four ∷ no_batch ∷ of_coupled [] ∷ batch (9 ∷ []) one ∷ []) [] three)).clock ≡ four
  -- "Infinite: refusal 12.": 12 "a step with no active message and every timer infinite", and with nothing parked (`Handings`)
  pub idle : step_of (in_hall [] quiet [] three) ≡ record { end = Refused Idle; states = quiet; active = []; clock = three; place = 0; log = [] }
  pub not-idle : end_of (in_hall [] quiet (job 9 1 21 ∷ []) three) ≡ Done
  -- "rounded once"
  pub timer-rounded : states_of (simulation (table_of (row 1 (a_batcher 2 ten) ∷ row 2 (a_batcher 2 ten) ∷ []) [] []) (batch (7 ∷ []) tenth ∷ batch (8 ∷ []) three_tenths ∷ []) [] three)
      ≡ no_batch ∷ batch (8 ∷ []) (at 0x3FC9_9999_9999_9999) ∷ []
  pub clock-rounded : (step_of (lone fifth tenth)).clock ≡ at 0x3FD3_3333_3333_3334
  -- "refusal 11 is decided here": 11 "the new clock is no time", before what the internal events refuse
  pub clock-stands : end_of (lone (at 0x4060_0000_0000_0000) latest) ≡ Done
  pub clock-past : step_of (lone (at 0x4070_0000_0000_0000) latest)
      ≡ record { end = Refused ClockOverflow; states = batch (11 ∷ []) (at 0x4070_0000_0000_0000) ∷ []; active = []; clock = latest; place = 0; log = [] }
  pub clock-before-events : (step [] 256 (simulation (table_of (row 1 (a_processor 8) ∷ []) [] []) (passive (7 ∷ []) (at 0x4070_0000_0000_0000) ∷ []) [] latest)).end ≡ Refused ClockOverflow
  -- 4. "Each parentless model in row order whose timer equals 0 has its internal event", in the step in which it came to 0; the others have none
  pub turns : log_of (in_hall [] (active (7 ∷ []) two ∷ active (8 ∷ []) four ∷ no_batch ∷ of_coupled [] ∷ batch (9 ∷ []) two ∷ []) [] three)
      ≡ waited two ∷ went five 0 (out_at 2 7 ∷ []) ∷ went five 4 (out_at 2 9 ∷ []) ∷ went five 3 [] ∷ []
  pub same_step : log_of (in_hall [] quiet (job 3 8 21 ∷ []) three) ≡ came three 2 8 21 Kept ∷ waited instant ∷ went three 2 (out_at 2 21 ∷ []) ∷ []
  -- "Each outgoing message goes along every connector, in order, that matches source id and port, stamped with the new clock." 5. "These messages replace the active ones."
  pub along-connectors : active_of (simulation (table_of (row 1 (a_batcher 2 ten) ∷ row 2 (a_batcher 2 ten) ∷ [])
      (link 1 2 9 1 ∷ link 2 2 9 3 ∷ link 1 3 9 4 ∷ link 1 2 8 5 ∷ []) []) (batch (21 ∷ 22 ∷ []) two ∷ batch (23 ∷ []) two ∷ []) [] three)
      ≡ message 1 2 9 1 five 21 ∷ message 1 2 8 5 five 21 ∷ message 1 2 9 1 five 22 ∷ message 1 2 8 5 five 22 ∷ message 2 2 9 3 five 23 ∷ []
  pub replaced : active_of (in_hall (link 3 2 9 1 ∷ []) quiet (job 3 1 21 ∷ job 9 1 22 ∷ []) three) ≡ message 3 2 9 1 three 21 ∷ []
  -- "Connectors and other couplings may name ids that don't exist; their messages reach nobody."
  pub reach-nobody : step_of (in_hall [] quiet (message 3 2 9 1 three 21 ∷ []) three) ≡ record { end = Done; states = quiet; active = []; clock = three; place = 0; log = waited instant ∷ [] }
  -- 8: "a message would be the 257th active"
  pub active-256 : end_of (fan (replicate 4 (link 2 2 9 1))) ≡ Done
  pub active-257 : end_of (fan (link 3 2 9 1 ∷ replicate 4 (link 2 2 9 1))) ≡ Refused NoMessageRoom

pub steps-taken : Steps
unfolding step_of end_of log_of states_of active_of step step_n steps is_valid is_time is_timer least_of add sub lt le eq fits of_bits to_bits service processor_external processor_internal batcher_external batcher_internal stopwatch_external stopwatch_internal timer external internal step_on intake passes_intake
steps-taken = record {
  takes = refl;
  places = refl;
  places-kept = refl;
  watches = refl;
  watches-parked = refl;
  fetches = refl;
  port-taken = refl;
  first-refusal = refl;
  row-order = refl;
  advance-zero = refl;
  advance-least = refl;
  advance-stopwatch = refl;
  advance-inside = refl;
  idle = refl;
  not-idle = refl;
  timer-rounded = refl;
  clock-rounded = refl;
  clock-stands = refl;
  clock-past = refl;
  clock-before-events = refl;
  turns = refl;
  same_step = refl;
  along-connectors = refl;
  replaced = refl;
  reach-nobody = refl;
  active-256 = refl;
  active-257 = refl;
}
