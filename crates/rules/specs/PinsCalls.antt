-- The calls of 01, and what refusal 20 asks, pinned: each case is computed, and an edit of its sentence breaks it. Assumes nothing.
use Rattle.std.specs.Prelude.{ℕ, ◌-◌, ◌^◌, ◌≡◌, refl, Bool, true, false, List, [], ◌∷◌, ◌++◌, map, pos, replicate, Float, None, Some}
use Rattle.std.specs.Float.{fin}
use Rattle.std.specs.Float.Ieee.{add, sub, div, of_int, lt, le, eq, fits, of_bits, to_bits}
use Rattle.times.specs.Time.{instant, never, latest, is_time, is_timer, least_of}
use Rattle.rules.specs.declared.Refusal.TheVariants.{TooLarge, ModelNotFound, NoMessageRoom, BadTime, Idle, NoOutRoom, BadState}
use Rattle.rules.specs.declared.ProcessorPhase.TheVariants as working
use Rattle.rules.specs.declared.BatcherPhase.TheVariants as batching
use Rattle.rules.specs.declared.StopwatchPhase.TheVariants as watching
use Rattle.rules.specs.declared.Metric.TheVariants.{Minimum}
use Rattle.rules.specs.declared.Message.{Message}
use Rattle.rules.specs.Base.{refused, done, from, hold}
use Rattle.rules.specs.Table.{coupled, Row, Table, Kind, external_input}
use Rattle.rules.specs.Intake.{Posted, intake, passes_intake}
use Rattle.rules.specs.Simulation.{State, of_stopwatch, of_coupled, Marks, Simulation, begun, empty_table}
use Rattle.rules.specs.Models.{Kept, service, processor_external, processor_internal, batcher_external, batcher_internal, stopwatch_external, stopwatch_internal}
use Rattle.rules.specs.Step.{came, went, waited, out_at, timer, external, internal, step_on}
use Rattle.rules.specs.Valid.{is_valid, model_fits, processor_external_call, processor_internal_call, batcher_external_call, batcher_internal_call, stopwatch_external_call, stopwatch_internal_call}
use Rattle.rules.specs.Calls.{post, handed_back, put, inject_input, reset, reset_messages, reset_global_time, End, Done, Reached, Spent, Refused, Ran, ended, steps, step_n, step, steps_until, step_until, get_messages, get_global_time, OfProcessor, OfBatcher, Mean, ParkedCount, get_status, Call, InjectInput, Step, StepN, StepUntil, Reset, ResetMessages, ResetGlobalTime, called, calls, call_rules}
use Rattle.rules.specs.Examples.{at, one, two, three, four, five, six, ten, minus_zero, posted, row, within, a_batcher, a_processor, a_stopwatch, link, active, passive, batch, release, no_batch, watch, parked_at, message, job, jobs, given}

-- ---- a simulation in the midst of a run: a processor 1, a batcher 2 (m = 2), a stopwatch 3, a Coupled 4 with a batcher 5
abbrev floor : List Row
floor = row 1 (a_processor 8) ∷ row 2 (a_batcher 2 ten) ∷ row 3 (a_stopwatch Minimum) ∷ row 4 coupled ∷ within 4 5 (a_batcher 2 ten) ∷ []

abbrev floor_table : Table
floor_table = record { rows = floor; connectors = link 1 2 2 1 ∷ []; couplings = [] }

abbrev marks_of : ℕ → Float → Float → Marks
marks_of name start stop = record { name = name; start = Some start; stop = Some stop }

abbrev floor_states : List State
floor_states = active (7 ∷ []) two ∷ batch (8 ∷ []) four ∷ watch (marks_of 9 one four ∷ []) ∷ of_coupled (parked_at 5 1 6 ∷ []) ∷ no_batch ∷ []

abbrev midst : Simulation
midst = record { table = floor_table; states = floor_states; active = job 9 1 21 ∷ []; clock = three; place = 5 }

abbrev with_states : List State → Simulation
with_states states = record { table = floor_table; states = states; active = []; clock = three; place = 5 }

abbrev with_active : List Message → Simulation
with_active ms = record { table = floor_table; states = floor_states; active = ms; clock = three; place = 5 }

abbrev with_clock : Float → Simulation
with_clock clock = record { table = floor_table; states = floor_states; active = []; clock = clock; place = 5 }

abbrev with_place : ℕ → Simulation
with_place place = record { table = floor_table; states = floor_states; active = []; clock = three; place = place }

-- one that 20 refuses
abbrev broken : Simulation
broken = with_clock never

abbrev fresher : Posted
fresher = posted (row 1 (a_batcher 2 ten) ∷ []) [] []

abbrev too_many : Posted
too_many = posted (map (λ k. row k coupled) (from 1 65)) [] []

abbrev bad_time : Message
bad_time = message 0 0 1 1 minus_zero 11

pub record Making : Type 0 where
  -- `post`: a new simulation, with the clock at 0, no messages, the place at the start
  pub posts : post fresher ≡ done (record { table = record { rows = row 1 (a_batcher 2 ten) ∷ []; connectors = []; couplings = [] }; states = no_batch ∷ []; active = []; clock = instant; place = 0 })
  pub post-refused : post too_many ≡ refused TooLarge
  -- "A refused `post` hands back the simulation of the empty table"
  pub handed-back : handed_back (post too_many) ≡ record { table = empty_table; states = []; active = []; clock = instant; place = 0 }
  -- "`put` brings fresh default models and keeps messages, clock and place."
  pub puts : put fresher midst ≡ done (record { table = record { rows = row 1 (a_batcher 2 ten) ∷ []; connectors = []; couplings = [] }; states = no_batch ∷ []; active = job 9 1 21 ∷ []; clock = three; place = 5 })
  pub put_refused : put too_many midst ≡ refused TooLarge
  -- "`inject_input` checks 10, then 8."
  pub injects : inject_input (message 1 2 3 4 five 22) midst ≡ done (record { table = floor_table; states = floor_states; active = job 9 1 21 ∷ message 1 2 3 4 five 22 ∷ []; clock = three; place = 5 })
  pub inject-bad : inject_input bad_time midst ≡ refused BadTime
  pub inject-256th : given (inject_input (job 9 1 1) (with_active (jobs 9 255))) ≡ 0
  pub inject-257th : inject_input (job 9 1 1) (with_active (jobs 9 256)) ≡ refused NoMessageRoom
  pub inject-ten-first : inject_input bad_time (with_active (jobs 9 256)) ≡ refused BadTime
  -- "`reset` clears messages and clock only." and its halves
  pub resets : reset midst ≡ done (record { table = floor_table; states = floor_states; active = []; clock = instant; place = 5 })
  pub resets-messages : reset_messages midst ≡ done (record { table = floor_table; states = floor_states; active = []; clock = three; place = 5 })
  pub resets-time : reset_global_time midst ≡ done (record { table = floor_table; states = floor_states; active = job 9 1 21 ∷ []; clock = instant; place = 5 })
  -- messages: 13 "or the active messages listed, and they don't fit"
  pub messages : get_messages 1 midst ≡ done (job 9 1 21 ∷ [])
  pub messages-no-room : get_messages 0 midst ≡ refused NoOutRoom
  pub messages-none : get_messages 0 (with_active []) ≡ done []
  -- clock
  pub clock : get_global_time midst ≡ done three
  -- "Status: phase for processor and batcher; for a stopwatch the mean ..; for a Coupled its parked count"
  pub status-processor : get_status 1 midst ≡ done (OfProcessor working.Active)
  pub status-batcher : get_status 2 midst ≡ done (OfBatcher batching.Batching)
  pub status-stopwatch : get_status 3 midst ≡ done (Mean (Some three))
  pub status-none : get_status 3 (begun floor_table) ≡ done (Mean None)
  pub status-coupled : get_status 4 midst ≡ done (ParkedCount 1)
  -- 4: "status of an id not among the models without parent"
  pub status-component : get_status 5 midst ≡ refused ModelNotFound
  pub status-missing : get_status 9 midst ≡ refused ModelNotFound
  pub status-empty : get_status 1 (begun empty_table) ≡ refused ModelNotFound

pub making : Making
unfolding post put inject_input reset reset_messages reset_global_time get_messages get_global_time get_status is_valid is_time is_timer add sub div of_int le fits of_bits to_bits intake passes_intake
making = record {
  posts = refl;
  post-refused = refl;
  handed-back = refl;
  puts = refl;
  put_refused = refl;
  injects = refl;
  inject-bad = refl;
  inject-256th = refl;
  inject-257th = refl;
  inject-ten-first = refl;
  resets = refl;
  resets-messages = refl;
  resets-time = refl;
  messages = refl;
  messages-no-room = refl;
  messages-none = refl;
  clock = refl;
  status-processor = refl;
  status-batcher = refl;
  status-stopwatch = refl;
  status-none = refl;
  status-coupled = refl;
  status-component = refl;
  status-missing = refl;
  status-empty = refl;
}

-- ---- runs: a ring of two batchers (m = 1) that hand one job to and fro, each message a row
abbrev ring : List Message → Simulation
ring ms = record {
  table = record { rows = row 1 (a_batcher 1 ten) ∷ row 2 (a_batcher 1 ten) ∷ []; connectors = link 1 2 2 1 ∷ link 2 2 1 1 ∷ []; couplings = [] };
  states = no_batch ∷ no_batch ∷ [];
  active = ms;
  clock = three;
  place = 0;
}

-- a batcher (m = 2) with a job, whose batch time ends 2 later
abbrev batch_ends : Simulation
batch_ends = record {
  table = record { rows = row 1 (a_batcher 2 ten) ∷ []; connectors = link 1 2 9 1 ∷ []; couplings = [] };
  states = batch (11 ∷ []) two ∷ [];
  active = [];
  clock = three;
  place = 0;
}

-- a batcher (m = 2) to which three jobs come at once: two leave, then none, then the third at its batch time
abbrev uneven : Simulation
uneven = record {
  table = record { rows = row 1 (a_batcher 2 ten) ∷ []; connectors = link 1 2 8 1 ∷ []; couplings = [] };
  states = no_batch ∷ [];
  active = jobs 1 3;
  clock = three;
  place = 0;
}

-- a batcher that releases 52 jobs along five connectors
abbrev crowded : Simulation
crowded = record {
  table = record { rows = row 1 (a_batcher 64 ten) ∷ []; connectors = replicate 5 (link 1 2 9 1); couplings = [] };
  states = release (from 1 52) ∷ [];
  active = [];
  clock = three;
  place = 0;
}

-- how a run ended, its steps, its rows' targets, the targets of the messages left active, and the clock
pub record Seen : Type 0 where
  pub end : End
  pub steps : ℕ
  pub rows : List ℕ
  pub left : List ℕ
  pub clock : Float

abbrev targets : List Message → List ℕ
targets ms = map (λ (m : Message). m.target_id) ms

abbrev see : Ran → Seen
see r = record { end = r.end; steps = r.steps; rows = targets r.rows; left = targets r.sim.active; clock = r.sim.clock }

unfoldable pub ran_n : ℕ → ℕ → Simulation → Seen
ran_n room count sim = see (step_n [] room count sim)

unfoldable pub ran_until : Float → ℕ → ℕ → Simulation → Seen
ran_until until room allowance sim = see (step_until [] until room allowance sim)

abbrev going : Simulation
going = ring (job 1 1 11 ∷ [])

pub record Running : Type 0 where
  -- "`step_n` .. collects the messages of all its steps, and ends Done or by a refusal, with its number of completed steps"
  pub n-0 : ran_n 0 0 going ≡ record { end = Done; steps = 0; rows = []; left = 1 ∷ []; clock = three }
  pub n-3 : ran_n 3 3 going ≡ record { end = Done; steps = 3; rows = 2 ∷ 1 ∷ 2 ∷ []; left = 2 ∷ []; clock = three }
  -- the room that is left is less the rows collected so far: here 2, 0 and 1
  pub n-room-3 : ran_n 3 3 uneven ≡ record { end = Done; steps = 3; rows = 8 ∷ 8 ∷ 8 ∷ []; left = 8 ∷ []; clock = at 0x402A_0000_0000_0000 }
  pub n-room-2 : ran_n 2 3 uneven ≡ record { end = Refused NoOutRoom; steps = 2; rows = 8 ∷ 8 ∷ []; left = []; clock = three }
  pub until-room-3 : ran_until latest 3 3 uneven ≡ record { end = Spent; steps = 3; rows = 8 ∷ 8 ∷ 8 ∷ []; left = 8 ∷ []; clock = at 0x402A_0000_0000_0000 }
  pub until-room-2 : ran_until latest 2 3 uneven ≡ record { end = Refused NoOutRoom; steps = 2; rows = 8 ∷ 8 ∷ []; left = []; clock = three }
  -- "`step` is `step_n` for one step"
  pub one-step-no-room : see (step [] 0 going) ≡ record { end = Refused NoOutRoom; steps = 0; rows = []; left = 1 ∷ []; clock = three }
  pub one-step : see (step [] 1 going) ≡ record { end = Done; steps = 1; rows = 2 ∷ []; left = 2 ∷ []; clock = three }
  -- "`step_n` and `step_until` stop at the refused step: they keep earlier steps and rows, and return number, steps and rows." 13: "a step's rows must be collected, .. and they don't fit"
  pub n-no-room : ran_n 2 5 going ≡ record { end = Refused NoOutRoom; steps = 2; rows = 2 ∷ 1 ∷ []; left = 1 ∷ []; clock = three }
  pub n-idle : ran_n 9 5 batch_ends ≡ record { end = Refused Idle; steps = 2; rows = 9 ∷ []; left = []; clock = five }
  -- "13 comes last": where the messages out are too many as well, it is 8
  pub room-last : (ran_n 0 1 crowded).end ≡ Refused NoMessageRoom
  pub room-only : (ran_n 0 1 (ring (job 1 1 11 ∷ []))).end ≡ Refused NoOutRoom
  pub no-room-not-needed : (ran_n 0 1 (ring (job 9 1 11 ∷ []))).end ≡ Done
  -- "`step_until` steps first and then looks: below `until` it collects and goes on, else it ends and does not collect, though those messages stay active."
  pub until-steps-first : ran_until instant 9 9 going ≡ record { end = Reached; steps = 1; rows = []; left = 2 ∷ []; clock = three }
  pub until-reached : ran_until five 9 9 batch_ends ≡ record { end = Reached; steps = 1; rows = []; left = 9 ∷ []; clock = five }
  pub until-no-room-needed : ran_until five 0 9 batch_ends ≡ record { end = Reached; steps = 1; rows = []; left = 9 ∷ []; clock = five }
  pub until-below : ran_until six 9 9 batch_ends ≡ record { end = Refused Idle; steps = 2; rows = 9 ∷ []; left = []; clock = five }
  -- "It ends Reached, Spent (allowance used up before that) or by a refusal, and reports the number of steps that it completed. Allowance 0 gives Spent and 0 steps"
  pub until-spent : ran_until six 9 2 going ≡ record { end = Spent; steps = 2; rows = 2 ∷ 1 ∷ []; left = 1 ∷ []; clock = three }
  pub until-last : (ran_until five 9 1 batch_ends).end ≡ Reached
  pub until-0 : ran_until six 9 0 going ≡ record { end = Spent; steps = 0; rows = []; left = 1 ∷ []; clock = three }
  pub until-no-room : ran_until six 1 9 going ≡ record { end = Refused NoOutRoom; steps = 1; rows = 2 ∷ []; left = 2 ∷ []; clock = three }
  -- "A bad `until` is refused before any step.": also with allowance 0
  pub until-bad : ran_until minus_zero 9 9 going ≡ record { end = Refused BadTime; steps = 0; rows = []; left = 1 ∷ []; clock = three }
  pub until-infinite : (ran_until never 9 0 going).end ≡ Refused BadTime
  pub until-latest : (ran_until latest 9 0 going).end ≡ Spent
  -- "20 comes first, in every call."
  pub bad-put : put too_many broken ≡ refused BadState
  pub bad-inject : inject_input bad_time broken ≡ refused BadState
  pub bad-reset : reset broken ≡ refused BadState
  pub bad-reset-messages : reset_messages broken ≡ refused BadState
  pub bad-reset-time : reset_global_time broken ≡ refused BadState
  pub bad-step : (step [] 0 broken).end ≡ Refused BadState
  pub bad-n : (ran_n 9 0 broken).end ≡ Refused BadState
  pub bad-until : (ran_until never 9 0 broken).end ≡ Refused BadState
  pub bad-messages : get_messages 0 broken ≡ refused BadState
  pub bad-clock : get_global_time broken ≡ refused BadState
  pub bad-status : get_status 9 broken ≡ refused BadState

pub running : Running
unfolding ran_n ran_until step step_n steps step_until steps_until put inject_input reset reset_messages reset_global_time get_messages get_global_time get_status is_valid is_time is_timer least_of add sub lt le eq fits of_bits to_bits service processor_external processor_internal batcher_external batcher_internal stopwatch_external stopwatch_internal timer external internal step_on intake passes_intake
running = record {
  n-0 = refl;
  n-3 = refl;
  n-room-3 = refl;
  n-room-2 = refl;
  until-room-3 = refl;
  until-room-2 = refl;
  one-step-no-room = refl;
  one-step = refl;
  n-no-room = refl;
  n-idle = refl;
  room-last = refl;
  room-only = refl;
  no-room-not-needed = refl;
  until-steps-first = refl;
  until-reached = refl;
  until-no-room-needed = refl;
  until-below = refl;
  until-spent = refl;
  until-last = refl;
  until-0 = refl;
  until-no-room = refl;
  until-bad = refl;
  until-infinite = refl;
  until-latest = refl;
  bad-put = refl;
  bad-inject = refl;
  bad-reset = refl;
  bad-reset-messages = refl;
  bad-reset-time = refl;
  bad-step = refl;
  bad-n = refl;
  bad-until = refl;
  bad-messages = refl;
  bad-clock = refl;
  bad-status = refl;
}

-- ---- 20: one thing broken at a time. A table of one row, and its state
abbrev one_of : Kind → State → Simulation
one_of kind state = record { table = record { rows = row 1 kind ∷ []; connectors = []; couplings = [] }; states = state ∷ []; active = []; clock = three; place = 0 }

unfoldable pub fits_one : Kind → State → Bool
fits_one kind state = is_valid (one_of kind state)

-- at and over a content's width
abbrev large : ℕ
large = 2 ^ 32 - 1

abbrev over : ℕ
over = 2 ^ 32

abbrev wide : ℕ
wide = 2 ^ 16

abbrev nan : Float
nan = at 0x7FF8_0000_0000_0000

abbrev above_latest : Float
above_latest = at 0x43B0_0000_0000_0001

abbrev watch_of : Float → List Marks → State
watch_of timer jobs = of_stopwatch (record { phase = watching.Passive; timer = timer; jobs = jobs })

abbrev started_at : ℕ → Float → Marks
started_at name start = record { name = name; start = Some start; stop = None }

abbrev stopped_at : ℕ → Float → Marks
stopped_at name stop = record { name = name; start = None; stop = Some stop }

pub record Asked : Type 0 where
  pub midst-fits : is_valid midst ≡ true
  pub empty-fits : is_valid (begun empty_table) ≡ true
  -- "the table .. passes intake"
  pub table-2 : fits_one (a_batcher 0 ten) no_batch ≡ false
  pub table-1 : is_valid (begun (record { rows = map (λ k. row k coupled) (from 1 65); connectors = []; couplings = [] })) ≡ false
  pub table-3 : is_valid (begun (record { rows = []; connectors = link wide 1 1 1 ∷ []; couplings = [] })) ≡ false
  pub table-3-coupling : is_valid (begun (record { rows = row 1 coupled ∷ []; connectors = []; couplings = external_input 1 1 2 1 ∷ [] })) ≡ false
  -- a state for each row, of the row's kind
  pub states-few : is_valid (with_states []) ≡ false
  pub states-many : is_valid (with_states (floor_states ++ no_batch ∷ [])) ≡ false
  pub kind-processor : fits_one (a_processor 8) no_batch ≡ false
  pub kind-batcher : fits_one (a_batcher 2 ten) (watch []) ≡ false
  pub kind-stopwatch : fits_one (a_stopwatch Minimum) (of_coupled []) ≡ false
  pub kind-coupled : fits_one coupled (passive [] never) ≡ false
  -- "lengths and fields keep the sizes above": 64 jobs, 64 names, 64 parked, 256 active; contents, ids and ports
  pub queue-64 : fits_one (a_processor 100) (active (from 1 64) two) ≡ true
  pub queue-65 : fits_one (a_processor 100) (active (from 1 65) two) ≡ false
  pub queue-large : fits_one (a_processor 8) (active (large ∷ []) two) ≡ true
  pub queue-over : fits_one (a_processor 8) (active (7 ∷ over ∷ []) two) ≡ false
  pub batch-64 : fits_one (a_batcher 2 ten) (batch (from 1 64) two) ≡ true
  pub batch-65 : fits_one (a_batcher 2 ten) (batch (from 1 65) two) ≡ false
  pub batch-over : fits_one (a_batcher 2 ten) (batch (over ∷ []) two) ≡ false
  pub names-64 : fits_one (a_stopwatch Minimum) (watch_of never (map (λ k. started_at k one) (from 1 64))) ≡ true
  pub names-65 : fits_one (a_stopwatch Minimum) (watch_of never (map (λ k. started_at k one) (from 1 65))) ≡ false
  pub name-large : fits_one (a_stopwatch Minimum) (watch_of never (started_at large one ∷ [])) ≡ true
  pub name-over : fits_one (a_stopwatch Minimum) (watch_of never (started_at over one ∷ [])) ≡ false
  pub parked-64 : fits_one coupled (of_coupled (replicate 64 (parked_at 1 1 1))) ≡ true
  pub parked-65 : fits_one coupled (of_coupled (replicate 65 (parked_at 1 1 1))) ≡ false
  pub parked-last : fits_one coupled (of_coupled (parked_at (wide - 1) (wide - 1) large ∷ [])) ≡ true
  pub parked-component : fits_one coupled (of_coupled (parked_at wide 1 1 ∷ [])) ≡ false
  pub parked-port : fits_one coupled (of_coupled (parked_at 1 wide 1 ∷ [])) ≡ false
  pub parked-content : fits_one coupled (of_coupled (parked_at 1 1 over ∷ [])) ≡ false
  pub active-256 : is_valid (with_active (jobs 9 256)) ≡ true
  pub active-257 : is_valid (with_active (jobs 9 257)) ≡ false
  pub message-last : is_valid (with_active (message (wide - 1) (wide - 1) (wide - 1) (wide - 1) latest large ∷ [])) ≡ true
  pub message-source : is_valid (with_active (message wide 1 1 1 one 1 ∷ [])) ≡ false
  pub message-source-port : is_valid (with_active (message 1 wide 1 1 one 1 ∷ [])) ≡ false
  pub message-target : is_valid (with_active (message 1 1 wide 1 one 1 ∷ [])) ≡ false
  pub message-target-port : is_valid (with_active (message 1 1 1 wide one 1 ∷ [])) ≡ false
  pub message-content : is_valid (with_active (message 1 1 1 1 one over ∷ [])) ≡ false
  pub place-last : is_valid (with_place (2 ^ 64 - 1)) ≡ true
  pub place-over : is_valid (with_place (2 ^ 64)) ≡ false
  -- "clock .., message times and stopwatch marks are times"
  pub clock-latest : is_valid (with_clock latest) ≡ true
  pub clock-above : is_valid (with_clock above_latest) ≡ false
  pub clock-minus-zero : is_valid (with_clock minus_zero) ≡ false
  pub clock-nan : is_valid (with_clock nan) ≡ false
  pub clock-infinite : is_valid (with_clock never) ≡ false
  pub message-time : is_valid (with_active (message 1 1 1 1 never 1 ∷ [])) ≡ false
  pub start-infinite : fits_one (a_stopwatch Minimum) (watch_of never (started_at 1 never ∷ [])) ≡ false
  pub stop-minus-zero : fits_one (a_stopwatch Minimum) (watch_of never (stopped_at 1 minus_zero ∷ [])) ≡ false
  pub marks-latest : fits_one (a_stopwatch Minimum) (watch_of never (started_at 1 latest ∷ stopped_at 2 latest ∷ [])) ≡ true
  -- "each timer is a time or infinite"
  pub timer-processor : fits_one (a_processor 8) (passive [] minus_zero) ≡ false
  pub timer-batcher : fits_one (a_batcher 2 ten) (batch [] above_latest) ≡ false
  pub timer-stopwatch : fits_one (a_stopwatch Minimum) (watch_of nan []) ≡ false
  pub timer-latest : fits_one (a_batcher 2 ten) (batch [] latest) ≡ true
  -- "a processor holds at most its capacity, and at least one job if Active"
  pub capacity-full : fits_one (a_processor 1) (active (7 ∷ []) two) ≡ true
  pub capacity-over : fits_one (a_processor 1) (active (7 ∷ 8 ∷ []) two) ≡ false
  pub capacity-0 : fits_one (a_processor 0) (passive [] never) ≡ true
  pub active-empty : fits_one (a_processor 8) (active [] two) ≡ false
  pub passive-empty : fits_one (a_processor 8) (passive [] two) ≡ true
  pub passive-held : fits_one (a_processor 8) (passive (7 ∷ []) two) ≡ true
  -- "a stopwatch's names differ"
  pub names-twice : fits_one (a_stopwatch Minimum) (watch_of never (started_at 1 one ∷ started_at 2 one ∷ stopped_at 1 two ∷ [])) ≡ false

pub asked : Asked
unfolding fits_one is_valid is_time is_timer le fits of_bits intake passes_intake
asked = record {
  midst-fits = refl;
  empty-fits = refl;
  table-2 = refl;
  table-1 = refl;
  table-3 = refl;
  table-3-coupling = refl;
  states-few = refl;
  states-many = refl;
  kind-processor = refl;
  kind-batcher = refl;
  kind-stopwatch = refl;
  kind-coupled = refl;
  queue-64 = refl;
  queue-65 = refl;
  queue-large = refl;
  queue-over = refl;
  batch-64 = refl;
  batch-65 = refl;
  batch-over = refl;
  names-64 = refl;
  names-65 = refl;
  name-large = refl;
  name-over = refl;
  parked-64 = refl;
  parked-65 = refl;
  parked-last = refl;
  parked-component = refl;
  parked-port = refl;
  parked-content = refl;
  active-256 = refl;
  active-257 = refl;
  message-last = refl;
  message-source = refl;
  message-source-port = refl;
  message-target = refl;
  message-target-port = refl;
  message-content = refl;
  place-last = refl;
  place-over = refl;
  clock-latest = refl;
  clock-above = refl;
  clock-minus-zero = refl;
  clock-nan = refl;
  clock-infinite = refl;
  message-time = refl;
  start-infinite = refl;
  stop-minus-zero = refl;
  marks-latest = refl;
  timer-processor = refl;
  timer-batcher = refl;
  timer-stopwatch = refl;
  timer-latest = refl;
  capacity-full = refl;
  capacity-over = refl;
  capacity-0 = refl;
  active-empty = refl;
  passive-empty = refl;
  passive-held = refl;
  names-twice = refl;
}

-- ---- an event on its own: "a .. model state handed in, by value .. the model's row .. clock (also one given to an event)"; 20 before all else
pub record Alone : Type 0 where
  pub processor-works : given (processor_external_call (record { input = 1; output = 2; queue_capacity = 8 }) (four ∷ []) 1 9 (record { phase = working.Passive; timer = never; queue = [] }) 0) ≡ 0
  pub processor-state : processor_external_call (record { input = 1; output = 2; queue_capacity = 8 }) [] 9 9 (record { phase = working.Active; timer = two; queue = [] }) 0 ≡ refused BadState
  pub processor-row : processor_external_call (record { input = wide; output = 2; queue_capacity = 8 }) [] 9 9 (record { phase = working.Passive; timer = never; queue = [] }) 0 ≡ refused BadState
  pub processor-inside : processor_internal_call (record { input = 1; output = 2; queue_capacity = 8 }) [] (record { phase = working.Active; timer = two; queue = [] }) 0 ≡ refused BadState
  pub processor-inside-works : given (processor_internal_call (record { input = 1; output = 2; queue_capacity = 8 }) [] (record { phase = working.Passive; timer = two; queue = [] }) 0) ≡ 0
  pub batcher-works : given (batcher_external_call (record { input = 1; output = 2; max_batch_size = 2; max_batch_time = ten }) 9 (record { phase = batching.Passive; timer = never; jobs = [] })) ≡ 0
  pub batcher-state : batcher_external_call (record { input = 1; output = 2; max_batch_size = 2; max_batch_time = ten }) 9 (record { phase = batching.Release; timer = nan; jobs = [] }) ≡ refused BadState
  pub batcher-row : batcher_internal_call (record { input = 1; output = 2; max_batch_size = 0; max_batch_time = ten }) (record { phase = batching.Passive; timer = never; jobs = [] }) ≡ refused BadState
  pub batcher-inside-works : given (batcher_internal_call (record { input = 1; output = 2; max_batch_size = 2; max_batch_time = ten }) (record { phase = batching.Passive; timer = never; jobs = [] })) ≡ 0
  pub stopwatch-works : given (stopwatch_external_call (record { start = 1; stop = 2; ask = 3; output = 4; metric = Minimum }) five 1 9 (record { phase = watching.Passive; timer = never; jobs = [] })) ≡ 0
  pub stopwatch-state : stopwatch_external_call (record { start = 1; stop = 2; ask = 3; output = 4; metric = Minimum }) five 9 9 (record { phase = watching.Passive; timer = minus_zero; jobs = [] }) ≡ refused BadState
  pub stopwatch-clock : stopwatch_external_call (record { start = 1; stop = 2; ask = 3; output = 4; metric = Minimum }) never 9 9 (record { phase = watching.Passive; timer = never; jobs = [] }) ≡ refused BadState
  pub stopwatch-inside : stopwatch_internal_call (record { start = 1; stop = 1; ask = 3; output = 4; metric = Minimum }) (record { phase = watching.Passive; timer = never; jobs = [] }) ≡ refused BadState
  pub stopwatch-inside-works : given (stopwatch_internal_call (record { start = 1; stop = 2; ask = 3; output = 4; metric = Minimum }) (record { phase = watching.Passive; timer = never; jobs = [] })) ≡ 0

pub alone : Alone
unfolding processor_external_call processor_internal_call batcher_external_call batcher_internal_call stopwatch_external_call stopwatch_internal_call model_fits is_time is_timer le fits of_bits service processor_external processor_internal batcher_external batcher_internal stopwatch_external stopwatch_internal
alone = record {
  processor-works = refl;
  processor-state = refl;
  processor-row = refl;
  processor-inside = refl;
  processor-inside-works = refl;
  batcher-works = refl;
  batcher-state = refl;
  batcher-row = refl;
  batcher-inside-works = refl;
  stopwatch-works = refl;
  stopwatch-state = refl;
  stopwatch-clock = refl;
  stopwatch-inside = refl;
  stopwatch-inside-works = refl;
}

-- ---- the calls as data, each handed the simulation that the one before left
abbrev four_calls : List Call
four_calls = InjectInput (job 1 1 11) ∷ StepN [] 9 2 ∷ ResetMessages ∷ Step [] 9 ∷ []

pub record AsData : Type 0 where
  pub inject-call : called (InjectInput (job 1 1 11)) (ring []) ≡ ended Done going
  pub inject-call-refused : called (InjectInput bad_time) midst ≡ ended (Refused BadTime) midst
  pub reset-call : called Reset midst ≡ ended Done (record { table = floor_table; states = floor_states; active = []; clock = instant; place = 5 })
  pub reset-messages-call : called ResetMessages midst ≡ ended Done (with_states floor_states)
  pub reset-time-call : called ResetGlobalTime midst ≡ ended Done (record { table = floor_table; states = floor_states; active = job 9 1 21 ∷ []; clock = instant; place = 5 })
  pub step_call : see (called (Step [] 0) going) ≡ record { end = Refused NoOutRoom; steps = 0; rows = []; left = 1 ∷ []; clock = three }
  pub n-call : see (called (StepN [] 2 5) going) ≡ record { end = Refused NoOutRoom; steps = 2; rows = 2 ∷ 1 ∷ []; left = 1 ∷ []; clock = three }
  pub until-call : see (called (StepUntil [] six 1 9) going) ≡ record { end = Refused NoOutRoom; steps = 1; rows = 2 ∷ []; left = 2 ∷ []; clock = three }
  -- a refused call in a list changes nothing, and what happened is told in order
  pub four-calls : calls four_calls (ring []) ≡ (
    ring [],
    came three 0 1 11 Kept ∷ waited instant ∷ went three 0 (out_at 2 11 ∷ []) ∷ came three 1 1 11 Kept ∷ waited instant ∷ went three 1 (out_at 2 11 ∷ []) ∷ [],
  )

pub as-data : AsData
unfolding called step step_n steps step_until steps_until inject_input reset reset_messages reset_global_time is_valid is_time is_timer least_of add sub lt le eq fits of_bits to_bits service processor_external processor_internal batcher_external batcher_internal stopwatch_external stopwatch_internal timer external internal step_on intake passes_intake
as-data = record {
  inject-call = refl;
  inject-call-refused = refl;
  reset-call = refl;
  reset-messages-call = refl;
  reset-time-call = refl;
  step_call = refl;
  n-call = refl;
  until-call = refl;
  four-calls = refl;
}

-- ---- "Ids and ports are 16-bit numbers and contents 32-bit ones at every call", "a 64-bit count", "the allowance is a 32-bit number": each at and over its width
abbrev keeps : Call → Bool
keeps c = hold (call_rules c)

pub record Numbers : Type 0 where
  pub inject-last : keeps (InjectInput (message (wide - 1) (wide - 1) (wide - 1) (wide - 1) never large)) ≡ true
  pub inject-source : keeps (InjectInput (message wide 1 1 1 one 1)) ≡ false
  pub inject-source-port : keeps (InjectInput (message 1 wide 1 1 one 1)) ≡ false
  pub inject-target : keeps (InjectInput (message 1 1 wide 1 one 1)) ≡ false
  pub inject-target-port : keeps (InjectInput (message 1 1 1 wide one 1)) ≡ false
  pub inject-content : keeps (InjectInput (message 1 1 1 1 one over)) ≡ false
  -- a time given is an f64: 2^2000 is none
  pub inject-no-f64 : keeps (InjectInput (message 1 1 1 1 (fin false 1 (pos 2000)) 1)) ≡ false
  pub step-last : keeps (Step (never ∷ minus_zero ∷ []) (2 ^ 64 - 1)) ≡ true
  pub step_room : keeps (Step [] (2 ^ 64)) ≡ false
  pub step-services : keeps (Step (one ∷ fin false 1 (pos 2000) ∷ []) 1) ≡ false
  pub count-last : keeps (StepN [] (2 ^ 64 - 1) (2 ^ 64 - 1)) ≡ true
  pub count_room : keeps (StepN [] (2 ^ 64) 1) ≡ false
  pub count-over : keeps (StepN [] 1 (2 ^ 64)) ≡ false
  pub count-services : keeps (StepN (fin false 1 (pos 2000) ∷ []) 1 1) ≡ false
  pub allowance-last : keeps (StepUntil [] never (2 ^ 64 - 1) (2 ^ 32 - 1)) ≡ true
  pub allowance-over : keeps (StepUntil [] never 1 (2 ^ 32)) ≡ false
  pub until-no-f64 : keeps (StepUntil [] (fin false 1 (pos 2000)) 1 1) ≡ false
  pub until-room : keeps (StepUntil [] one (2 ^ 64) 1) ≡ false
  pub resets-any : (keeps Reset ≡ true) × (keeps ResetMessages ≡ true) × (keeps ResetGlobalTime ≡ true)

pub numbers : Numbers
unfolding fits of_bits
numbers = record {
  inject-last = refl;
  inject-source = refl;
  inject-source-port = refl;
  inject-target = refl;
  inject-target-port = refl;
  inject-content = refl;
  inject-no-f64 = refl;
  step-last = refl;
  step_room = refl;
  step-services = refl;
  count-last = refl;
  count_room = refl;
  count-over = refl;
  count-services = refl;
  allowance-last = refl;
  allowance-over = refl;
  until-no-f64 = refl;
  until-room = refl;
  resets-any = (refl, refl, refl);
}
