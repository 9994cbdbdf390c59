-- What the cases are written in: tables, calls and answers in short words, with every time by its bits. Definitions only. Assumes nothing.
use Rattle.std.specs.Prelude.{ℕ, zero, suc, List, [], ◌∷◌, ◌++◌, map, Float, Option, None, Some}
use Rattle.std.specs.Float.{binary64}
use Rattle.std.specs.Float.Ieee.{add, sub, div, of_int, lt, le, eq, fits, of_bits, to_bits}
use Rattle.times.specs.Time.{instant, is_time, is_timer, least_of}
use Rattle.rules.specs.declared.ProcessorPhase.{ProcessorPhase}
use Rattle.rules.specs.declared.ProcessorPhase.TheVariants as working
use Rattle.rules.specs.declared.BatcherPhase.{BatcherPhase}
use Rattle.rules.specs.declared.BatcherPhase.TheVariants as batching
use Rattle.rules.specs.declared.StopwatchPhase.{StopwatchPhase}
use Rattle.rules.specs.declared.StopwatchPhase.TheVariants as watching
use Rattle.rules.specs.declared.Metric.{Metric}
use Rattle.rules.specs.declared.Metric.TheVariants.{Minimum, Maximum}
use Rattle.rules.specs.declared.Message.{Message}
use Rattle.rules.specs.Names.{number}
use Rattle.rules.specs.Sizes.{omitted_capacity}
use Rattle.rules.specs.Base.{Outcome, refused, done}
use Rattle.rules.specs.Table.{Kind, processor, batcher, stopwatch, coupled, Row, Connector, Coupling, external_input, external_output, internal_coupling}
use Rattle.rules.specs.Intake.{Posted, intake, passes_intake}
use Rattle.rules.specs.Simulation.{Marks, Parked, State, of_processor, of_batcher, of_stopwatch, of_coupled, Simulation, begun, empty_table}
use Rattle.rules.specs.Models.{service, processor_external, processor_internal, batcher_external, batcher_internal, stopwatch_external, stopwatch_internal}
use Rattle.rules.specs.Step.{timer, external, internal, step_on}
use Rattle.rules.specs.Valid.{is_valid}
use Rattle.rules.specs.Calls as calls

-- ---- times by their bits
abbrev pub at : ℕ → Float
at bits = of_bits binary64 bits

abbrev pub bits_of : Float → ℕ
bits_of x = to_bits binary64 x

abbrev pub inf : ℕ
inf = 0x7ff0000000000000

-- ---- a table: id, parent (0: none), ports, settings
abbrev pub parent_of : ℕ → Option ℕ
parent_of zero = None
parent_of (suc n) = Some (suc n)

abbrev pub row_of : ℕ → ℕ → Kind → Row
row_of id parent kind = record { id = id; parent = parent_of parent; kind = kind }

-- ports in and out, capacity
abbrev pub proc : ℕ → ℕ → ℕ → ℕ → ℕ → Row
proc id parent i o capacity = row_of id parent (processor (record { input = i; output = o; queue_capacity = capacity }))

-- an omitted capacity
abbrev pub full : ℕ
full = omitted_capacity

-- ports in and out, maximum, batch time
abbrev pub bat : ℕ → ℕ → ℕ → ℕ → ℕ → ℕ → Row
bat id parent i o size time = row_of id parent (batcher (record { input = i; output = o; max_batch_size = size; max_batch_time = at time }))

abbrev pub timed : Metric → ℕ → ℕ → ℕ → ℕ → ℕ → ℕ → Row
timed metric id parent start stop ask o = row_of id parent (stopwatch (record { start = start; stop = stop; ask = ask; output = o; metric = metric }))

-- ports of start, stop and metric, port out
abbrev pub least : ℕ → ℕ → ℕ → ℕ → ℕ → ℕ → Row
least = timed Minimum

abbrev pub most : ℕ → ℕ → ℕ → ℕ → ℕ → ℕ → Row
most = timed Maximum

abbrev pub coup : ℕ → ℕ → Row
coup id parent = row_of id parent coupled

abbrev pub link : ℕ → ℕ → ℕ → ℕ → Connector
link s sp t tp = record { source = s; source_port = sp; target = t; target_port = tp }

abbrev pub into : ℕ → ℕ → ℕ → ℕ → Coupling
into = external_input

abbrev pub out : ℕ → ℕ → ℕ → ℕ → Coupling
out = external_output

abbrev pub inner : ℕ → ℕ → ℕ → ℕ → ℕ → Coupling
inner = internal_coupling

abbrev pub table_of : List Row → List Connector → List Coupling → Posted
table_of rows links couplings = record { rows = map Some rows; connectors = map Some links; couplings = map Some couplings }

-- ---- the calls
pub data Act : Type 0 where
  inject : (source source_port target target_port time content : ℕ) → Act
  step reset reset-messages reset-global-time : Act
  steps : (count : ℕ) → Act
  until : (time allowance : ℕ) → Act
  put_in : List Row → List Connector → List Coupling → Act
  status : (id : ℕ) → Act
  look : Act

abbrev pub job : ℕ → ℕ → ℕ → Act
job id port content = inject 0 0 id port 0 content

abbrev pub message_of : ℕ → ℕ → ℕ → ℕ → ℕ → ℕ → Message
message_of s sp t tp time content = record { source_id = s; source_port = sp; target_id = t; target_port = tp; time = at time; content = content }

-- ---- what is seen. A message: "one row of six u64 in that order, the time as its bits"
abbrev pub Line : Type 0
Line = ℕ × ℕ × ℕ × ℕ × ℕ × ℕ

abbrev pub line_of : Message → Line
line_of m = (m.source_id, m.source_port, m.target_id, m.target_port, bits_of m.time, m.content)

-- a stopwatch's job: name, start, stop
abbrev pub Mark : Type 0
Mark = ℕ × Option ℕ × Option ℕ

abbrev pub mark_bits : Option Float → Option ℕ
mark_bits None = None
mark_bits (Some x) = Some (bits_of x)

abbrev pub mark_of : Marks → Mark
mark_of m = (m.name, mark_bits m.start, mark_bits m.stop)

-- a model's state: phase, timer, what is held; of a Coupled what is parked (component, port, content)
pub data Model : Type 0 where
  p_passive p_active b_passive b_batching b_release : (timer : ℕ) → List ℕ → Model
  s_passive s_job_fetch : (timer : ℕ) → List Mark → Model
  parks : List (ℕ × ℕ × ℕ) → Model

-- fresh ones
abbrev pub p0 : Model
p0 = p_passive inf []

abbrev pub b0 : Model
b0 = b_passive inf []

abbrev pub s0 : Model
s0 = s_passive inf []

abbrev pub c0 : Model
c0 = parks []

abbrev pub of_p : ProcessorPhase → ℕ → List ℕ → Model
of_p working.Passive = p_passive
of_p working.Active = p_active

abbrev pub of_b : BatcherPhase → ℕ → List ℕ → Model
of_b batching.Passive = b_passive
of_b batching.Batching = b_batching
of_b batching.Release = b_release

abbrev pub of_s : StopwatchPhase → ℕ → List Mark → Model
of_s watching.Passive = s_passive
of_s watching.JobFetch = s_job_fetch

abbrev pub model_of : State → Model
model_of (of_processor s) = of_p s.phase (bits_of s.timer) s.queue
model_of (of_batcher s) = of_b s.phase (bits_of s.timer) s.jobs
model_of (of_stopwatch s) = of_s s.phase (bits_of s.timer) (map mark_of s.jobs)
model_of (of_coupled parked) = parks (map (λ (m : Parked). (m.component, m.port, m.content)) parked)

-- an answer. Of a run: how it ended, with the number of a refusal; its steps and its rows, then the clock and the place. To `look`: every model, in row order, and the active messages.
pub data Answer : Type 0 where
  ran reached spent : (steps : ℕ) → List Line → (clock place : ℕ) → Answer
  stopped : (refusal steps : ℕ) → List Line → (clock place : ℕ) → Answer
  refuses : (refusal : ℕ) → Answer
  says : calls.Status → Answer
  holds : List Model → List Line → Answer

abbrev pub ending : calls.End → ℕ → List Line → ℕ → ℕ → Answer
ending calls.Done = ran
ending calls.Reached = reached
ending calls.Spent = spent
ending (calls.Refused r) = stopped (number r)

abbrev pub runs : calls.Ran → Answer
runs r = ending r.end r.steps (map line_of r.rows) (bits_of r.sim.clock) r.sim.place

-- a call that answers nothing is seen if it is refused
abbrev pub quiet : Simulation → Outcome Simulation → List Answer × Simulation
quiet sim (refused r) = (refuses (number r) ∷ [], sim)
quiet sim (done next) = ([], next)

abbrev pub loud : calls.Ran → List Answer × Simulation
loud r = (runs r ∷ [], r.sim)

abbrev pub telling : Outcome calls.Status → Answer
telling (refused r) = refuses (number r)
telling (done s) = says s

-- one call, with more room than a case needs
abbrev pub act : List Float → Act → Simulation → List Answer × Simulation
act services (inject s sp t tp time content) sim = quiet sim (calls.inject_input (message_of s sp t tp time content) sim)
act services step sim = loud (calls.step services 4096 sim)
act services reset sim = quiet sim (calls.reset sim)
act services reset-messages sim = quiet sim (calls.reset_messages sim)
act services reset-global-time sim = quiet sim (calls.reset_global_time sim)
act services (steps count) sim = loud (calls.step_n services 4096 count sim)
act services (until time allowance) sim = loud (calls.step_until services (at time) 4096 allowance sim)
act services (put_in rows links couplings) sim = quiet sim (calls.put (table_of rows links couplings) sim)
act services (status id) sim = (telling (calls.get_status id sim) ∷ [], sim)
act services look sim = (holds (map model_of sim.states) (map line_of sim.active) ∷ [], sim)

-- the answers of all calls, and the models and active messages that they leave
pub data Seen : Type 0 where
  seen : List Answer → List Model → List Line → Seen

abbrev pub before : List Answer → Seen → Seen
before answers (seen more models left) = seen (answers ++ more) models left

abbrev pub acts : List Float → List Act → Simulation → Seen
acts services [] sim = seen [] (map model_of sim.states) (map line_of sim.active)
acts services (a ∷ more) sim = let (answers, next) = act services a sim in before answers (acts services more next)

abbrev pub from : List Float → List Act → Outcome Simulation → Seen
from services more (refused r) = seen (refuses (number r) ∷ []) [] []
from services more (done sim) = acts services more sim

-- a table posted, and the calls made on it
unfoldable pub play : List Row → List Connector → List Coupling → List ℕ → List Act → Seen
unfolding is_time is_timer least_of add sub div of_int lt le eq fits of_bits to_bits intake passes_intake service processor_external processor_internal batcher_external batcher_internal stopwatch_external stopwatch_internal timer external internal step_on is_valid calls.post calls.put calls.inject_input calls.reset calls.reset_messages calls.reset_global_time calls.steps calls.step_n calls.step calls.steps_until calls.step_until calls.get_status
play rows links couplings services more = from (map at services) more (calls.post (table_of rows links couplings))
