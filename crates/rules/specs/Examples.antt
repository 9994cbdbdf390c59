-- Small tables, messages and runs that the computed cases are made of. Definitions only. Assumes nothing.
use Rattle.std.specs.Prelude.{ℕ, zero, suc, List, [], ◌∷◌, map, length, Float, None, Some}
use Rattle.std.specs.Float.{binary64}
use Rattle.std.specs.Float.Ieee.{of_bits, to_bits}
use Rattle.times.specs.Time.{instant, never}
use Rattle.rules.specs.declared.ProcessorPhase.TheVariants as working
use Rattle.rules.specs.declared.BatcherPhase.TheVariants as batching
use Rattle.rules.specs.declared.StopwatchPhase.TheVariants as watching
use Rattle.rules.specs.declared.Metric.{Metric}
use Rattle.rules.specs.declared.Message.{Message}
use Rattle.rules.specs.Names.{number}
use Rattle.rules.specs.Base.{Outcome, refused, done, ◌>>=◌, each, from}
use Rattle.rules.specs.Table.{Kind, processor, batcher, stopwatch, Row, Connector, Coupling}
use Rattle.rules.specs.Intake.{Posted}
use Rattle.rules.specs.Simulation.{State, of_processor, of_batcher, of_stopwatch, Marks, Parked, Simulation}
use Rattle.rules.specs.Calls.{post, inject_input, End, Done, Reached, Spent, Refused, step}

-- ---- times by their bits
abbrev pub at : ℕ → Float
at bits = of_bits binary64 bits

abbrev pub one : Float
one = at 0x3FF0_0000_0000_0000

abbrev pub two : Float
two = at 0x4000_0000_0000_0000

abbrev pub three : Float
three = at 0x4008_0000_0000_0000

abbrev pub four : Float
four = at 0x4010_0000_0000_0000

abbrev pub five : Float
five = at 0x4014_0000_0000_0000

abbrev pub six : Float
six = at 0x4018_0000_0000_0000

abbrev pub ten : Float
ten = at 0x4024_0000_0000_0000

abbrev pub minus_zero : Float
minus_zero = at 0x8000_0000_0000_0000

-- ---- rows: ports in 1 and out 2, a stopwatch's 1, 2, 3 and out 4
abbrev pub posted : List Row → List Connector → List Coupling → Posted
posted rows connectors couplings = record { rows = map Some rows; connectors = map Some connectors; couplings = map Some couplings }

abbrev pub row : ℕ → Kind → Row
row id kind = record { id = id; parent = None; kind = kind }

abbrev pub within : ℕ → ℕ → Kind → Row
within parent id kind = record { id = id; parent = Some parent; kind = kind }

abbrev pub a_batcher : ℕ → Float → Kind
a_batcher size time = batcher (record { input = 1; output = 2; max_batch_size = size; max_batch_time = time })

abbrev pub a_processor : ℕ → Kind
a_processor capacity = processor (record { input = 1; output = 2; queue_capacity = capacity })

abbrev pub a_stopwatch : Metric → Kind
a_stopwatch metric = stopwatch (record { start = 1; stop = 2; ask = 3; output = 4; metric = metric })

abbrev pub link : ℕ → ℕ → ℕ → ℕ → Connector
link s sp t tp = record { source = s; source_port = sp; target = t; target_port = tp }

-- ---- states
abbrev pub active : List ℕ → Float → State
active jobs t = of_processor (record { phase = working.Active; timer = t; queue = jobs })

abbrev pub passive : List ℕ → Float → State
passive jobs t = of_processor (record { phase = working.Passive; timer = t; queue = jobs })

abbrev pub batch : List ℕ → Float → State
batch jobs t = of_batcher (record { phase = batching.Batching; timer = t; jobs = jobs })

abbrev pub release : List ℕ → State
release jobs = of_batcher (record { phase = batching.Release; timer = instant; jobs = jobs })

abbrev pub no_batch : State
no_batch = of_batcher (record { phase = batching.Passive; timer = never; jobs = [] })

abbrev pub watch : List Marks → State
watch jobs = of_stopwatch (record { phase = watching.Passive; timer = never; jobs = jobs })

abbrev pub parked_at : ℕ → ℕ → ℕ → Parked
parked_at component port content = record { component = component; port = port; content = content }

-- ---- messages and jobs
abbrev pub message : ℕ → ℕ → ℕ → ℕ → Float → ℕ → Message
message s sp t tp time content = record { source_id = s; source_port = sp; target_id = t; target_port = tp; time = time; content = content }

abbrev pub job : ℕ → ℕ → ℕ → Message
job id port content = message 0 0 id port instant content

-- n jobs at id:1, with the contents 1, 2, ..
abbrev pub jobs : ℕ → ℕ → List Message
jobs id n = map (λ k. job id 1 k) (from 1 n)

-- ---- runs
-- a table posted, with messages injected
unfoldable pub start : Posted → List Message → Outcome Simulation
start p ms = post p >>= each inject_input ms

-- the bits of the clock and the number of messages after each of n steps, and then how the next step ends
unfoldable pub listing : List Float → ℕ → Simulation → List (ℕ × ℕ) × End
listing services zero sim = ([], (step services 256 sim).end)
listing services (suc n) sim =
    let r = step services 256 sim in
    let rest = listing services n r.sim in
    ((to_bits binary64 r.sim.clock, length r.sim.active) ∷ rest.0, rest.1)

-- ---- the number of a refusal, and 0 where there is none
abbrev pub given : {A : Type 0} → Outcome A → ℕ
given (refused r) = number r
given (done a) = 0

abbrev pub ending : End → ℕ
ending Done = 0
ending Reached = 0
ending Spent = 0
ending (Refused r) = number r
