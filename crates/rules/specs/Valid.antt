-- What refusal 20 asks of a simulation, and of a model's state, row and clock, sentence by sentence. Definitions only. Assumes nothing.
-- "phases are named ones" and "is cut short" are of the layout: here a phase is a named one, and a list has no end to be cut from.
use Rattle.std.specs.Prelude.{ℕ, Bool, true, false, not, ◌&&◌, List, [], ◌∷◌, map, length, leb, eqb, Float, if◌then◌else◌, Option, None, Some}
use Rattle.times.specs.Time.{is_time, is_timer}
use Rattle.rules.specs.declared.Refusal.TheVariants.{BadState}
use Rattle.rules.specs.declared.ProcessorPhase.{ProcessorPhase}
use Rattle.rules.specs.declared.ProcessorPhase.TheVariants as working
use Rattle.rules.specs.declared.Processor.{Processor}
use Rattle.rules.specs.declared.Batcher.{Batcher}
use Rattle.rules.specs.declared.Stopwatch.{Stopwatch}
use Rattle.rules.specs.declared.Message.{Message}
use Rattle.rules.specs.Sizes.{is_id, is_port, is_content, is_word, most_jobs, most_parked, most_active}
use Rattle.rules.specs.Base.{Outcome, refused, done, every, some_of, hold, is_empty}
use Rattle.rules.specs.Table.{Kind, processor, batcher, stopwatch, coupled, Row}
use Rattle.rules.specs.Intake.{kind_rules, passes_intake}
use Rattle.rules.specs.Simulation.{ProcessorState, BatcherState, Marks, StopwatchState, Parked, State, of_processor, of_batcher, of_stopwatch, of_coupled, Simulation, as_processor, as_batcher, as_stopwatch, as_coupled}
use Rattle.rules.specs.Models.{Fate, processor_external, processor_internal, batcher_external, batcher_internal, stopwatch_external, stopwatch_internal}

-- ---- a Processor's state
abbrev pub is_active : ProcessorPhase → Bool
is_active working.Passive = false
is_active working.Active = true

-- "each timer is a time or infinite", "lengths and fields keep the sizes above", "a processor holds at most its capacity, and at least one job if Active"
abbrev pub processor_rules : Processor → ProcessorState → List Bool
processor_rules p s =
    is_timer s.timer ∷ leb (length s.queue) most_jobs ∷ every is_content s.queue
    ∷ leb (length s.queue) p.queue_capacity ∷ not (is_active s.phase && is_empty s.queue) ∷ []

-- ---- a Batcher's
abbrev pub batcher_rules : BatcherState → List Bool
batcher_rules s = is_timer s.timer ∷ leb (length s.jobs) most_jobs ∷ every is_content s.jobs ∷ []

-- ---- a Stopwatch's: "stopwatch marks are times", "a stopwatch's names differ"
abbrev pub mark_fits : Option Float → Bool
mark_fits None = true
mark_fits (Some x) = is_time x

abbrev pub marks_rules : Marks → List Bool
marks_rules j = is_content j.name ∷ mark_fits j.start ∷ mark_fits j.stop ∷ []

abbrev pub member : ℕ → List ℕ → Bool
member x xs = some_of (λ y. eqb y x) xs

abbrev pub differ : List ℕ → Bool
differ [] = true
differ (x ∷ xs) = let rest = differ xs in if member x xs then false else rest

abbrev pub names : List Marks → List ℕ
names jobs = map (λ (j : Marks). j.name) jobs

abbrev pub stopwatch_rules : StopwatchState → List Bool
stopwatch_rules s = is_timer s.timer ∷ leb (length s.jobs) most_jobs ∷ every (λ j. hold (marks_rules j)) s.jobs ∷ differ (names s.jobs) ∷ []

-- ---- a Coupled's
abbrev pub parked_rules : Parked → List Bool
parked_rules m = is_id m.component ∷ is_port m.port ∷ is_content m.content ∷ []

abbrev pub coupled_rules : List Parked → List Bool
coupled_rules parked = leb (length parked) most_parked ∷ every (λ m. hold (parked_rules m)) parked ∷ []

-- ---- a model's state is of its row's kind, and keeps the rules
abbrev pub kind_number : Kind → ℕ
kind_number (processor p) = 1
kind_number (batcher b) = 2
kind_number (stopwatch w) = 3
kind_number coupled = 4

abbrev pub state_number : State → ℕ
state_number (of_processor s) = 1
state_number (of_batcher s) = 2
state_number (of_stopwatch s) = 3
state_number (of_coupled s) = 4

abbrev pub state_rules : Kind → State → List Bool
state_rules (processor p) s = processor_rules p (as_processor s)
state_rules (batcher b) s = batcher_rules (as_batcher s)
state_rules (stopwatch w) s = stopwatch_rules (as_stopwatch s)
state_rules coupled s = coupled_rules (as_coupled s)

abbrev pub state_fits : Kind → State → Bool
state_fits k s = if eqb (kind_number k) (state_number s) then hold (state_rules k s) else false

abbrev pub states_fit : List Row → List State → Bool
states_fit [] [] = true
states_fit [] (s ∷ ss) = false
states_fit (r ∷ rs) [] = false
states_fit (r ∷ rs) (s ∷ ss) = if state_fits r.kind s then states_fit rs ss else false

-- ---- a simulation: "the table .. passes intake; ..; clock .., message times .. are times"
abbrev pub message_rules : Message → List Bool
message_rules m =
    is_id m.source_id ∷ is_port m.source_port ∷ is_id m.target_id ∷ is_port m.target_port ∷ is_time m.time ∷ is_content m.content ∷ []

abbrev pub simulation_rules : Simulation → List Bool
simulation_rules sim =
    passes_intake sim.table ∷ states_fit sim.table.rows sim.states
    ∷ leb (length sim.active) most_active ∷ every (λ m. hold (message_rules m)) sim.active ∷ is_time sim.clock ∷ is_word sim.place ∷ []

unfoldable pub is_valid : Simulation → Bool
is_valid sim = hold (simulation_rules sim)

-- ---- an event on its own, with the model's row and state, and a clock, handed in by value: "20 comes first, in every call."
unfoldable pub model_fits : Kind → State → Bool
model_fits k s = hold (hold (kind_rules k) ∷ state_fits k s ∷ [])

abbrev pub guarded_by : {A : Type 0} → Bool → Outcome A → Outcome A
guarded_by fits answer = if fits then answer else refused BadState

unfoldable pub processor_external_call : Processor → List Float → ℕ → ℕ → ProcessorState → ℕ → Outcome (ProcessorState × ℕ × Fate)
processor_external_call p services port job s place = guarded_by (model_fits (processor p) (of_processor s)) (processor_external p services port job s place)

unfoldable pub processor_internal_call : Processor → List Float → ProcessorState → ℕ → Outcome (ProcessorState × ℕ × List ℕ)
processor_internal_call p services s place = guarded_by (model_fits (processor p) (of_processor s)) (processor_internal services s place)

unfoldable pub batcher_external_call : Batcher → ℕ → BatcherState → Outcome BatcherState
batcher_external_call b job s = guarded_by (model_fits (batcher b) (of_batcher s)) (batcher_external b job s)

unfoldable pub batcher_internal_call : Batcher → BatcherState → Outcome (BatcherState × List ℕ)
batcher_internal_call b s = guarded_by (model_fits (batcher b) (of_batcher s)) (done (batcher_internal b s))

-- "clock (also one given to an event)"
unfoldable pub stopwatch_external_call : Stopwatch → Float → ℕ → ℕ → StopwatchState → Outcome (StopwatchState × Fate)
stopwatch_external_call w clock port job s = guarded_by (model_fits (stopwatch w) (of_stopwatch s) && is_time clock) (stopwatch_external w clock port job s)

unfoldable pub stopwatch_internal_call : Stopwatch → StopwatchState → Outcome (StopwatchState × List ℕ)
stopwatch_internal_call w s = guarded_by (model_fits (stopwatch w) (of_stopwatch s)) (done (stopwatch_internal w s))
